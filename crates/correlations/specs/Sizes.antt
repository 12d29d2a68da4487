-- The correlation and the size that a line says. Definitions. Assumes nothing.
use Rattle.std.specs.Prelude.{ℕ, Bool, true, false, cond, List, [], ◌∷◌, ◌++◌, eqb, Option as Maybe, Some, None, Result, Ok, Err}
use Rattle.std.proofs.Math.Option.{Option, none, some}
use Rattle.job.specs.Grammar.{Written}
use Rattle.circuit.specs.Correlation.{Seen}
use Rattle.correlations.specs.declared.Correlated.{Correlated}
use Rattle.correlations.specs.declared.Differing.{Differing}

-- the correlation of what a line says; only noise has one
unfoldable pub correlation_in : Written → Option ℕ
correlation_in (Written.header h) = none
correlation_in (Written.line i) = none
correlation_in (Written.noise n) = n.correlation
correlation_in (Written.element w P) = none

-- the size that it says
unfoldable pub size_in : Written → ℕ
size_in (Written.header h) = 0
size_in (Written.line i) = 0
size_in (Written.noise n) = n.size
size_in (Written.element w P) = 0

-- whether there is a number
unfoldable pub present : Option ℕ → Bool
present none = false
present (some c) = true

-- ---- the table

-- the correlations that were seen, each with the size of its first line
unfoldable pub table_of : List ℕ → List ℕ → List Seen
table_of [] sizes = []
table_of (c ∷ cs) [] = []
table_of (c ∷ cs) (s ∷ sizes) = record { correlation = c; size = s } ∷ table_of cs sizes

-- the size of a correlation, if it was seen
unfoldable pub size_for : List Seen → ℕ → Option ℕ
size_for [] c = none
size_for (s ∷ seen) c = let later = size_for seen c in cond (eqb s.correlation c) (some s.size) later

-- what comes of a line beside a table: what is new, or that the sizes differ
abbrev pub Looked : Type 0
Looked = Result (Maybe Correlated) Differing

-- a correlation and a size, beside the size that was seen
unfoldable pub look_for : ℕ → ℕ → ℕ → Option ℕ → Looked
look_for line c size none = Ok (Some (record { correlation = c; size = size }))
look_for line c size (some t) = cond (eqb t size) (Ok None) (Err (record { line = line }))

unfoldable pub look_of : ℕ → List Seen → Option ℕ → ℕ → Looked
look_of line seen none size = Ok None
look_of line seen (some c) size = look_for line c size (size_for seen c)

-- whether the size fits
unfoldable pub fitting : Looked → Bool
fitting (Ok new) = true
fitting (Err d) = false

-- what is new
unfoldable pub new_in : Looked → Maybe Correlated
new_in (Ok new) = new
new_in (Err d) = None

-- the table with what is new
unfoldable pub grown : List Seen → Maybe Correlated → List Seen
grown seen None = seen
grown seen (Some l) = seen ++ record { correlation = l.correlation; size = l.size } ∷ []

-- ---- lines

-- a line, if there is one
unfoldable pub line_in : Maybe ℕ → Option ℕ
line_in None = none
line_in (Some k) = some k
