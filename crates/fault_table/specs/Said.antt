-- What a line says of its rows: its elements, or the element that it is. Definitions. Assumes nothing.
use Rattle.std.specs.Prelude.{ℕ, ◌+◌, ◌*◌, ◌≤◌, ◌<◌, ◌≡◌, Bool, true, false, List, [], ◌∷◌, map, leb, length, get_or}
use Rattle.std.proofs.Math.Option.{Option}
use Rattle.pauli.specs.Pauli.{Pauli}
use Rattle.pauli.specs.Fixed.{AllBelow}
use Rattle.text.specs.Template.{Value}
use Rattle.template.specs.Values.{Whole, AllKept, held_list}
use Rattle.job.specs.Line.{SparsePauli, pauli_of, WeightedPauli, size_of}
use Rattle.job.specs.Grammar.{Kind, NoiseLine, Written}
use Rattle.job.specs.Job.{distribution_of, weight_of}
use Rattle.job.specs.Sound.{PauliSound, DistributionSound}
use Rattle.reader.specs.declared.Form.{Form}
use Rattle.reader.specs.Parsed.{Said}
use Rattle.draws.specs.Draws.{no_pauli, element_at}
use Rattle.backward.specs.Walk.{Carried}
use Rattle.single_faults.specs.Table.{most_spread}
use Rattle.single_faults.specs.Carried.{rows_by, mark_by}
use Rattle.fault_table.specs.Lent.{all_carried}
use Rattle.fault_table.specs.Rows.{rows_bytes, kept_at}

-- ---- values

-- the Pauli of two lists of a line
abbrev pub held_pauli : List ℕ → ℕ → SparsePauli
held_pauli words first = record { x = held_list words first; z = held_list words (first + 1) }

pub record PauliHeld (words : List ℕ) (first : ℕ) : Type 0 where
  pub two : first < 3
  pub wide : Whole words
  pub x_kept : AllKept words first
  pub z_kept : AllKept words (first + 1)
  pub x : AllBelow 256 (held_list words first)
  pub z : AllBelow 256 (held_list words (first + 1))

-- ---- what a line says

-- 24
unfoldable pub wide_kind : Kind → Bool
wide_kind (Kind.single P) = false
wide_kind (Kind.depolarizing qs) = leb (most_spread + 1) (length qs)
wide_kind (Kind.uniform n) = false
wide_kind (Kind.weighted n) = false

unfoldable pub wide_said : Written → Bool
wide_said (Written.header h) = false
wide_said (Written.line l) = false
wide_said (Written.noise n) = wide_kind n.kind
wide_said (Written.element v P) = false

unfoldable pub is_element_of : Written → Bool
is_element_of (Written.header h) = false
is_element_of (Written.line l) = false
is_element_of (Written.noise n) = false
is_element_of (Written.element v P) = true

-- the size that a noise line says, and 0 of others
unfoldable pub size_said : Written → ℕ
size_said (Written.header h) = 0
size_said (Written.line l) = 0
size_said (Written.noise n) = n.size
size_said (Written.element v P) = 0

-- ---- characters

-- those of a Pauli, by what is carried back of each group
abbrev pub marks_by : List Carried → Pauli → List ℕ
marks_by cs P = map (mark_by 256 P) cs

abbrev pub marks_of : List Carried → SparsePauli → List ℕ
marks_of cs P = marks_by cs (pauli_of P)

abbrev pub no_element : WeightedPauli
no_element = record { weight = 0; pauli = no_pauli }

-- those of elements are kept, of at most 64
pub record KeptFor (groups : ℕ) (cs : List Carried) (kept : List ℕ) (es : List WeightedPauli) : Type 0 where
  pub held : length es ≤ 64 → (e : ℕ) → e < length es → kept_at groups (length es) kept e ≡ marks_of cs (get_or es e no_element).pauli

-- a line in front of elements, where it is one
unfoldable pub elements_with : Written → List WeightedPauli → List WeightedPauli
elements_with (Written.header h) es = es
elements_with (Written.line l) es = es
elements_with (Written.noise n) es = es
elements_with (Written.element v P) es = record { weight = weight_of v; pauli = P } ∷ es

-- the values of a line of an accepted job: an element's Pauli is on at most 256 qubits
pub record ElementKnown (form : Form) (words : List ℕ) : Type 0 where
  pub wide : Whole words
  pub values : List Value
  pub written : Written
  pub said : Said form words values written
  pub element : (v : Option ℕ) (P : SparsePauli) → written ≡ Written.element v P → PauliSound 256 P

-- ---- rows

unfoldable pub rows_said : ℕ → List Carried → Written → List WeightedPauli → List (List ℕ)
rows_said line cs (Written.header h) es = []
rows_said line cs (Written.line l) es = []
rows_said line cs (Written.noise n) es =
    let d = distribution_of n.kind es in rows_by line (λ (e : ℕ). marks_of cs (element_at d e)) (size_of d) 0
rows_said line cs (Written.element v P) es = []

-- a noise line with its elements, not too wide
pub record NoiseFits (n : NoiseLine) (es : List WeightedPauli) : Type 0 where
  pub distribution : DistributionSound 256 (distribution_of n.kind es)
  pub size : n.size ≡ size_of (distribution_of n.kind es)
  pub narrow : wide_kind n.kind ≡ false

-- a line of an accepted job, with the elements behind it and room for its rows
pub record RowsReady (form : Form) (words state : List ℕ) (groups : ℕ) (kept : List ℕ) (line place : ℕ) (out : List ℕ) : Type 0 where
  pub wide : Whole words
  pub values : List Value
  pub written : Written
  pub said : Said form words values written
  pub elements : List WeightedPauli
  pub noise : (n : NoiseLine) → written ≡ Written.noise n → NoiseFits n elements
  pub few : groups ≤ 16
  pub words_of_groups : length state ≡ groups * 24
  pub bytes_kept : length kept ≡ 1024
  pub holds : KeptFor groups (all_carried groups state) kept elements
  pub within : place ≤ length out
  pub room : rows_bytes groups line (size_said written) 0 ≤ place
