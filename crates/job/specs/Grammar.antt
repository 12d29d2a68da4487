-- Definitions. The forms of the lines: the table of document 01, "The job", with a template for each kind of line, of which document 02 changes those of
-- noise (note 6: `size=`) and of Cliffords (note 12: a list of words), and behind it what it adds in the second edition (note 9). A line is read by one
-- table; which edition has its form is a test (Checks). Assumes nothing.
use Rattle.std.specs.Prelude.{ℕ, Bool, cond, not, ◌&&◌, List, [], ◌∷◌, eqb, leb, length}
use Prim.Native.String.{String}
use Rattle.std.proofs.Math.Option.{Option, none, some}
use Rattle.pauli.specs.Gate.{Gate, gate_of}
use Rattle.text.specs.Bytes.{bytes}
use Rattle.text.specs.Template.{Value, values_of, number_at, list_at_of}
use Rattle.job.specs.declared.Header.{Header}
use Rattle.job.specs.Line.{SparsePauli, Line, OutcomeCondition}
use Rattle.job.specs.Clifford.{max_clifford_qubits, table_words_of, table_of}

-- the kind of a noise line's distribution; the n elements of the last two stand on lines of their own
pub data Kind : Type 0 where
  single : SparsePauli → Kind
  depolarizing : List ℕ → Kind
  uniform : ℕ → Kind
  weighted : ℕ → Kind

pub record NoiseLine : Type 0 where
  pub probability : ℕ
  pub correlation : Option ℕ
  pub condition : OutcomeCondition
  pub kind : Kind
  -- the distribution's size, as it is written
  pub size : ℕ

-- what one line says
pub data Written : Type 0 where
  header : Header → Written
  line : Line → Written
  noise : NoiseLine → Written
  -- an element line: its weight's bits, where it has a weight, and its Pauli
  element : Option ℕ → SparsePauli → Written

-- ---- from the values of a line to what it says; nothing where the line has not its form after all

-- a header by its numbers
abbrev pub header_with : ℕ → ℕ → ℕ → ℕ → Header
header_with edition qubits outcomes shots = record { edition = edition; qubits = qubits; outcomes = outcomes; shots = shots }

-- a header by the numbers of its line, from the first on; without the field the edition is 1
abbrev pub header_by : (ℕ → ℕ) → Header
header_by number = header_with 1 (number 0) (number 1) (number 2)

-- the same with the field, which stands first
abbrev pub edition_by : (ℕ → ℕ) → Header
edition_by number = header_with (number 0) (number 1) (number 2) (number 3)

-- the Pauli whose lists are the i-th and the j-th of the line
abbrev pub pauli_at_of : ℕ → ℕ → List Value → SparsePauli
pauli_at_of i j v = record { x = list_at_of i v; z = list_at_of j v }

abbrev pub is_one : ℕ → Bool
is_one n = eqb n 1

abbrev pub plain : Line → Option Written
plain l = some (Written.line l)

-- a gate code above 15 is no gate
unfoldable pub unitary_line : Option Gate → List ℕ → Option Written
unitary_line none qs = none
unitary_line (some g) qs = plain (Line.unitary g qs)

-- A wrong number of words for a k of 1 to 8 is no Clifford; k counts all entries of q. A line with a larger k is one, whatever the number of words; its k
-- is tested (5).
unfoldable pub clifford_line : List ℕ → List ℕ → Option Written
clifford_line qs ws =
    cond (leb (length qs) max_clifford_qubits && not (eqb (length ws) (table_words_of (length qs)))) none (plain (Line.clifford qs (table_of ws)))

-- a number, or none
unfoldable pub optional : List ℕ → Option ℕ
optional [] = none
optional (c ∷ cs) = some c

-- where the condition is none, the parity is 0. The numbers of the line are p and the parity, its lists corr and cond, before the kind's own; the size,
-- behind those, is the last.
unfoldable pub noise_line : Kind → ℕ → List Value → Option Written
noise_line kind size v =
    cond (eqb (length (list_at_of 1 v)) 0 && is_one (number_at 1 v)) none
    (some (Written.noise record {
      probability = number_at 0 v;
      correlation = optional (list_at_of 0 v);
      condition = record { outcomes = list_at_of 1 v; parity = is_one (number_at 1 v) };
      kind = kind;
      size = size;
    }))

-- ---- the forms

-- a template, and what a line of that form says
pub record Form : Type 0 where
  pub template : List ℕ
  pub says : List Value → Option Written

abbrev pub form_by_of : List ℕ → (List Value → Option Written) → Form
form_by_of template says = record { template = template; says = says }

abbrev pub form : String → (List Value → Option Written) → Form
form template = form_by_of (bytes template)

-- the templates that are written too, by settling and by annotation
abbrev pub inject_template : List ℕ
inject_template = bytes "op=i shot=N x=L z=L"

abbrev pub depolarizing_template : List ℕ
depolarizing_template = bytes "op=n p=H corr=C cond=L parity=B d=2 q=Q size=N"

unfoldable pub forms : List Form
unfolding bytes
forms =
    form "op=job qubits=N outcomes=N shots=N" (λ v. some (Written.header (header_by (λ i. number_at i v))))
    ∷ form "op=u g=N q=Q" (λ v. unitary_line (gate_of (number_at 0 v)) (list_at_of 0 v))
    ∷ form "op=c q=Q t=T" (λ v. clifford_line (list_at_of 0 v) (list_at_of 1 v))
    ∷ form "op=p x=L z=L" (λ v. plain (Line.pauli (pauli_at_of 0 1 v)))
    ∷ form "op=e x=L z=L" (λ v. plain (Line.exponential (pauli_at_of 0 1 v)))
    ∷ form "op=k x=L z=L u=L v=L" (λ v. plain (Line.controlled (pauli_at_of 0 1 v) (pauli_at_of 2 3 v)))
    ∷ form "op=m s=Q q=Q" (λ v. plain (Line.permute (list_at_of 0 v) (list_at_of 1 v)))
    ∷ form "op=o x=L z=L id=N" (λ v. plain (Line.measure (pauli_at_of 0 1 v) (number_at 0 v)))
    ∷ form "op=r id=N angle=B" (λ v. plain (Line.allocate (number_at 0 v) (is_one (number_at 1 v))))
    ∷ form "op=f x=L z=L id=L parity=B" (λ v. plain (Line.conditional (pauli_at_of 0 1 v) (list_at_of 2 v) (is_one (number_at 0 v))))
    ∷ form "op=z q=Q" (λ v. plain (Line.reset (list_at_of 0 v)))
    ∷ form_by_of inject_template (λ v. plain (Line.inject (number_at 0 v) (pauli_at_of 0 1 v)))
    ∷ form "op=t shot=N id=N" (λ v. plain (Line.flip (number_at 0 v) (number_at 1 v)))
    ∷ form "op=n p=H corr=C cond=L parity=B d=1 x=L z=L size=N" (λ v. noise_line (Kind.single (pauli_at_of 2 3 v)) (number_at 2 v) v)
    ∷ form_by_of depolarizing_template (λ v. noise_line (Kind.depolarizing (list_at_of 2 v)) (number_at 2 v) v)
    ∷ form "op=n p=H corr=C cond=L parity=B d=3 n=N size=N" (λ v. noise_line (Kind.uniform (number_at 2 v)) (number_at 3 v) v)
    ∷ form "op=n p=H corr=C cond=L parity=B d=4 n=N size=N" (λ v. noise_line (Kind.weighted (number_at 2 v)) (number_at 3 v) v)
    ∷ form "x=L z=L" (λ v. some (Written.element none (pauli_at_of 0 1 v)))
    ∷ form "w=H x=L z=L" (λ v. some (Written.element (some (number_at 0 v)) (pauli_at_of 0 1 v)))
    -- of the second edition
    ∷ form "op=job edition=N qubits=N outcomes=N shots=N" (λ v. some (Written.header (edition_by (λ i. number_at i v))))
    ∷ form "op=b q=Q" (λ v. plain (Line.barrier (list_at_of 0 v)))
    ∷ []

unfoldable pub said : (List Value → Option Written) → Option (List Value) → Option Written
said says none = none
said says (some v) = says v

unfoldable pub or_later : Option Written → Option Written → Option Written
or_later none later = later
or_later (some w) later = some w

-- what a line says by the first form that it has
unfoldable pub read_by : List Form → List ℕ → Option Written
read_by [] l = none
read_by (f ∷ fs) l = let later = read_by fs l in or_later (said f.says (values_of f.template l)) later

unfoldable pub read_line_of : List ℕ → Option Written
read_line_of l = read_by forms l
