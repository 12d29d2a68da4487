-- What a line is known for by its form alone: one law over the table of forms. Assumes nothing.
use Rattle.std.specs.Prelude.{ℕ, zero, suc, ◌^◌, ◌<◌, ◌≡◌, refl, Bool, true, false, cond, not, ◌&&◌, List, [], ◌∷◌, eqb, leb, length}
use Rattle.std.proofs.Common.{arith, eq-eqb}
use Rattle.std.proofs.Math.Option.{Option, none, some}
use Rattle.pauli.specs.Gate.{Gate, gate_of}
use Rattle.text.specs.Bytes.{bytes}
use Rattle.text.specs.Template.{Value, values_of, number_at, list_at_of}
use Rattle.text.specs.Written.{FitL, FitQ, FitC}
use Rattle.text.proofs.Laws.Values.{NumberFits, ListFits, number_letters_in, list_letters_in, Fits, values_fit}
use Rattle.job.specs.Line.{SparsePauli, Line}
use Rattle.job.specs.Clifford.{max_clifford_qubits, table_words_of}
use Rattle.job.specs.Sound.{SmallOption, Every}
use Rattle.job.specs.Fits.{PauliFits, LineFits, KindFits, NoiseFits, WrittenFits, SaidFits}
use Rattle.job.specs.Grammar.{Kind, NoiseLine, Written, pauli_at_of, is_one, unitary_line, clifford_line, optional, noise_line, Form, forms, said, or_later, read_by, read_line_of}

-- ---- the forms

-- what a form says of values that are good for its letters
FormFits : Form → Type 0
FormFits f = (v : List Value) → Fits f.template v → SaidFits (f.says v)

optional_fits : (l : List ℕ) → FitC l → SmallOption (optional l)
unfolding optional SmallOption
optional_fits [] h = tt
optional_fits (c ∷ cs) h = h.small 0

gate_fits : (g : Option Gate) (qs : List ℕ) → FitQ qs → SaidFits (unitary_line g qs)
unfolding unitary_line SaidFits WrittenFits LineFits
gate_fits none qs h = tt
gate_fits (some g) qs h = h

unless_fits : (b : Bool) (w : Written) → (b ≡ false → WrittenFits w) → SaidFits (cond b none (some w))
unfolding SaidFits
unless_fits true w h = tt
unless_fits false w h = h refl

clifford_fits : (qs ws : List ℕ) → FitQ qs → SaidFits (clifford_line qs ws)
unfolding clifford_line WrittenFits LineFits
clifford_fits qs ws h = unless_fits (leb (length qs) max_clifford_qubits && not (eqb (length ws) (table_words_of (length qs)))) _ (λ e. h)

noise_fits : (kind : Kind) (size : ℕ) (v : List Value) → number_at 0 v < 2 ^ 64 → FitC (list_at_of 0 v) → FitL (list_at_of 1 v) → KindFits kind
    → SaidFits (noise_line kind size v)
unfolding noise_line WrittenFits
noise_fits kind size v p corr condition k =
    unless_fits (eqb (length (list_at_of 1 v)) 0 && is_one (number_at 1 v)) _ (λ e. record {
      probability = p;
      correlation = optional_fits (list_at_of 0 v) corr;
      outcomes = condition;
      parity = λ z. rw (eq-eqb (length (list_at_of 1 v)) 0 z) at e;
      kind = k;
    })

pauli_fits : (i j : ℕ) (v : List Value) → FitL (list_at_of i v) → FitL (list_at_of j v) → PauliFits (pauli_at_of i j v)
pauli_fits i j v x z = record { x = x; z = z }

also : {A B : Type 0} → A → B → A × B
also a b = (a, b)

-- in the order of the table
forms_fit : Every FormFits forms
unfolding FormFits forms bytes number_letters_in list_letters_in NumberFits ListFits SaidFits WrittenFits LineFits KindFits SmallOption
forms_fit =
    also (λ v h. tt)
    (also (λ v h. gate_fits _ (list_at_of 0 v) (h.list 0))
    (also (λ v h. clifford_fits (list_at_of 0 v) (list_at_of 1 v) (h.list 0))
    (also (λ v h. pauli_fits 0 1 v (h.list 0) (h.list 1))
    (also (λ v h. pauli_fits 0 1 v (h.list 0) (h.list 1))
    (also (λ v h. (pauli_fits 0 1 v (h.list 0) (h.list 1), pauli_fits 2 3 v (h.list 2) (h.list 3)))
    (also (λ v h. (h.list 0, h.list 1))
    (also (λ v h. (pauli_fits 0 1 v (h.list 0) (h.list 1), h.number 0))
    (also (λ v h. h.number 0)
    (also (λ v h. (pauli_fits 0 1 v (h.list 0) (h.list 1), h.list 2))
    (also (λ v h. h.list 0)
    (also (λ v h. (h.number 0, pauli_fits 0 1 v (h.list 0) (h.list 1)))
    (also (λ v h. (h.number 0, h.number 1))
    (also (λ v h. noise_fits _ _ v (h.number 0) (h.list 0) (h.list 1) (pauli_fits 2 3 v (h.list 2) (h.list 3)))
    (also (λ v h. noise_fits _ _ v (h.number 0) (h.list 0) (h.list 1) (h.list 2))
    (also (λ v h. noise_fits _ _ v (h.number 0) (h.list 0) (h.list 1) (h.number 2))
    (also (λ v h. noise_fits _ _ v (h.number 0) (h.list 0) (h.list 1) (h.number 2))
    (also (λ v h. (tt, pauli_fits 0 1 v (h.list 0) (h.list 1)))
    (also (λ v h. (h.number 0, pauli_fits 0 1 v (h.list 0) (h.list 1)))
    (also (λ v h. tt)
    (also (λ v h. h.list 0) tt))))))))))))))))))))

said_fits : (f : Form) (l : List ℕ) → FormFits f → SaidFits (said f.says (values_of f.template l))
unfolding said SaidFits FormFits
said_fits f l h = go (values_of f.template l) refl
  where
    go : (o : Option (List Value)) → values_of f.template l ≡ o → SaidFits (said f.says o)
    go none e = tt
    go (some v) e = h v (values_fit f.template l v e)

later_fits : (now later : Option Written) → SaidFits now → SaidFits later → SaidFits (or_later now later)
unfolding or_later
later_fits none later a b = b
later_fits (some w) later a b = a

read_by_fits : (fs : List Form) (l : List ℕ) → Every FormFits fs → SaidFits (read_by fs l)
unfolding read_by SaidFits
read_by_fits [] l h = tt
read_by_fits (f ∷ fs) l h = later_fits _ (read_by fs l) (said_fits f l h.0) (read_by_fits fs l h.1)

-- what a line says is good for the letters of its form
pub line_fits : (l : List ℕ) → SaidFits (read_line_of l)
unfolding read_line_of
line_fits l = read_by_fits forms l forms_fit
