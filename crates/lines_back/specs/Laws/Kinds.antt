-- Each kind of line going back, by its values. Laws. Assumes nothing.
use Rattle.std.specs.Prelude.{ℕ, ◌≤◌, ◌≡◌, refl, Bool, true, false, ◌&&◌, List, eqb, get_or}
use Rattle.std.proofs.Math.Path.{sym}
use Rattle.std.proofs.Common.{ap, ◌∙◌, subst}
use Rattle.pauli.specs.declared.Pauli.{Pauli as PauliWords}
use Rattle.pauli.specs.Bits.{Bits, ◌△◌, given, members}
use Rattle.pauli.specs.Pauli.{Pauli, ◌∗◌, when, anticommutes, cleared}
use Rattle.pauli.specs.Gate.{gate_of, conjugated_back}
use Rattle.pauli.specs.Code.{by_gate}
use Rattle.pauli.specs.Fixed.{as_pauli}
use Rattle.template.specs.Values.{held_number, held_list}
use Rattle.job.specs.Line.{SparsePauli, pauli_of, Line}
use Rattle.job.specs.Checks.{all_below}
use Rattle.job.specs.Clifford.{table_of}
use Rattle.job.specs.Sound.{PauliSound}
use Rattle.job.proofs.Laws.Lists.{below_more}
use Rattle.reader.specs.declared.Form.{Form}
use Rattle.reader.specs.declared.Form.TheVariants as form
use Rattle.frames.specs.Forward.{exponentiate, controlled_pauli, images_of}
use Rattle.backward.specs.Walk.{clifford_back_of, permute_back_of, carry, counts}
use Rattle.instructions.specs.Plain.{held_pauli}
use Rattle.instructions.specs.Laws.Read.{unitary_read, clifford_read, exponential_read, controlled_read, permute_read, measure_read, conditional_read, reset_read, inject_read, flip_read}
use Rattle.lines_back.specs.Full.{full}
use Rattle.lines_back.specs.Back.{HeldLine, carried_of, Back}

-- the lists of a Pauli on at most 256 qubits
pub pauli_below : {n : ℕ} {P : SparsePauli} → n ≤ 256 → PauliSound n P → (all_below 256 P.x ≡ true) × (all_below 256 P.z ≡ true)
pauli_below h s = (below_more _ 256 _ h s.x.below, below_more _ 256 _ h s.z.below)

-- the line by its values
by_line : {k : Form} {f : List ℕ} {shot : ℕ} {b b' : PauliWords} {set set' : Bits} {counted : Bool} (l : HeldLine k f → Line) → ((p : HeldLine k f) → l p ≡ p.line)
    → ((p : HeldLine k f) → carry 256 (l p) (carried_of b set) ≡ carried_of b' set') → ((p : HeldLine k f) → counts (full shot) (l p) (carried_of b set) ≡ counted)
    → Back k f shot b set b' set' counted
by_line {shot = shot} {b = b} {b' = b'} {set = set} {set' = set'} {counted = counted} l is e c =
    record {
      carries = λ p. subst (λ (line : Line). carry 256 line (carried_of b set) ≡ carried_of b' set') (is p) (e p);
      counts_it = λ p. subst (λ (line : Line). counts (full shot) line (carried_of b set) ≡ counted) (is p) (c p);
    }

-- ---- lines that change the observable alone

to : (r : PauliWords) (set : Bits) {B : Pauli} → as_pauli r ≡ B → record { observable = B; set = set } ≡ carried_of r set
to r set e = ap (λ (P : Pauli). record { observable = P; set = set }) (sym e)

module _ {f : List ℕ} {b r : PauliWords} (shot : ℕ) (set : Bits) where
  pub unitary_goes : as_pauli r ≡ by_gate conjugated_back (gate_of (held_number f 0)) (get_or (held_list f 0) 0 0) (get_or (held_list f 0) 1 0) (as_pauli b)
      → Back form.Unitary f shot b set r set false
  unfolding carry counts by_gate
  unitary_goes e =
      by_line (λ p. Line.unitary (unitary_read p.plain).0 (held_list f 0)) (λ p. (unitary_read p.plain).2.is) (λ p. to r set (e ∙ rw (unitary_read p.plain).1)) (λ p. refl)

  pub clifford_goes : as_pauli r ≡ clifford_back_of 256 (held_list f 0) (images_of (held_list f 0) (table_of (held_list f 1))) (as_pauli b) → Back form.Clifford f shot b set r set false
  unfolding carry counts
  clifford_goes e = by_line _ (λ p. (clifford_read p.plain).is) (λ p. to r set e) (λ p. refl)

  pub exponential_goes : as_pauli r ≡ exponentiate 256 (pauli_of (held_pauli f 0 1)) (as_pauli b) → Back form.Exponential f shot b set r set false
  unfolding carry counts
  exponential_goes e = by_line _ (λ p. (exponential_read p.plain).is) (λ p. to r set e) (λ p. refl)

  pub controlled_goes : as_pauli r ≡ controlled_pauli 256 (pauli_of (held_pauli f 0 1)) (pauli_of (held_pauli f 2 3)) (as_pauli b)
      → Back form.Controlled f shot b set r set false
  unfolding carry counts
  controlled_goes e = by_line _ (λ p. (controlled_read p.plain).is) (λ p. to r set e) (λ p. refl)

  pub permute_goes : as_pauli r ≡ permute_back_of (held_list f 0) (held_list f 1) (as_pauli b) → Back form.Permute f shot b set r set false
  unfolding carry counts
  permute_goes e = by_line _ (λ p. (permute_read p.plain).is) (λ p. to r set e) (λ p. refl)

  pub reset_goes : as_pauli r ≡ cleared (held_list f 0) (as_pauli b) → Back form.Reset f shot b set r set false
  unfolding carry counts
  reset_goes e = by_line _ (λ p. (reset_read p.plain).is) (λ p. to r set e) (λ p. refl)

  pub measure_goes : as_pauli r ≡ as_pauli b ∗ when (set (held_number f 0)) (pauli_of (held_pauli f 0 1)) → Back form.Measure f shot b set r set false
  unfolding carry counts
  measure_goes e = by_line _ (λ p. (measure_read p.plain).is) (λ p. to r set e) (λ p. refl)

-- ---- conditionals

pub conditional_goes : {f : List ℕ} {b : PauliWords} {set set' : Bits} (shot : ℕ)
    → set' ≡ set △ given (anticommutes 256 (as_pauli b) (pauli_of (held_pauli f 0 1))) (members (held_list f 2))
    → Back form.Conditional f shot b set b set' false
unfolding carry counts
conditional_goes {b = b} shot e =
    by_line _ (λ p. (conditional_read p.plain).is) (λ p. ap (λ (s : Bits). record { observable = as_pauli b; set = s }) (sym e)) (λ p. refl)

-- ---- lines that are counted, or not

module _ {f : List ℕ} {b : PauliWords} {shot : ℕ} {set : Bits} {counted : Bool} where
  pub inject_goes : counted ≡ (eqb (held_number f 0) shot && anticommutes 256 (pauli_of (held_pauli f 0 1)) (as_pauli b))
      → Back form.Inject f shot b set b set counted
  unfolding carry counts
  inject_goes e = by_line _ (λ p. (inject_read p.plain).is) (λ p. refl) (λ p. sym e)

  pub flip_goes : counted ≡ (eqb (held_number f 0) shot && set (held_number f 1)) → Back form.Flip f shot b set b set counted
  unfolding carry counts
  flip_goes e = by_line _ (λ p. (flip_read p.plain).is) (λ p. refl) (λ p. sym e)
