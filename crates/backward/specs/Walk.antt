-- Definitions. The backward walk for one shot, as in document 01, "Settling and walking back". What is carried back, the observable and the set,
-- does not depend on the shot; the count does. Assumes nothing.
use Rattle.std.specs.Prelude.{Bool, cond, ◌&&◌, List, [], ◌∷◌, ℕ, suc, eqb, get_or}
use Rattle.pauli.specs.Bits.{Bits, ◌△◌, given, members}
use Rattle.pauli.specs.Pauli.{Pauli, identity, X_at, Z_at, ◌∗◌, when, anticommutes, cleared}
use Rattle.pauli.specs.Gate.{conjugated_back}
use Rattle.job.specs.Line.{pauli_of, Line}
use Rattle.frames.specs.Forward.{exponentiate, controlled_pauli, Image, images_of, Setting}

-- the observable B and the set S of outcomes
pub record Carried : Type 0 where
  pub observable : Pauli
  pub set : Bits

-- Clifford: the new X part at i says whether B anticommutes with Z's image, the new Z part with X's.
unfoldable pub images_back : ℕ → List Image → Pauli → Pauli
images_back n [] B = identity
images_back n (g ∷ gs) B = when (anticommutes n B g.of_Z) (X_at g.qubit) ∗ when (anticommutes n B g.of_X) (Z_at g.qubit) ∗ images_back n gs B

unfoldable pub clifford_back_of : ℕ → List ℕ → List Image → Pauli → Pauli
clifford_back_of n qs gs B = cleared qs B ∗ images_back n gs B

-- Permute: place i gets B from place s_i.
unfoldable pub fetched : List ℕ → List ℕ → List ℕ → Pauli → Pauli
fetched places [] qs B = identity
fetched places (j ∷ s) [] B = identity
fetched places (j ∷ s) (q ∷ qs) B = when (B.x (get_or places j 0)) (X_at q) ∗ when (B.z (get_or places j 0)) (Z_at q) ∗ fetched places s qs B

unfoldable pub permute_back_of : List ℕ → List ℕ → Pauli → Pauli
permute_back_of s qs B = cleared qs B ∗ fetched qs s qs B

abbrev pub on_observable : (Pauli → Pauli) → Carried → Carried
on_observable f w = record { observable = f w.observable; set = w.set }

-- one line back; n is the number of qubits
unfoldable pub carry : ℕ → Line → Carried → Carried
carry n (Line.unitary g qs) w = on_observable (conjugated_back g (get_or qs 0 0) (get_or qs 1 0)) w
carry n (Line.clifford qs t) w = on_observable (clifford_back_of n qs (images_of qs t)) w
carry n (Line.pauli P) w = w
carry n (Line.exponential P) w = on_observable (exponentiate n (pauli_of P)) w
carry n (Line.controlled C T) w = on_observable (controlled_pauli n (pauli_of C) (pauli_of T)) w
carry n (Line.permute s qs) w = on_observable (permute_back_of s qs) w
-- Measure: if its id is in S, B is multiplied by the observable.
carry n (Line.measure P id) w = on_observable (λ B. B ∗ when (w.set id) (pauli_of P)) w
carry n (Line.allocate id angle) w = w
-- Conditional: if B anticommutes with its Pauli, its list is added to S (symmetric difference).
carry n (Line.conditional P ids par) w =
    record { observable = w.observable; set = w.set △ given (anticommutes n w.observable (pauli_of P)) (members ids) }
-- Reset: B loses the qubits.
carry n (Line.reset qs) w = on_observable (cleared qs) w
carry n (Line.inject shot P) w = w
carry n (Line.flip shot id) w = w
carry n (Line.barrier qs) w = w

-- whether a line is counted, by what is carried back to it
unfoldable pub counts : Setting → Line → Carried → Bool
counts c (Line.unitary g qs) w = Bool.false
counts c (Line.clifford qs t) w = Bool.false
counts c (Line.pauli P) w = Bool.false
counts c (Line.exponential P) w = Bool.false
counts c (Line.controlled C T) w = Bool.false
counts c (Line.permute s qs) w = Bool.false
counts c (Line.measure P id) w = Bool.false
counts c (Line.allocate id angle) w = Bool.false
counts c (Line.conditional P ids par) w = Bool.false
counts c (Line.reset qs) w = Bool.false
-- Injection in the shot: counted if it anticommutes with B. Flip in the shot: counted if its id is in S.
counts c (Line.inject shot P) w = eqb shot c.shot && anticommutes c.qubits (pauli_of P) w.observable
counts c (Line.flip shot id) w = eqb shot c.shot && w.set id
counts c (Line.barrier qs) w = Bool.false

-- the observable, the set and the count
pub record Walk : Type 0 where
  pub carried : Carried
  pub count : ℕ

-- one more where b is true
abbrev pub one_more_of : Bool → ℕ → ℕ
one_more_of b n = cond b (suc n) n

unfoldable pub backward : Setting → Line → Walk → Walk
backward c l w = record { carried = carry c.qubits l w.carried; count = one_more_of (counts c l w.carried) w.count }

-- the lines from last to first
unfoldable pub walk_back : Setting → List Line → Walk → Walk
walk_back c [] w = w
walk_back c (l ∷ ls) w = backward c l (walk_back c ls w)

-- B starts as identity, the count at 0.
unfoldable pub walk : Setting → List Line → Bits → Walk
walk c ls S = walk_back c ls (record { carried = record { observable = identity; set = S }; count = 0 })
