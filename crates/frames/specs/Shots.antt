-- Definitions that theorems about shots use: the lines that concern a set of shots, and injections and flips by the other lines between which they stand.
-- Assumes nothing.
use Rattle.std.specs.Prelude.{◌≡◌, Bool, true, false, cond, ◌&&◌, List, [], ◌∷◌, ℕ, zero, suc, ◌+◌, eqb}
use Rattle.std.proofs.Math.Option.{Option, none, some}
use Rattle.pauli.specs.Bits.{Bits, ◌△◌}
use Rattle.pauli.specs.Pauli.{◌∗◌}
use Rattle.job.specs.Line.{SparsePauli, Line}
use Rattle.frames.specs.Forward.{State}

-- An injection and a flip concern the set if their shot is in it; every other line concerns all shots.
unfoldable pub concerns : Bits → Line → Bool
concerns shots (Line.unitary g qs) = true
concerns shots (Line.clifford qs t) = true
concerns shots (Line.pauli P) = true
concerns shots (Line.exponential P) = true
concerns shots (Line.controlled C T) = true
concerns shots (Line.permute s qs) = true
concerns shots (Line.measure P id) = true
concerns shots (Line.allocate id angle) = true
concerns shots (Line.conditional P ids par) = true
concerns shots (Line.reset qs) = true
concerns shots (Line.inject shot P) = shots shot
concerns shots (Line.flip shot id) = shots shot
concerns shots (Line.barrier qs) = true

-- the lines without the injections and flips of the shots outside the set
unfoldable pub restricted : Bits → List Line → List Line
restricted shots [] = []
restricted shots (l ∷ ls) = cond (concerns shots l) (l ∷ restricted shots ls) (restricted shots ls)

-- whether every injection and flip is in a shot of the set
unfoldable pub within : Bits → List Line → Bool
within shots [] = true
within shots (l ∷ ls) = concerns shots l && within shots ls

-- ---- injections and flips among the other lines

-- an injection with its shot and Pauli, a flip with its shot and outcome
pub data ShotFault : Type 0 where
  inject : ℕ → SparsePauli → ShotFault
  flip : ℕ → ℕ → ShotFault

unfoldable pub shot_of : ShotFault → ℕ
shot_of (ShotFault.inject shot P) = shot
shot_of (ShotFault.flip shot id) = shot

-- the injection or flip that a line is, if it is one
unfoldable pub fault_in : Line → Option ShotFault
fault_in (Line.unitary g qs) = none
fault_in (Line.clifford qs t) = none
fault_in (Line.pauli P) = none
fault_in (Line.exponential P) = none
fault_in (Line.controlled C T) = none
fault_in (Line.permute s qs) = none
fault_in (Line.measure P id) = none
fault_in (Line.allocate id angle) = none
fault_in (Line.conditional P ids par) = none
fault_in (Line.reset qs) = none
fault_in (Line.inject shot P) = some (ShotFault.inject shot P)
fault_in (Line.flip shot id) = some (ShotFault.flip shot id)
fault_in (Line.barrier qs) = none

-- the other lines, in order
unfoldable pub unless_fault : Option ShotFault → Line → List Line → List Line
unless_fault none l ls = l ∷ ls
unless_fault (some f) l ls = ls

unfoldable pub others_of : List Line → List Line
others_of [] = []
others_of (l ∷ ls) = unless_fault (fault_in l) l (others_of ls)

-- The gap g: the injections and flips with exactly g other lines before them. One of them in front of a list belongs to its gap 0; any other line in
-- front makes a gap 0 that is empty.
unfoldable pub gap_from : Option ShotFault → (ℕ → List ShotFault) → ℕ → List ShotFault
gap_from none later zero = []
gap_from none later (suc g) = later g
gap_from (some f) later zero = f ∷ later zero
gap_from (some f) later (suc g) = later (suc g)

unfoldable pub gap_of : List Line → ℕ → List ShotFault
gap_of [] g = []
gap_of (l ∷ ls) g = gap_from (fault_in l) (gap_of ls) g

-- the lines that stand before the other line g, or all where there is none
unfoldable pub up_to_from : Option ShotFault → Line → (ℕ → List Line) → ℕ → List Line
up_to_from none l later zero = []
up_to_from none l later (suc g) = l ∷ later g
up_to_from (some f) l later g = l ∷ later g

unfoldable pub up_to : List Line → ℕ → List Line
up_to [] g = []
up_to (l ∷ ls) g = up_to_from (fault_in l) l (up_to ls) g

-- Equal as they are written. The lists of a job's Pauli rise, so that it is written in one way.
unfoldable pub same_list : List ℕ → List ℕ → Bool
same_list [] [] = true
same_list [] (b ∷ k) = false
same_list (a ∷ l) [] = false
same_list (a ∷ l) (b ∷ k) = eqb a b && same_list l k

unfoldable pub same_fault : ShotFault → ShotFault → Bool
same_fault (ShotFault.inject s P) (ShotFault.inject t Q) = eqb s t && same_list P.x Q.x && same_list P.z Q.z
same_fault (ShotFault.inject s P) (ShotFault.flip t j) = false
same_fault (ShotFault.flip s i) (ShotFault.inject t Q) = false
same_fault (ShotFault.flip s i) (ShotFault.flip t j) = eqb s t && eqb i j

-- how often a gap holds an injection or a flip
unfoldable pub times_in : ShotFault → List ShotFault → ℕ
times_in f [] = 0
times_in f (e ∷ fs) = cond (same_fault f e) 1 0 + times_in f fs

-- The other lines agree, and each gap holds every injection and flip of a shot in the set equally often. Their order in the gap is free, and so is what is
-- in other shots.
pub record ApartBut (shots : Bits) (ks ls : List Line) : Type 0 where
  pub others : others_of ks ≡ others_of ls
  pub times : (g : ℕ) (f : ShotFault) → shots (shot_of f) ≡ true → times_in f (gap_of ks g) ≡ times_in f (gap_of ls g)

-- The other lines of all three agree, and ms holds in each gap just the injections and flips of ks and ls there, those of both twice.
pub record Together (ks ls ms : List Line) : Type 0 where
  pub others_first : others_of ms ≡ others_of ks
  pub others_second : others_of ms ≡ others_of ls
  pub times : (g : ℕ) (f : ShotFault) → times_in f (gap_of ms g) ≡ times_in f (gap_of ks g) + times_in f (gap_of ls g)

-- two states in one: the frames' product and the deltas' sum
unfoldable pub combined : State → State → State
combined s t = record { frame = s.frame ∗ t.frame; deltas = s.deltas △ t.deltas }
