-- Definitions. What a noise line draws from the lent words, as in document 01, "Draws", and for d=4 in document 02, note 2. A list of words is what
-- is left of it to read. Assumes nothing.
use Rattle.std.specs.Prelude.{Bool, not, cond, ◌&&◌, ◌||◌, List, [], ◌∷◌, map, ℕ, zero, suc, ◌+◌, ◌-◌, ◌/◌, ◌%◌, ◌^◌, eqb, ltb, length, get_or, drop, set, pos, Float}
use Rattle.std.proofs.Math.Option
use Rattle.std.proofs.Math.Option.{Option, none, some}
use Rattle.std.specs.Float.{binary64}
use Rattle.std.specs.Float.Ieee.{of_int, add, div, lt, le}
use Rattle.pauli.specs.Bits.{Bits, ◌⊕◌, sum_over}
use Rattle.job.specs.Line.{SparsePauli, WeightedPauli, Distribution, size_of, OutcomeCondition, Noise}
use Rattle.job.specs.Rising.{rising}
use Rattle.job.specs.Float.{float, zero_float, one, total_from}

-- ---- a fault

-- u = floor(w / 2048) / 2^53, exact in binary64
unfoldable pub unit_of : ℕ → Float
unit_of w = div binary64 (of_int binary64 (pos (w / 2048))) (of_int binary64 (pos (2 ^ 53)))

-- a fault falls if u < p
abbrev pub falls : ℕ → Float → Bool
falls w p = lt (unit_of w) p

-- ---- the elements of a distribution

-- the qubits whose bit is set in v, which gives each qubit two bits; the lower one is looked at
unfoldable pub selected : ℕ → List ℕ → List ℕ
selected v [] = []
selected v (q ∷ qs) = cond (eqb (v % 2) 1) (q ∷ selected (v / 4) qs) (selected (v / 4) qs)

-- d=2 adds 1 to the element's number and gives each qubit two bits, X lowest
unfoldable pub depolarizing_element_of : List ℕ → ℕ → SparsePauli
depolarizing_element_of qs e = record { x = rising (selected (e + 1) qs); z = rising (selected ((e + 1) / 2) qs) }

unfoldable pub no_pauli : SparsePauli
no_pauli = record { x = []; z = [] }

-- an element by its number, from 0
unfoldable pub element_at : Distribution → ℕ → SparsePauli
element_at (Distribution.single P) e = P
element_at (Distribution.depolarizing qs) e = depolarizing_element_of qs e
element_at (Distribution.uniform Ps) e = get_or Ps e no_pauli
element_at (Distribution.weighted es) e = get_or (map (λ (w : WeightedPauli). w.pauli) es) e no_pauli

-- ---- the choice of an element

-- the element's number and the words left; or a word was needed past the end
pub data Choice : Type 0 where
  spent : Choice
  chosen : ℕ → List ℕ → Choice

-- words from this one up are rejected
abbrev pub limit_of : ℕ → ℕ
limit_of c = 2 ^ 64 - 1 - (2 ^ 64 - 1) % c

-- reject words from the limit up, then take w mod c
unfoldable pub bounded : ℕ → List ℕ → Choice
bounded c [] = Choice.spent
bounded c (w ∷ ws) = let later = bounded c ws in cond (ltb w (limit_of c)) (Choice.chosen (w % c) ws) later

-- the running sum adds w/total
unfoldable pub running_from : Float → Float → List Float → List Float
running_from total s [] = []
running_from total s (w ∷ ws) = let t = add binary64 s (div binary64 w total) in t ∷ running_from total t ws

-- and the last is set to 1.0
abbrev pub running_sums_of : List Float → List Float
running_sums_of ws = set (running_from (total_from zero_float ws) zero_float ws) (length ws - 1) one

-- above zero, so -0 isn't positive
unfoldable pub is_positive : Float → Bool
is_positive w = lt zero_float w

-- the first place with positive weight whose running sum isn't below u
unfoldable pub first_fitting : Float → List Float → List Float → Option ℕ
first_fitting u [] sums = none
first_fitting u (w ∷ ws) [] = none
first_fitting u (w ∷ ws) (s ∷ sums) = let later = Option.map suc (first_fitting u ws sums) in cond (is_positive w && not (lt s u)) (some 0) later

-- one place, else another
unfoldable pub or_else : Option ℕ → Option ℕ → Option ℕ
or_else none o = o
or_else (some i) o = some i

-- the last place with positive weight
unfoldable pub last_positive : List Float → Option ℕ
last_positive [] = none
last_positive (w ∷ ws) = or_else (Option.map suc (last_positive ws)) (cond (is_positive w) (some 0) none)

-- The first place with positive weight whose running sum isn't below u, else the last with positive weight. An accepted line has such a place.
unfoldable pub place_of : List Float → Float → ℕ
place_of ws u = Option.get_or (or_else (first_fitting u ws (running_sums_of ws)) (last_positive ws)) 0

-- d=4 reads one u, which gives a place
unfoldable pub by_weight : (Float → ℕ) → List ℕ → Choice
by_weight place [] = Choice.spent
by_weight place (w ∷ ws) = Choice.chosen (place (unit_of w)) ws

unfoldable pub choose_from : Distribution → List ℕ → Choice
choose_from (Distribution.single P) ws = Choice.chosen 0 ws
choose_from (Distribution.depolarizing qs) ws = bounded (size_of (Distribution.depolarizing qs)) ws
choose_from (Distribution.uniform Ps) ws = bounded (size_of (Distribution.uniform Ps)) ws
choose_from (Distribution.weighted es) ws = by_weight (place_of (map (λ (e : WeightedPauli). float e.weight) es)) ws

-- ---- a shot

-- cond is none, or its noiseless bits in that shot sum to parity
unfoldable pub is_satisfied : OutcomeCondition → Bits → Bool
is_satisfied c bits = eqb (length c.outcomes) 0 || not (sum_over c.outcomes bits ⊕ c.parity)

-- the element that falls in the shot, if one does, and the words left; or a word was needed past the end
pub data ShotDraw : Type 0 where
  spent : ShotDraw
  drew : Option ℕ → List ℕ → ShotDraw

unfoldable pub fault_of : Choice → ShotDraw
fault_of Choice.spent = ShotDraw.spent
fault_of (Choice.chosen e ws) = ShotDraw.drew (some e) ws

-- each shot reads a word; on a fault whose condition is satisfied the element is chosen before the next shot
unfoldable pub draw_shot_of : Noise → Bits → List ℕ → ShotDraw
draw_shot_of n bits [] = ShotDraw.spent
draw_shot_of n bits (w ∷ ws) =
    let element = fault_of (choose_from n.distribution ws) in
    cond (falls w (float n.probability) && is_satisfied n.condition bits) element (ShotDraw.drew none ws)

-- ---- a noise line

-- What is lent beside the job and the main list: the noiseless bits, by outcome and shot, the second list and its base; and the number of shots.
pub record Lent : Type 0 where
  pub noiseless : ℕ → ℕ → Bool
  pub second : List ℕ
  pub base : ℕ
  pub shots : ℕ

-- an element in a shot
pub record Fault : Type 0 where
  pub shot : ℕ
  pub element : ℕ

-- the faults, shots rising, and the words left; or a word was needed past the end
pub data Draws : Type 0 where
  spent : Draws
  drawn : List Fault → List ℕ → Draws

unfoldable pub also_fault : Fault → Draws → Draws
also_fault f Draws.spent = Draws.spent
also_fault f (Draws.drawn fs ws) = Draws.drawn (f ∷ fs) ws

-- a shot's draw, and then those of the shots after it
unfoldable pub then_shots : ℕ → ShotDraw → (List ℕ → Draws) → Draws
then_shots shot ShotDraw.spent later = Draws.spent
then_shots shot (ShotDraw.drew none ws) later = later ws
then_shots shot (ShotDraw.drew (some e) ws) later = also_fault (record { shot = shot; element = e }) (later ws)

-- so many shots, from one on, in rising order
unfoldable pub draw_shots : Lent → Noise → ℕ → ℕ → List ℕ → Draws
draw_shots lent n zero shot ws = Draws.drawn [] ws
draw_shots lent n (suc left) shot ws = then_shots shot (draw_shot_of n (λ id. lent.noiseless id shot) ws) (draw_shots lent n left (suc shot))

-- With p at or below zero no word is read.
unfoldable pub draw_line : Lent → Noise → List ℕ → Draws
draw_line lent n ws = let all = draw_shots lent n lent.shots 0 ws in cond (le (float n.probability) zero_float) (Draws.drawn [] ws) all

-- The part of one of the two lists that a noise line reads from: the main list, read on, or for corr c the second from place base + c, wrapping at
-- 2^64, afresh at each line.
unfoldable pub part_of : Lent → Option ℕ → List ℕ → List ℕ
part_of lent none main = main
part_of lent (some c) main = drop ((lent.base + c) % 2 ^ 64) lent.second

-- what is left of the main list after a noise line that left these words of its part
unfoldable pub main_after : Option ℕ → List ℕ → List ℕ → List ℕ
main_after none main left = left
main_after (some c) main left = main
