-- A line whose number is 0 passes each of its tests: laws. Assumes nothing.
use Rattle.std.specs.Prelude.{ℕ, ◌≤◌, ◌<◌, ◌≡◌, refl, Bool, true, false, cond, List, [], ◌∷◌, map, ltb}
use Rattle.std.proofs.Common.{arith, sym, ◌∙◌, true≢false, inl, inr, ltb-true}
use Rattle.std.proofs.Math.Option.{some}
use Rattle.text.specs.List.{rises_from}
use Rattle.text.proofs.Laws.Values.{both}
use Rattle.job.specs.Line.{Line}
use Rattle.job.specs.Grammar.{Written}
use Rattle.job.specs.Sound.{Every}
use Rattle.job.specs.Contexts.{Lowest}
use Rattle.job.proofs.Laws.Lists.{every_map}
use Rattle.job.specs.Checks.{Context, Test, line_tests, noise_tests, own_tests, tests, lowest, refusal_of}

-- the numbers of some tests
abbrev pub test_numbers : List Test → List ℕ
test_numbers = map (λ (t : Test). t.number)

-- each test passes
abbrev pub AllPass : List Test → Type 0
AllPass [] = Unit {0}
AllPass (t ∷ ts) = (t.bad ≡ false) × AllPass ts

-- The tests of a line stand in the order of their numbers, so that the first bad one has the lowest number.
pub tests_rise : (c : Context) (last : Bool) (w : Written) → rises_from 0 (test_numbers (tests c last w)) ≡ true
unfolding rises_from own_tests noise_tests line_tests
tests_rise c last (Written.header h) = refl
tests_rise c last (Written.line l) = lines l
  where
    lines : (l : Line) → rises_from 3 (test_numbers (line_tests c l)) ≡ true
    lines (Line.unitary g qs) = refl
    lines (Line.clifford qs t) = refl
    lines (Line.pauli P) = refl
    lines (Line.exponential P) = refl
    lines (Line.controlled C T) = refl
    lines (Line.permute s qs) = refl
    lines (Line.measure P id) = refl
    lines (Line.allocate id angle) = refl
    lines (Line.conditional P ids par) = refl
    lines (Line.reset qs) = refl
    lines (Line.inject shot P) = refl
    lines (Line.flip shot id) = refl
    lines (Line.barrier qs) = refl
tests_rise c last (Written.noise n) = refl
tests_rise c last (Written.element w P) = refl

-- where no number is the lowest, each test passes
pub lowest_passes : (a : ℕ) (ts : List Test) → rises_from a (test_numbers ts) ≡ true → lowest ts ≡ 0 → AllPass ts
unfolding rises_from lowest
lowest_passes a [] r e = tt
lowest_passes a (t ∷ ts) r e =
    let parts = both (ltb a t.number) (rises_from t.number (test_numbers ts)) r in
    go t.bad refl (ltb-true a t.number parts.0) (lowest_passes t.number ts parts.1) e
  where
    go : (b : Bool) → t.bad ≡ b → a < t.number → (lowest ts ≡ 0 → AllPass ts) → cond b t.number (lowest ts) ≡ 0 → (t.bad ≡ false) × AllPass ts
    go true q h ih e = absurd (omega arith)
    go false q h ih e = (q, ih e)

-- what a line of number 0 says passes each of its tests
pub refusal_passes : (c : Context) (last : Bool) (w : Written) → refusal_of c last (some w) ≡ 0 → AllPass (tests c last w)
unfolding refusal_of
refusal_passes c last w e = lowest_passes 0 (tests c last w) (tests_rise c last w) e

-- where each test passes, the number is 0
pub passes_lowest : (ts : List Test) → AllPass ts → lowest ts ≡ 0
unfolding lowest
passes_lowest [] p = refl
passes_lowest (t ∷ ts) p = rw p.0 (passes_lowest ts p.1)

-- ---- the lowest number

-- later numbers are higher
numbers_above : (a : ℕ) (ts : List Test) → rises_from a (test_numbers ts) ≡ true → Every (λ (t : Test). a < t.number) ts
unfolding rises_from
numbers_above a [] r = tt
numbers_above a (t ∷ ts) r =
    let parts = both (ltb a t.number) (rises_from t.number (test_numbers ts)) r in
    let first : a < t.number = ltb-true _ _ parts.0 in
    (first, every_map (λ (u : Test). t.number < u.number) (λ (u : Test). a < u.number) ts (λ u h. omega arith) (numbers_above t.number ts parts.1))

-- a test that passes changes neither the number nor what is said of the others
later_lowest : (t : Test) (ts : List Test) (n : ℕ) → t.bad ≡ false → Lowest ts n → Lowest (t ∷ ts) n
later_lowest t ts n q (Lowest.passes zero all) = Lowest.passes zero (q, all)
later_lowest t ts n q (Lowest.fails above one least) = Lowest.fails above (inr one) (λ e. absurd (true≢false (sym e ∙ q)), least)

-- the number that `lowest` gives, by the tests
pub lowest_is : (a : ℕ) (ts : List Test) → rises_from a (test_numbers ts) ≡ true → Lowest ts (lowest ts)
unfolding rises_from lowest
lowest_is a [] r = Lowest.passes refl tt
lowest_is a (t ∷ ts) r =
    let parts = both (ltb a t.number) (rises_from t.number (test_numbers ts)) r in
    go t.bad refl (ltb-true a t.number parts.0) (numbers_above t.number ts parts.1) (lowest_is t.number ts parts.1)
  where
    go : (b : Bool) → t.bad ≡ b → a < t.number → Every (λ (u : Test). t.number < u.number) ts → Lowest ts (lowest ts)
        → Lowest (t ∷ ts) (cond b t.number (lowest ts))
    go true q h above ih =
        Lowest.fails (omega (arith, h)) (inl (q, refl)) (
          λ e. omega arith,
          every_map (λ (u : Test). t.number < u.number) (λ (u : Test). u.bad ≡ true → t.number ≤ u.number) ts (λ u h e. omega arith) above,
        )
    go false q h above ih = later_lowest t ts (lowest ts) q ih
