-- Theorems, for a reader of the claim: settling and execution agree, which words are read and when draws are spent, what falls, and cases of
-- document 01 that compute. Their proofs stand in Laws. Assumes nothing.
use Rattle.std.specs.Prelude.{◌≡◌, refl, Bool, true, false, ◌&&◌, List, [], ◌∷◌, ◌++◌, map, ◌↔◌, ℕ, ◌+◌, ◌-◌, ◌*◌, ◌/◌, ◌%◌, ◌^◌, ◌<◌, ◌≤◌, eqb, ltb, length, get_or, drop, replicate, Float}
use Rattle.std.proofs.Common.{ap, ◌∙◌, arith}
use Rattle.std.proofs.Math.Option.{Option, none, some}
use Rattle.std.specs.Float.Ieee.{of_bits, of_int, add, div, lt, le}
use Rattle.std.specs.Float.Ieee.Exact.{HasValue}
use Rattle.text.specs.Bytes.{bytes}
use Rattle.text.specs.Number.{decimal_digits}
use Rattle.text.specs.List.{is_rising_of, commas_by, list_text_by}
use Rattle.text.specs.Template.{value_text, first_text, line_text}
use Rattle.pauli.specs.Bits.{◌⊕◌, members, sum_over, bit}
use Rattle.pauli.specs.Pauli.{Pauli, identity}
use Rattle.job.specs.declared.Header.{Header}
use Rattle.job.specs.Line.{SparsePauli, pauli_of, Line, WeightedPauli, Distribution, size_of, Noise, Instruction, Placed}
use Rattle.job.specs.Float.{float, zero_float, one, total_from}
use Rattle.job.specs.Sound.{Every, weights_of, WeightedSound}
use Rattle.job.specs.Rising.{including, rising}
use Rattle.job.specs.Checks.{all_below, distinct}
use Rattle.frames.specs.Forward.{setting_of, run}
use Rattle.frames.specs.Shots.{within}
use Rattle.draws.specs.Draws.{unit_of, falls, element_at, selected, depolarizing_element_of, no_pauli, Choice, limit_of, bounded, running_from, running_sums_of, is_positive, first_fitting, or_else, last_positive, place_of, by_weight, choose_from, is_satisfied, fault_of, draw_shot_of, Lent, Fault, Draws, also_fault, then_shots, draw_shots, draw_line, part_of, main_after}
use Rattle.draws.specs.Settle.{SettledLine, inject_text, injection, Step, noise_step, step_of, Settled, prefixed, settle_then, settle, settled_list}
use Rattle.draws.specs.Execute.{States, Ended, execute}
use Rattle.draws.specs.Known.{rust_place, run_all, on_settled, SpentAt, lengthened, PositiveAt, shots_of, elements_of, Writable, Injections, all_own_below, noise_free, copies}
use Rattle.draws.proofs.Laws.Settling.{execute_settle}
use Rattle.draws.proofs.Laws.Words as words
use Rattle.draws.proofs.Laws.Enough as enough
use Rattle.draws.proofs.Laws.Spent as spent
use Rattle.draws.proofs.Laws.Places as places
use Rattle.draws.proofs.Laws.Faults as faults
use Rattle.draws.proofs.Laws.Unit as unit
use Rattle.draws.proofs.Laws.Elements as elements
use Rattle.draws.proofs.Laws.Depolarizing as depolarizing
use Rattle.draws.proofs.Laws.Within as settled

-- ---- settling and execution

-- Execution with the noise in place is, from all states and in every shot, what the settled list does: where settling gives `spent_at k` it ends with
-- `spent_at k`, and where settling gives the lines ls it ends in the states to which ls run. So draws are spent in the same cases, at the same line.
pub executed_settled : (h : Header) (lent : Lent) (is : List Placed) (main : List ℕ) (states : States)
    → execute h lent is main states ≡ on_settled h states (settle lent is main)
executed_settled h lent is main states = execute_settle h lent is main states

-- the two cases
pub executed_spent : (h : Header) (lent : Lent) (is : List Placed) (main : List ℕ) (states : States) (k : ℕ)
    → settle lent is main ≡ Settled.spent_at k → execute h lent is main states ≡ Ended.spent_at k
unfolding on_settled
executed_spent h lent is main states k e = execute_settle h lent is main states ∙ ap (on_settled h states) e

pub executed_ended : (h : Header) (lent : Lent) (is : List Placed) (main : List ℕ) (states : States) (ls : List SettledLine)
    → settle lent is main ≡ Settled.settled ls
    → execute h lent is main states ≡ Ended.ended (λ s. run (setting_of h s) (settled_list ls) (states s))
unfolding on_settled run_all
executed_ended h lent is main states ls e = execute_settle h lent is main states ∙ ap (on_settled h states) e

-- ---- a noise line's words

module _ (lent : Lent) (n : Noise) (ws : List ℕ) where
  -- What a line reads is a beginning of its part: more words change nothing, and what is left is a suffix of what was there.
  pub line_more : (fs : List Fault) (left vs : List ℕ) → draw_line lent n ws ≡ Draws.drawn fs left
      → draw_line lent n (ws ++ vs) ≡ Draws.drawn fs (left ++ vs)
  line_more fs left vs e = words.took_more (words.drawn_took lent n ws fs left e) vs

  pub line_suffix : (fs : List Fault) (left : List ℕ) → draw_line lent n ws ≡ Draws.drawn fs left → (k : ℕ) × (k ≤ length ws) × (left ≡ drop k ws)
  line_suffix fs left e =
      let t : words.Took (draw_line lent n) (Draws.drawn fs) ws left = words.drawn_took lent n ws fs left e in
      (length t.used, omega (arith, words.took_length t), words.took_suffix t)

  -- 14's condition: draws are spent exactly where a needed word lies past the part, that is, where every longer list from which the line is drawn
  -- leaves less than was put behind.
  pub line_spent : draw_line lent n ws ≡ Draws.spent
      ↔ ((vs : List ℕ) (fs : List Fault) (left : List ℕ) → draw_line lent n (ws ++ vs) ≡ Draws.drawn fs left → length left < length vs)
  line_spent = (words.spent_past lent n ws, words.past_spent lent n ws)

  -- There is such a list: two zeros a shot are always enough, for a distribution that has elements, and fewer than 2^64.
  pub line_enough : 0 < size_of n.distribution → size_of n.distribution < 2 ^ 64
      → (fs : List Fault) × (left : List ℕ) × (draw_line lent n (ws ++ replicate (lent.shots + lent.shots) 0) ≡ Draws.drawn fs left)
  line_enough p h = enough.enough_drawn (draw_line lent n (ws ++ replicate (lent.shots + lent.shots) 0)) (enough.line_enough lent n p h ws)

-- ---- the words of a job

module _ (lent : Lent) (main text : List ℕ) (ls : List SettledLine) (left : List ℕ) where
  -- The main list is read on by noise without corr; noise with corr and all other lines leave it as it was.
  pub main_read : (n : Noise) → n.correlation ≡ none → step_of lent main text (Instruction.noise n) ≡ Step.lines ls left
      → (k : ℕ) × (k ≤ length main) × (left ≡ drop k main)
  main_read n c e = let r = words.main_read lent main text n ls left c e in line_suffix lent n main r.0 left r.1

  pub main_kept : (n : Noise) (c : ℕ) → n.correlation ≡ some c → step_of lent main text (Instruction.noise n) ≡ Step.lines ls left → left ≡ main
  main_kept n c k e = words.main_kept lent main text n ls left c k e

  pub main_untouched : (l : Line) → step_of lent main text (Instruction.line l) ≡ Step.lines ls left → left ≡ main
  main_untouched l e = words.line_kept lent main text l ls left e

-- A job's draws are spent at line k exactly where its instructions begin with some that settle, and then noise in line k is spent, in its part of
-- the second list or of what those before it left of the main one.
pub job_spent : (lent : Lent) (main : List ℕ) (is : List Placed) (k : ℕ) → settle lent is main ≡ Settled.spent_at k ↔ SpentAt lent main is k
job_spent lent main is k = (spent.spent_at_lem lent main is k, spent.at_spent)

-- Where a job settles, more words in both lists change nothing.
pub job_more : (lent : Lent) (us main vs : List ℕ) (is : List Placed) (ls : List SettledLine)
    → settle lent is main ≡ Settled.settled ls → settle (lengthened us lent) is (main ++ vs) ≡ Settled.settled ls
job_more lent us main vs is ls e = spent.settled_more lent us main vs is e

-- ---- faults

module _ (lent : Lent) (n : Noise) (ws : List ℕ) (fs : List Fault) (left : List ℕ) (e : draw_line lent n ws ≡ Draws.drawn fs left) where
  -- The shots of a line's faults are strictly rising, and shots of the job.
  pub fault_shots : (is_rising_of (shots_of fs) ≡ true) × (all_below lent.shots (shots_of fs) ≡ true)
  fault_shots = (faults.shots_rising lent n ws fs left e, faults.shots_below lent n ws fs left e)

  -- Their elements are elements of the distribution, where it has any.
  pub fault_elements : 0 < size_of n.distribution → all_below (size_of n.distribution) (elements_of fs) ≡ true
  fault_elements h = faults.elements_below lent n ws fs left h e

-- d=2 over at least one qubit has elements; d=1 has one, d=3 and d=4 have as many as their lists.
pub depolarizing_size : (qs : List ℕ) → 0 < length qs → 0 < size_of (Distribution.depolarizing qs)
depolarizing_size qs h = faults.depolarizing_size qs h

-- An element is the one at its place of the list, so `no_pauli` is never taken.
pub element_uniform : (Ps : List SparsePauli) (e : ℕ) (P : SparsePauli) → e < size_of (Distribution.uniform Ps)
    → element_at (Distribution.uniform Ps) e ≡ get_or Ps e P
element_uniform Ps e P h = faults.element_uniform Ps e P h

pub element_weighted : (es : List WeightedPauli) (e : ℕ) (w : WeightedPauli) → e < size_of (Distribution.weighted es)
    → element_at (Distribution.weighted es) e ≡ (get_or es e w).pauli
element_weighted es e w h = faults.element_weighted es e w h

-- d=4: an accepted line never draws a place whose weight isn't positive.
pub positive_drawn : (qubits : ℕ) (es : List WeightedPauli) → WeightedSound qubits es → (lent : Lent) (n : Noise) → n.distribution ≡ Distribution.weighted es
    → (ws : List ℕ) (fs : List Fault) (left : List ℕ) → draw_line lent n ws ≡ Draws.drawn fs left → Every (PositiveAt (weights_of es)) (elements_of fs)
positive_drawn qubits es sound lent n d ws fs left e =
    faults.elements_in (PositiveAt (weights_of es)) n (λ vs. rw d (faults.choice_positive qubits es sound vs)) lent ws fs left e

-- Where all weights are positive the choice is the Rust's.
pub positive_as_rust : (es : List WeightedPauli) → Every (λ (w : Float). is_positive w ≡ true) (weights_of es) → (ws : List ℕ)
    → choose_from (Distribution.weighted es) ws ≡ by_weight (λ u. rust_place u (running_sums_of (weights_of es))) ws
unfolding choose_from by_weight
positive_as_rust es v [] = refl
positive_as_rust es v (w ∷ ws) = ap (λ (e : ℕ). Choice.chosen e ws) (places.place_as_rust (weights_of es) v (unit_of w))

-- u is finite, not negative, and exactly the fraction floor(w / 2048) / 2^53.
pub unit_exact : (w : ℕ) → w < 2 ^ 64 → HasValue (unit_of w) false (w / 2048) (2 ^ 53)
unit_exact w h = unit.unit_exact w h

-- For a probability that is the fraction a / c, a fault falls where floor(w / 2048) / 2^53 < a / c, in whole numbers.
pub falls_exact : (w : ℕ) (p : Float) (a c : ℕ) → w < 2 ^ 64 → 0 < c → HasValue p false a c → falls w p ≡ ltb (w / 2048 * c) (a * 2 ^ 53)
falls_exact w p a c h C v = unit.falls_exact w p a c h C v

-- The limit is a multiple of c, so the choice is fair: as many words below it give one element as another.
pub limit_whole : (c : ℕ) → 0 < c → limit_of c % c ≡ 0
limit_whole c h = faults.limit_whole c h

-- ---- the elements of d=2

module _ (qs : List ℕ) (d : distinct qs ≡ true) (e : ℕ) where
  -- The qubit at place i has an X part exactly if bit 2i of e + 1 is set, and a Z part exactly if bit 2i + 1 is.
  pub depolarizing_x : (i : ℕ) → i < length qs → (pauli_of (depolarizing_element_of qs e)).x (get_or qs i 0) ≡ bit (e + 1) (2 * i)
  depolarizing_x i h = elements.element_x qs e d i h

  pub depolarizing_z : (i : ℕ) → i < length qs → (pauli_of (depolarizing_element_of qs e)).z (get_or qs i 0) ≡ bit (e + 1) (2 * i + 1)
  depolarizing_z i h = elements.element_z qs e d i h

  -- No other qubit has a part.
  pub depolarizing_off : (q : ℕ) → members qs q ≡ false
      → ((pauli_of (depolarizing_element_of qs e)).x q ≡ false) × ((pauli_of (depolarizing_element_of qs e)).z q ≡ false)
  depolarizing_off q m = (elements.element_off_x qs e q m, elements.element_off_z qs e q m)

-- An element's lists are as a line may hold them: strictly rising, below n where the qubits are, and not longer than the list of qubits.
pub depolarizing_written : (qs : List ℕ) (e n : ℕ) → all_below n qs ≡ true
    → Writable n (length qs) (depolarizing_element_of qs e).x × Writable n (length qs) (depolarizing_element_of qs e).z
unfolding depolarizing_element_of
depolarizing_written qs e n b = (elements.selected_writable n (e + 1) qs b, elements.selected_writable n ((e + 1) / 2) qs b)

-- The elements are all Paulis on the qubits but the identity, each once.
module _ (qs : List ℕ) where
  pub depolarizing_once : distinct qs ≡ true → (e f : ℕ) → e < size_of (Distribution.depolarizing qs) → f < size_of (Distribution.depolarizing qs)
      → pauli_of (depolarizing_element_of qs e) ≡ pauli_of (depolarizing_element_of qs f) → e ≡ f
  depolarizing_once d e f a b same = depolarizing.element_once qs d e f a b same

  pub depolarizing_some : distinct qs ≡ true → (e : ℕ) → e < size_of (Distribution.depolarizing qs)
      → pauli_of (depolarizing_element_of qs e) ≡ identity → ⊥
  depolarizing_some d e a same = depolarizing.element_some qs d e a same

  pub depolarizing_every : (P : Pauli) → ((q : ℕ) → members qs q ≡ false → (P.x q ≡ false) × (P.z q ≡ false)) → (P ≡ identity → ⊥)
      → (e : ℕ) × (e < size_of (Distribution.depolarizing qs)) × (pauli_of (depolarizing_element_of qs e) ≡ P)
  depolarizing_every P on different = depolarizing.element_every qs P on different

-- ---- settled lines

-- Noise comes to injections in shots of the job.
pub noise_injects : (lent : Lent) (main text : List ℕ) (n : Noise) (ls : List SettledLine) (left : List ℕ)
    → step_of lent main text (Instruction.noise n) ≡ Step.lines ls left → Injections lent n ls
noise_injects lent main text n ls left e = settled.noise_injects lent main text n ls left e

-- Where a job's own injections and flips are in its shots, as test 10 wants it, so are those of the settled list: a shot past the last has none.
pub settle_within : (lent : Lent) (main : List ℕ) (is : List Placed) (ls : List SettledLine) → all_own_below lent.shots is ≡ true
    → settle lent is main ≡ Settled.settled ls → within (λ shot. ltb shot lent.shots) (settled_list ls) ≡ true
settle_within lent main is ls b e = settled.settle_within lent main is ls b e

-- A job without noise settles to itself, with its texts, whatever is lent.
pub settle_copies : (lent : Lent) (main : List ℕ) (is : List Placed) → noise_free is ≡ true
    → settle lent is main ≡ Settled.settled (copies is)
settle_copies lent main is f = settled.settle_copies lent main is f

-- ---- cases of document 01, computed

-- the element that a choice takes
unfoldable pub taken : Distribution → Choice → Option SparsePauli
taken d Choice.spent = none
taken d (Choice.chosen e left) = some (element_at d e)

-- the element that one word gives
abbrev pub given_by : Distribution → ℕ → Option SparsePauli
given_by d w = taken d (choose_from d (w ∷ []))

-- k = 1, on any qubit: word 0 gives X, 1 Z, 2 Y, and 2^64 - 1 is rejected. The word before that one is taken.
pub one_qubit : (q : ℕ)
    → map (given_by (Distribution.depolarizing (q ∷ []))) (0 ∷ 1 ∷ 2 ∷ (2 ^ 64 - 1) ∷ (2 ^ 64 - 2) ∷ [])
    ≡ some (record { x = q ∷ []; z = [] })
    ∷ some (record { x = []; z = q ∷ [] })
    ∷ some (record { x = q ∷ []; z = q ∷ [] })
    ∷ none
    ∷ some (record { x = q ∷ []; z = q ∷ [] })
    ∷ []
unfolding taken choose_from size_of bounded element_at depolarizing_element_of selected rising including
one_qubit q = refl

-- Two qubits in falling order: the first of the list has the lower bits, and the lists are rising. 15 elements: the limit is 2^64 - 1 itself, so
-- 2^64 - 2 is the last element.
pub two_qubits : map (given_by (Distribution.depolarizing (7 ∷ 3 ∷ []))) (0 ∷ 3 ∷ 4 ∷ 14 ∷ (2 ^ 64 - 2) ∷ (2 ^ 64 - 1) ∷ [])
    ≡ some (record { x = 7 ∷ []; z = [] })
    ∷ some (record { x = 3 ∷ []; z = [] })
    ∷ some (record { x = 3 ∷ 7 ∷ []; z = [] })
    ∷ some (record { x = 3 ∷ 7 ∷ []; z = 3 ∷ 7 ∷ [] })
    ∷ some (record { x = 3 ∷ 7 ∷ []; z = 3 ∷ 7 ∷ [] })
    ∷ none
    ∷ []
unfolding taken choose_from size_of bounded element_at depolarizing_element_of selected rising including
two_qubits = refl

-- d=3 with one element reads a word all the same; a rejected word is spent.
pub one_element : (P : SparsePauli) (ws : List ℕ) → choose_from (Distribution.uniform (P ∷ [])) ((2 ^ 64 - 1) ∷ 5 ∷ ws) ≡ Choice.chosen 0 ws
unfolding choose_from size_of bounded
one_element P ws = refl

-- The limits for 1, 3 and 7 elements: with seven, words from 2^64 - 2 up are rejected.
pub limits : map limit_of (1 ∷ 3 ∷ 7 ∷ []) ≡ (2 ^ 64 - 1) ∷ (2 ^ 64 - 1) ∷ (2 ^ 64 - 2) ∷ []
limits = refl

abbrev pub half : ℕ
half = 0x3fe0_0000_0000_0000

abbrev pub whole : ℕ
whole = 0x3ff0_0000_0000_0000

-- u < p is strict: p = 1/2, p = 1 and the least p above zero, 2^-1074
pub at_p : (falls (2 ^ 63 - 1) (float half) ≡ true)
    × (falls (2 ^ 63) (float half) ≡ false)
    × (falls (2 ^ 64 - 1) (float whole) ≡ true)
    × (falls 2047 (float 1) ≡ true)
    × (falls 2048 (float 1) ≡ false)
unfolding unit_of div of_int lt le of_bits
at_p = (refl, refl, refl, refl, refl)

-- ---- weights

-- 0.1 and 0.2: their sum is 0.30000000000000004, and 0.1 over it is a third
pub tenths : (total_from zero_float (float 0x3fb9_9999_9999_999a ∷ float 0x3fc9_9999_9999_999a ∷ []) ≡ float 0x3fd3_3333_3333_3334)
    × (running_sums_of (float 0x3fb9_9999_9999_999a ∷ float 0x3fc9_9999_9999_999a ∷ []) ≡ float 0x3fd5_5555_5555_5555 ∷ one ∷ [])
unfolding total_from running_from add div of_bits
tenths = (refl, refl)

-- 3, 1, 1, 2: each place adds its own quotient, and each sum is rounded, so the third is not 5/7, which ends in b7; the last, which came to the
-- number before 1.0, is set to 1.0
pub sevenths : running_sums_of (float 0x4008_0000_0000_0000 ∷ float whole ∷ float whole ∷ float 0x4000_0000_0000_0000 ∷ [])
    ≡ float 0x3fdb_6db6_db6d_b6db ∷ float 0x3fe2_4924_9249_2492 ∷ float 0x3fe6_db6d_b6db_6db6 ∷ one ∷ []
unfolding total_from running_from add div of_bits
sevenths = refl

-- equal weights, so many
abbrev pub equal : ℕ → Distribution
equal k = Distribution.weighted (replicate k record { weight = whole; pauli = record { x = []; z = [] } })

-- opens what a choice by weights computes with
weighing : Unit {0}
unfolding choose_from by_weight place_of or_else first_fitting last_positive is_positive total_from running_from unit_of add div of_int lt le of_bits
weighing = tt

-- Halves: u = 1/2 still takes the first place, the next u does not. Thirds: the two u about 1/3 take different places.
pub halves : (choose_from (equal 2) ((2 ^ 63) ∷ []) ≡ Choice.chosen 0 [])
    × (choose_from (equal 2) ((2 ^ 63 + 2048) ∷ []) ≡ Choice.chosen 1 [])
    × (choose_from (equal 3) ((3002399751580330 * 2048) ∷ []) ≡ Choice.chosen 0 [])
    × (choose_from (equal 3) ((3002399751580331 * 2048) ∷ []) ≡ Choice.chosen 1 [])
    × (choose_from (equal 3) ((2 ^ 64 - 1) ∷ []) ≡ Choice.chosen 2 [])
unfolding weighing
halves = (refl, refl, refl, refl, refl)

-- weights by their bits
abbrev pub weighted : List ℕ → Distribution
weighted bits = Distribution.weighted (map (λ (b : ℕ). record { weight = b; pauli = record { x = []; z = [] } }) bits)

-- the places that words choose
abbrev pub chosen_by_of : List ℕ → List ℕ → List Choice
chosen_by_of bits = map (λ (w : ℕ). choose_from (weighted bits) (w ∷ []))

abbrev pub minus_zero : ℕ
minus_zero = 0x8000_0000_0000_0000

-- u = 0 passes over a leading zero, and over -0, and takes the next positive place. So does the next u.
pub leading_zeros : (chosen_by_of (0 ∷ whole ∷ []) (2047 ∷ 2048 ∷ []) ≡ replicate 2 (Choice.chosen 1 []))
    × (chosen_by_of (minus_zero ∷ 0 ∷ whole ∷ []) (0 ∷ 2048 ∷ []) ≡ replicate 2 (Choice.chosen 2 []))
unfolding weighing
leading_zeros = (refl, refl)

-- 1, 4, 1, 1 come to 1 - 2^-52, which is below the last u: zeros behind them aren't taken, though the last running sum is 1.0.
pub trailing_zeros : chosen_by_of (whole ∷ 0x4010_0000_0000_0000 ∷ whole ∷ whole ∷ 0 ∷ minus_zero ∷ []) ((2 ^ 64 - 2 * 2048) ∷ (2 ^ 64 - 1) ∷ [])
    ≡ replicate 2 (Choice.chosen 3 [])
unfolding weighing
trailing_zeros = refl

-- 2^-1074 is positive: beside 1.0, and beside 2.0, where its quotient is 0, u = 0 takes it, and the next u doesn't.
pub smallest : (chosen_by_of (1 ∷ whole ∷ []) (2047 ∷ 2048 ∷ []) ≡ Choice.chosen 0 [] ∷ Choice.chosen 1 [] ∷ [])
    × (chosen_by_of (1 ∷ 0x4000_0000_0000_0000 ∷ []) (2047 ∷ 2048 ∷ []) ≡ Choice.chosen 0 [] ∷ Choice.chosen 1 [] ∷ [])
unfolding weighing
smallest = (refl, refl)

-- zero, with either sign, isn't positive, and 2^-1074 is
pub positive_bits : map (λ (b : ℕ). is_positive (float b)) (0 ∷ minus_zero ∷ 1 ∷ []) ≡ false ∷ false ∷ true ∷ []
unfolding weighing
positive_bits = refl

-- ---- lines and jobs

-- depolarizing noise on one qubit, with a probability, a corr and a condition
abbrev pub noise_on : ℕ → ℕ → Option ℕ → List ℕ → Bool → Noise
noise_on q p corr ids par =
    record {
      probability = p;
      correlation = corr;
      condition = record { outcomes = ids; parity = par };
      distribution = Distribution.depolarizing (q ∷ []);
      size = 3;
    }

-- what is lent beside the main list, for so many shots: outcome 3 is 1 in shot 1 alone, and the others are 0
abbrev pub lent_for : ℕ → Lent
lent_for shots = record { noiseless = λ id shot. eqb id 3 && eqb shot 1; second = 9 ∷ 9 ∷ 0 ∷ 1 ∷ []; base = 2 ^ 64 - 1; shots = shots }

abbrev pub fault : ℕ → ℕ → Fault
fault shot e = record { shot = shot; element = e }

-- With p at or below zero (0, -0, -1) no word is read.
pub no_word : (lent : Lent) (q : ℕ) (corr : Option ℕ) (ids : List ℕ) (par : Bool) (ws : List ℕ)
    → map (λ (p : ℕ). draw_line lent (noise_on q p corr ids par) ws) (0 ∷ 0x8000_0000_0000_0000 ∷ 0xbff0_0000_0000_0000 ∷ [])
    ≡ replicate 3 (Draws.drawn [] ws)
unfolding draw_line le of_bits
no_word lent q corr ids par ws = refl

-- opens what a noise line's draws compute with
drawing : Unit {0}
unfolding draw_line draw_shots then_shots also_fault draw_shot_of fault_of is_satisfied sum_over ◌⊕◌ choose_from size_of bounded unit_of div of_int lt le of_bits
drawing = tt

-- p = 1/2, three shots: a fault with element 2, none, and a fault whose first word is rejected; in a fourth shot a word is missing
pub three_shots : draw_line (lent_for 3) (noise_on 0 half none [] false) (0 ∷ 2 ∷ (2 ^ 63) ∷ (2 ^ 63 - 1) ∷ (2 ^ 64 - 1) ∷ 3 ∷ [])
    ≡ Draws.drawn (fault 0 2 ∷ fault 2 0 ∷ []) []
unfolding drawing
three_shots = refl

pub a_fourth : draw_line (lent_for 4) (noise_on 0 half none [] false) (0 ∷ 2 ∷ (2 ^ 63) ∷ (2 ^ 63 - 1) ∷ (2 ^ 64 - 1) ∷ 3 ∷ []) ≡ Draws.spent
unfolding drawing
a_fourth = refl

-- p = 1 and the condition that outcomes 1 and 3 sum to 1: an element in shot 1 alone, where one is chosen; that they sum to 0: in the other two
pub on_condition : draw_line (lent_for 3) (noise_on 0 whole none (1 ∷ 3 ∷ []) true) (0 ∷ 0 ∷ 1 ∷ 0 ∷ 7 ∷ []) ≡ Draws.drawn (fault 1 1 ∷ []) (7 ∷ [])
unfolding drawing
on_condition = refl

pub on_zero : draw_line (lent_for 3) (noise_on 0 whole none (1 ∷ 3 ∷ []) false) (0 ∷ 1 ∷ 0 ∷ 0 ∷ 2 ∷ 7 ∷ [])
    ≡ Draws.drawn (fault 0 1 ∷ fault 2 2 ∷ []) (7 ∷ [])
unfolding drawing
on_zero = refl

-- an instruction in a line
abbrev pub in_line : ℕ → Noise → Placed
in_line k n = record { line = k; text = []; instruction = Instruction.noise n }

-- One shot, base 2^64 - 1: corr 3 begins at place 2 of the second list, at each of its lines anew, and the main list is read on.
abbrev pub correlated : List Placed
correlated =
    in_line 2 (noise_on 0 whole none [] false)
    ∷ in_line 3 (noise_on 0 whole (some 3) [] false)
    ∷ in_line 4 (noise_on 5 whole (some 3) [] false)
    ∷ in_line 5 (noise_on 0 whole none [] false)
    ∷ []

-- the injection of an element in shot 0 on one qubit
abbrev pub on : ℕ → ℕ → SettledLine
on q e = injection (Distribution.depolarizing (q ∷ [])) (fault 0 e)

pub settles : settle (lent_for 1) correlated (0 ∷ 0 ∷ 0 ∷ 2 ∷ []) ≡ Settled.settled (on 0 0 ∷ on 0 1 ∷ on 5 1 ∷ on 0 2 ∷ [])
unfolding drawing settle settle_then prefixed step_of noise_step main_after part_of
settles = refl

-- a word fewer in the main list, and line 5 is where it is spent
pub stops : settle (lent_for 1) correlated (0 ∷ 0 ∷ 0 ∷ []) ≡ Settled.spent_at 5
unfolding drawing settle settle_then prefixed step_of noise_step main_after part_of
stops = refl

-- an injection's text; the identity has empty lists
pub inject_text_lem : (inject_text 3 record { x = 1 ∷ 12 ∷ []; z = [] } ≡ bytes "op=i shot=3 x=1,12 z=-")
    × (inject_text 0 no_pauli ≡ bytes "op=i shot=0 x=- z=-")
unfolding inject_text no_pauli line_text first_text value_text list_text_by commas_by decimal_digits bytes
inject_text_lem = (refl, refl)
