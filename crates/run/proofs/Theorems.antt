-- Theorems about what a run asks for and leaves: 13, 14, the bits past the last shot, and the totals. Assumes nothing.
use Rattle.std.specs.Prelude.{◌≡◌, Bool, true, false, ◌&&◌, List, ℕ, ◌+◌, ◌*◌, ◌/◌, ◌<◌, ◌≤◌, length, get_or, replicate, drop}
use Rattle.std.proofs.Common.{◌∙◌, arith}
use borrow.Author.Tests.{leb-true, le-leb, le-ltb}
use Rattle.std.proofs.Math.Dec.{leb}
use Rattle.std.proofs.lemmas.List.{length-replicate, get_or-replicate}
use Rattle.std.proofs.Math.ListN.{get_or-append}
use Rattle.text.proofs.Laws.Values.{both}
use Rattle.job.specs.declared.Header.{Header}
use Rattle.job.specs.Reply.{over}
use Rattle.draws.specs.Execute.{States}
use Rattle.rows.specs.Words.{words_per_row, bit_in, pack}
use Rattle.rows.specs.Column.{column}
use Rattle.rows.proofs.Laws.Overwrite.{before_row}
use Rattle.rows.proofs.Laws.Pack.{length_tabulated, tabulated_at, length_pack, bit_pack}
use Rattle.totals.specs.Ones.{ones_to}
use Rattle.run.specs.Run.{Memory, frame_words_of, outcome_words_of, enough_words, spent_reply, flip_totals, finished_reply}

-- ---- 13

-- What a run asks for: the frames' words of X and of Z, the outcomes' words of the deltas and of the noiseless bits, and a total for each outcome.
pub record Enough (h : Header) (m : Memory) : Type 0 where
  pub x : frame_words_of h ≤ length m.x
  pub z : frame_words_of h ≤ length m.z
  pub deltas : outcome_words_of h ≤ length m.deltas
  pub totals : h.outcomes ≤ length m.totals
  pub noiseless : outcome_words_of h ≤ length m.source.noiseless

module _ (h : Header) (m : Memory) where
  -- A list that is too short is refused, and nothing else is.
  pub short_refused : enough_words h m ≡ true → Enough h m
  unfolding enough_words
  short_refused e =
      let x = leb (frame_words_of h) (length m.x) in
      let z = leb (frame_words_of h) (length m.z) in
      let d = leb (outcome_words_of h) (length m.deltas) in
      let t = leb h.outcomes (length m.totals) in
      let five = both (x && z && d && t) _ e in
      let four = both (x && z && d) t five.0 in
      let three = both (x && z) d four.0 in
      let two = both x z three.0 in
      record {
        x = leb-true _ _ two.0;
        z = leb-true _ _ two.1;
        deltas = leb-true _ _ three.1;
        totals = leb-true _ _ four.1;
        noiseless = leb-true _ _ five.1;
      }

  pub enough_taken : Enough h m → enough_words h m ≡ true
  unfolding enough_words
  enough_taken e = rw (le-leb _ _ e.x, le-leb _ _ e.z, le-leb _ _ e.deltas, le-leb _ _ e.totals, le-leb _ _ e.noiseless)

-- ---- 14

zeros_over : (n : ℕ) (old : List ℕ) (i : ℕ) → i < n → get_or (over (replicate n 0) old) i 0 ≡ 0
zeros_over n old i below =
    let zeros : List ℕ = replicate n 0 in
    let within : i < length zeros = rw (length-replicate {A = ℕ} n 0) below in
    get_or-append zeros (drop (length zeros) old) 0 i within ∙ get_or-replicate n i 0 0 below

-- Where draws are spent, every needed word and every total is left 0.
module _ (h : Header) (m : Memory) (k : ℕ) where
  pub spent_frames : (i : ℕ) → i < frame_words_of h → (get_or (spent_reply h m k).x i 0 ≡ 0) × (get_or (spent_reply h m k).z i 0 ≡ 0)
  unfolding spent_reply
  spent_frames i below = (zeros_over (frame_words_of h) m.x i below, zeros_over (frame_words_of h) m.z i below)

  pub spent_deltas : (i : ℕ) → i < outcome_words_of h → get_or (spent_reply h m k).deltas i 0 ≡ 0
  unfolding spent_reply
  spent_deltas i below = zeros_over (outcome_words_of h) m.deltas i below

  pub spent_totals : (id : ℕ) → id < h.outcomes → get_or (spent_reply h m k).totals id 0 ≡ 0
  unfolding spent_reply
  spent_totals id below = zeros_over h.outcomes m.totals id below

-- ---- the bits past the last shot

past_zero : (rows shots : ℕ) (bits : ℕ → ℕ → Bool) (old : List ℕ) (r s : ℕ) → r < rows → s / 64 < words_per_row shots → shots ≤ s
    → bit_in (words_per_row shots) (over (pack rows shots bits) old) r s ≡ false
unfolding bit_in column
past_zero rows shots bits old r s hr hs past =
    let w = words_per_row shots in
    let inside : r * w + s / 64 < length (pack rows shots bits) = omega (arith, before_row w r rows hr, length_pack rows shots bits) in
    let first = get_or-append (pack rows shots bits) (drop (length (pack rows shots bits)) old) 0 (r * w + s / 64) inside in
    rw first (bit_pack rows shots bits r s hr hs ∙ rw (le-ltb s shots past))

-- A run that ends leaves them 0 in every row, whatever they were.
module _ (h : Header) (m : Memory) (states : States) (s : ℕ) (within : s / 64 < words_per_row h.shots) (past : h.shots ≤ s) where
  pub padding_frames : (q : ℕ) → q < h.qubits
      → (bit_in (words_per_row h.shots) (finished_reply h m states).x q s ≡ false) × (bit_in (words_per_row h.shots) (finished_reply h m states).z q s ≡ false)
  unfolding finished_reply
  padding_frames q below = (
    past_zero h.qubits h.shots (λ q t. (states t).frame.x q) m.x q s below within past,
    past_zero h.qubits h.shots (λ q t. (states t).frame.z q) m.z q s below within past,
  )

  pub padding_deltas : (id : ℕ) → id < h.outcomes → bit_in (words_per_row h.shots) (finished_reply h m states).deltas id s ≡ false
  unfolding finished_reply
  padding_deltas id below = past_zero h.outcomes h.shots (λ id t. (states t).deltas id) m.deltas id s below within past

-- ---- totals

-- Every outcome of the header has a total, recorded or not,
pub totals_long : (h : Header) (states : States) → length (flip_totals h states) ≡ h.outcomes
unfolding flip_totals
totals_long h states = length_tabulated (λ id. ones_to h.shots (λ s. (states s).deltas id)) h.outcomes

-- which is the number of the job's shots in which it is flipped.
pub total_of : (h : Header) (states : States) (id : ℕ) → id < h.outcomes → get_or (flip_totals h states) id 0 ≡ ones_to h.shots (λ s. (states s).deltas id)
unfolding flip_totals
total_of h states id below = tabulated_at _ h.outcomes id below
