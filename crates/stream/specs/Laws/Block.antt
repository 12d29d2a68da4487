-- A block, filled by four chains of steps, each over its quarter. Assumes nothing.
use Rattle.std.specs.Prelude.{◌≡◌, refl, ◌⊎◌, List, ℕ, suc, ◌+◌, ◌%◌, ◌<◌, ◌≤◌, length, set, get_or}
use Rattle.std.proofs.Common.{sym, ap, ◌∙◌, inl, inr, arith, add-one, length-set, get_or-set_same, get_or-set_other, ext_get_or}
use Rattle.std.proofs.Math.Decide.{dec_lt, ℕ_discrete}
use Rattle.stream.specs.Stream.{step, stepped, words_from}
use Rattle.stream.specs.Laws.Words.{words_stepped, words_length}

-- the words at the four-more P are those that belong there
pub record WordsAt (state n : ℕ) (P : ℕ → Type 0) (words : List ℕ) : Type 0 where
  pub same : length words ≡ n
  pub right : (p : ℕ) → P p → get_or words p 0 ≡ stepped (suc p) state

-- one more
words_at_more : {state n : ℕ} {P : ℕ → Type 0} {words : List ℕ} → WordsAt state n P words → (p before : ℕ) {word : ℕ} → p < n → word ≡ step before
    → before ≡ stepped p state → WordsAt state n (λ q. (q ≡ p) ⊎ P q) (set words p word)
unfolding stepped
words_at_more {state = state} {n = n} {P = P} {words = words} w p before {word = word} h e b =
    record { same = length-set words p word ∙ w.same; right = λ q r. at q r (ℕ_discrete q p) }
  where
    at : (q : ℕ) → (q ≡ p) ⊎ P q → Dec (q ≡ p) → get_or (set words p word) q 0 ≡ stepped (suc q) state
    at q r (yes same) = rw same (get_or-set_same words p word 0 (omega (arith, w.same)) ∙ e ∙ ap step b)
    at q (inl same) (no other) = absurd (other same)
    at q (inr r) (no other) = get_or-set_other words p q word 0 other ∙ w.right q r

-- i words of each quarter are written, and the chains have come so far
pub record Chains (state : ℕ) (words : List ℕ) (a b c d i : ℕ) : Type 0 where
  pub written : WordsAt state 4096 (λ p. (p < 4096) × (p % 1024 < i)) words
  pub within : i ≤ 1024
  pub first : a ≡ stepped i state
  pub second : b ≡ stepped (1024 + i) state
  pub third : c ≡ stepped (2048 + i) state
  pub fourth : d ≡ stepped (3072 + i) state

pub block_begun : {state b c d : ℕ} (words : List ℕ) → length words ≡ 4096 → b ≡ stepped 1024 state → c ≡ stepped 2048 state → d ≡ stepped 3072 state
    → Chains state words state b c d 0
unfolding stepped
block_begun words h second third fourth =
    record {
      written = record { same = h; right = λ p none. absurd (omega (arith, none.1)) };
      within = omega arith;
      first = refl;
      second = second;
      third = third;
      fourth = fourth;
    }

-- a place that has its word after the next turn has it now, or is one of the four
four_more : (i p : ℕ) → i < 1024 → (p < 4096) × (p % 1024 < i + 1)
    → (p ≡ 3072 + i) ⊎ ((p ≡ 2048 + i) ⊎ ((p ≡ 1024 + i) ⊎ ((p ≡ i) ⊎ ((p < 4096) × (p % 1024 < i)))))
four_more i p h (small, upto) = at (dec_lt (p % 1024) i) (dec_lt p 1024) (dec_lt p 2048) (dec_lt p 3072)
  where
    at : Dec (p % 1024 < i) → Dec (p < 1024) → Dec (p < 2048) → Dec (p < 3072)
        → (p ≡ 3072 + i) ⊎ ((p ≡ 2048 + i) ⊎ ((p ≡ 1024 + i) ⊎ ((p ≡ i) ⊎ ((p < 4096) × (p % 1024 < i)))))
    at (yes before) x y z = inr (inr (inr (inr (small, before))))
    at (no now) (yes x) y z = inr (inr (inr (inl (omega (arith, now)))))
    at (no now) (no x) (yes y) z = inr (inr (inl (omega (arith, now, x))))
    at (no now) (no x) (no y) (yes z) = inr (inl (omega (arith, now, y)))
    at (no now) (no x) (no y) (no z) = inl (omega (arith, now, z))

step_on : (state n i : ℕ) {a w : ℕ} → a ≡ stepped (n + i) state → w ≡ step a → w ≡ stepped (n + (i + 1)) state
unfolding stepped
step_on state n i e f = rw next (f ∙ ap step e)
  where
    next : n + (i + 1) ≡ suc (n + i)
    next = omega arith

pub block_turn : {state : ℕ} {words : List ℕ} {a b c d i : ℕ} (a' b' c' d' : ℕ) → Chains state words a b c d i → i < 1024
    → a' ≡ step a → b' ≡ step b → c' ≡ step c → d' ≡ step d
    → Chains state (set (set (set (set words i a') (1024 + i) b') (2048 + i) c') (3072 + i) d') a' b' c' d' (i + 1)
unfolding stepped
block_turn {state = state} {a = a} {b = b} {c = c} {d = d} {i = i} a' b' c' d' x h ea eb ec ed =
    let one = words_at_more x.written i a (omega arith) ea x.first in
    let two = words_at_more one (1024 + i) b (omega arith) eb x.second in
    let three = words_at_more two (2048 + i) c (omega arith) ec x.third in
    let four = words_at_more three (3072 + i) d (omega arith) ed x.fourth in
    record {
      written = record { same = four.same; right = λ p r. four.right p (four_more i p h r) };
      within = omega arith;
      first = rw add-one (ea ∙ ap step x.first);
      second = step_on state 1024 i x.second eb;
      third = step_on state 2048 i x.third ec;
      fourth = step_on state 3072 i x.fourth ed;
    }

pub block_ended : {state : ℕ} {words : List ℕ} {a b c d i : ℕ} → Chains state words a b c d i → 1024 ≤ i
    → (words ≡ words_from 4096 state) × (d ≡ stepped 4096 state)
block_ended {state = state} {words = words} {i = i} x h =
    let all : i ≡ 1024 = omega (arith, x.within) in
    let long = x.written.same in (
      ext_get_or 0 words (words_from 4096 state) (long ∙ sym (words_length 4096 state))
          (λ p small. x.written.right p (omega (arith, long), omega arith) ∙ sym (words_stepped 4096 state p (omega (arith, long)))),
      rw all at x.fourth,
    )
