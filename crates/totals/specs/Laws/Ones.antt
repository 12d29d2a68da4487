-- How many are true: in parts, in a word, after a change. Laws. Assumes nothing.
use Rattle.std.specs.Prelude.{◌≡◌, refl, Bool, true, false, cond, List, ℕ, zero, suc, ◌+◌, ◌*◌, ◌/◌, ◌%◌, ◌^◌, ◌≤◌, ◌<◌, ◌++◌, eqb, length, get_or, take, drop}
use Rattle.std.proofs.Common.{sym, ap, ap₂, ◌∙◌, arith, one-add, add-one, shr_lt, eq-eqb, ne_eqb, length-append, length-take, length-drop, take-append-drop}
use Rattle.std.proofs.lemmas.List.{get_or_append_left, get_or-append-add, get_or-take, get_or-drop}
use Rattle.std.proofs.Math.Path.{fun_ext}
use Rattle.std.proofs.Math.Decide.{ℕ_discrete}
use Rattle.std.specs.Int.Count.{ones, ones_step}
use Rattle.std.specs.Int.Bits.{bit_or, or_add_and}
use Rattle.std.proofs.lemmas.Nat.{and_le_l, and_le_r}
use Rattle.pauli.specs.Bits.{Bits, ◌⊕◌, bit}
use Rattle.pauli.proofs.Laws.F2.{⊕_false}
use Rattle.pauli.proofs.Laws.Word.{bit_zero, bit_shr}
use Rattle.rows.specs.Words.{bit_in}
use Rattle.totals.specs.Ones.{ones_to, ones_in}

-- ---- in parts

-- the first n, and the m after them
pub ones_plus : (n m : ℕ) (b : Bits) → ones_to (n + m) b ≡ ones_to n b + ones_to m (λ k. b (n + k))
unfolding ones_to
ones_plus n zero b = let e : n + 0 ≡ n = omega arith in rw e (omega arith)
ones_plus n (suc m) b = let e : n + suc m ≡ suc (n + m) = omega arith in rw e (omega (arith, ones_plus n m b))

pub ones_same : (n : ℕ) (b c : Bits) → ((k : ℕ) → k < n → b k ≡ c k) → ones_to n b ≡ ones_to n c
unfolding ones_to
ones_same zero b c e = refl
ones_same (suc n) b c e = ap₂ (λ (i : ℕ) (t : Bool). i + cond t 1 0) (ones_same n b c (λ k h. e k (omega arith))) (e n (omega arith))

pub ones_none : (n : ℕ) (b : Bits) → ((k : ℕ) → k < n → b k ≡ false) → ones_to n b ≡ 0
unfolding ones_to
ones_none zero b e = refl
ones_none (suc n) b e = rw (ones_none n b (λ k h. e k (omega arith)), e n (omega arith))

-- none from n on: the first n have all
pub ones_within : (n m : ℕ) (b : Bits) → n ≤ m → ((k : ℕ) → n ≤ k → b k ≡ false) → ones_to m b ≡ ones_to n b
unfolding ones_to
ones_within n zero b within e = let none : n ≡ 0 = omega arith in rw none
ones_within n (suc m) b within e = go (λ less. ones_within n m b less e) (ℕ_discrete n (suc m))
  where
    go : (n ≤ m → ones_to m b ≡ ones_to n b) → Dec (n ≡ suc m) → ones_to (suc m) b ≡ ones_to n b
    go rest (yes same) = rw same
    go rest (no more) = rw (e m (omega arith)) (omega (arith, rest (omega arith)))

one_at_most : (t : Bool) → cond t 1 0 ≤ 1
one_at_most true = omega arith
one_at_most false = omega arith

pub ones_few : (n : ℕ) (b : Bits) → ones_to n b ≤ n
unfolding ones_to
ones_few zero b = omega arith
ones_few (suc n) b = omega (arith, ones_few n b, one_at_most (b n))

-- ---- in a word

-- a bit as a number
pub bit_one : (v j : ℕ) → cond (bit v j) 1 0 ≡ v / 2 ^ j % 2
unfolding bit
bit_one v j = go (v / 2 ^ j % 2) (omega arith)
  where
    go : (d : ℕ) → d < 2 → cond (eqb d 1) 1 0 ≡ d
    go zero h = refl
    go (suc zero) h = refl
    go (suc (suc d)) h = absurd (omega arith)

-- the first, and those after it
ones_first : (n : ℕ) (b : Bits) → ones_to (suc n) b ≡ cond (b 0) 1 0 + ones_to n (λ k. b (suc k))
unfolding ones_to
ones_first zero b = omega arith
ones_first (suc n) b = omega (arith, ones_first n b)

-- the bits of a number that has no more than n
pub ones_word : (n v : ℕ) → v < 2 ^ n → ones_to n (bit v) ≡ ones v
unfolding ones_to ones
ones_word zero v h = let none : v ≡ 0 = omega arith in rw none refl
ones_word (suc n) v h =
    let lowest : v / 2 ^ 0 % 2 ≡ v % 2 = omega arith in
    let rest : (λ k. bit v (suc k)) ≡ bit (v / 2) = fun_ext (λ k. ap (bit v) (sym (one-add k)) ∙ sym (bit_shr v 1 k)) in
    ones_first n (bit v)
    ∙ ap₂ ◌+◌ (bit_one v 0 ∙ lowest) (ap (ones_to n) rest ∙ ones_word n (v / 2) (shr_lt n 1 (rw add-one h)))
    ∙ sym (ones_step v)

-- one word more, of words from a place on, which are a row of width 1
pub word_more : (rows : List ℕ) (from j : ℕ) → get_or rows (from + j) 0 < 2 ^ 64
    → ones_to (64 * (j + 1)) (bit_in 1 rows from) ≡ ones_to (64 * j) (bit_in 1 rows from) + ones (get_or rows (from + j) 0)
unfolding bit_in
word_more rows from j fits =
    let n : 64 * (j + 1) ≡ 64 * j + 64 = omega arith in
    rw n
    (ones_plus (64 * j) 64 (bit_in 1 rows from)
    ∙ ap (λ (i : ℕ). ones_to (64 * j) (bit_in 1 rows from) + i) (ones_same 64 _ (bit (get_or rows (from + j) 0)) word ∙ ones_word 64 _ fits))
  where
    word : (k : ℕ) → k < 64 → bit_in 1 rows from (64 * j + k) ≡ bit (get_or rows (from + j) 0) k
    word k h =
        let place : from * 1 + (64 * j + k) / 64 ≡ from + j = omega arith in
        let here : (64 * j + k) % 64 ≡ k = omega arith in
        rw (place, here)

-- counted from place 0, the i-th word is the i-th
from_first : (words : List ℕ) (i : ℕ) → get_or words (0 + i) 0 ≡ get_or words i 0
from_first words i = ap (λ (k : ℕ). get_or words k 0) (omega arith)

-- one word more, of words from the first on
pub word_next : (words : List ℕ) (j : ℕ) → get_or words j 0 < 2 ^ 64
    → ones_to (64 * (j + 1)) (bit_in 1 words 0) ≡ ones_to (64 * j) (bit_in 1 words 0) + ones (get_or words j 0)
word_next words j fits =
    word_more words 0 j (rw (from_first words j) fits) ∙ ap (λ (w : ℕ). ones_to (64 * j) (bit_in 1 words 0) + ones w) (from_first words j)

-- words that are cut in two
ones_append : (words first rest : List ℕ) → words ≡ first ++ rest → ones_in words ≡ ones_in first + ones_in rest
unfolding bit_in
ones_append words first rest e =
    let n : 64 * length (first ++ rest) ≡ 64 * length first + 64 * length rest = omega (arith, length-append first rest) in
    rw (e, n)
    (ones_plus (64 * length first) (64 * length rest) (bit_in 1 (first ++ rest) 0)
    ∙ ap₂ ◌+◌ (ones_same (64 * length first) _ (bit_in 1 first 0) low) (ones_same (64 * length rest) _ (bit_in 1 rest 0) high))
  where
    low : (k : ℕ) → k < 64 * length first → bit_in 1 (first ++ rest) 0 k ≡ bit_in 1 first 0 k
    low k h = ap (λ (word : ℕ). bit word (k % 64)) (get_or_append_left first rest 0 (0 * 1 + k / 64) (omega arith))

    high : (k : ℕ) → k < 64 * length rest → bit_in 1 (first ++ rest) 0 (64 * length first + k) ≡ bit_in 1 rest 0 k
    high k h =
        let place : 0 * 1 + (64 * length first + k) / 64 ≡ length first + (0 * 1 + k / 64) = omega arith in
        let here : (64 * length first + k) % 64 ≡ k % 64 = omega arith in
        rw (place, here) (ap (λ (word : ℕ). bit word (k % 64)) (get_or-append-add first rest (0 * 1 + k / 64) 0))

pub ones_cut : (n : ℕ) (words first rest : List ℕ) → first ≡ take n words → rest ≡ drop n words → ones_in words ≡ ones_in first + ones_in rest
ones_cut n words first rest e d = ones_append words first rest (rw (e, d) (sym (take-append-drop n words)))

-- a row by itself
pub ones_row : (w : ℕ) (rows : List ℕ) (r k : ℕ) → r * w + w ≤ length rows → k ≡ w
    → ones_in (take k (drop (r * w) rows)) ≡ ones_to (64 * w) (bit_in w rows r)
unfolding bit_in
ones_row w rows r k room e =
    let long : length (take k (drop (r * w) rows)) ≡ w = omega (arith, length-take k (drop (r * w) rows), length-drop (r * w) rows) in
    rw long (ones_same (64 * w) (bit_in 1 (take k (drop (r * w) rows)) 0) (bit_in w rows r) same)
  where
    same : (s : ℕ) → s < 64 * w → bit_in 1 (take k (drop (r * w) rows)) 0 s ≡ bit_in w rows r s
    same s h =
        let place : r * w + (0 * 1 + s / 64) ≡ r * w + s / 64 = omega arith in
        ap (λ (word : ℕ). bit word (s % 64))
        (get_or-take k (drop (r * w) rows) (0 * 1 + s / 64) 0 (omega arith)
        ∙ get_or-drop (r * w) rows (0 * 1 + s / 64) 0
        ∙ ap (λ (i : ℕ). get_or rows i 0) place)

-- words from a place on, of which each is 0
pub words_none : (rows : List ℕ) (from n : ℕ) → ((i : ℕ) → i < n → get_or rows (from + i) 0 ≡ 0) → ones_to (64 * n) (bit_in 1 rows from) ≡ 0
unfolding bit_in
words_none rows from n none = ones_none (64 * n) (bit_in 1 rows from) off
  where
    off : (k : ℕ) → k < 64 * n → bit_in 1 rows from k ≡ false
    off k h =
        let place : from * 1 + k / 64 ≡ from + k / 64 = omega arith in
        rw (place, none (k / 64) (omega arith)) (bit_zero (k % 64))

-- one word more of which each bit is 0, where the first i are 0 if a number is
pub none_more : (rows : List ℕ) (from i sum : ℕ) → (sum ≡ 0 → (k : ℕ) → k < i → get_or rows (from + k) 0 ≡ 0)
    → bit_or sum (get_or rows (from + i) 0) ≡ 0 → (k : ℕ) → k < i + 1 → get_or rows (from + k) 0 ≡ 0
none_more rows from i sum before e k h = go (ℕ_discrete k i)
  where
    go : Dec (k ≡ i) → get_or rows (from + k) 0 ≡ 0
    go (yes last) = rw last (omega (arith, or_add_and sum (get_or rows (from + i) 0), and_le_l sum (get_or rows (from + i) 0)))
    go (no other) = before (omega (arith, or_add_and sum (get_or rows (from + i) 0), and_le_r sum (get_or rows (from + i) 0))) k (omega arith)

-- both of words from the first on
pub each_none : (words : List ℕ) → ((i : ℕ) → i < length words → get_or words i 0 ≡ 0) → ones_in words ≡ 0
each_none words none = words_none words 0 (length words) (λ i h. from_first words i ∙ none i h)

pub none_next : (words : List ℕ) (i sum : ℕ) → (sum ≡ 0 → (k : ℕ) → k < i → get_or words k 0 ≡ 0)
    → bit_or sum (get_or words i 0) ≡ 0 → (k : ℕ) → k < i + 1 → get_or words k 0 ≡ 0
none_next words i sum before e k h =
    let said = ap (bit_or sum) (from_first words i) ∙ e in
    sym (from_first words k) ∙ none_more words 0 i sum (λ z j m. from_first words j ∙ before z j m) said k h

-- ---- after a change

-- b and c differ at s alone
ones_changed : (n s : ℕ) (b c : Bits) → s < n → ((k : ℕ) → k < n → (k ≡ s → ⊥) → c k ≡ b k) → ones_to n c + cond (b s) 1 0 ≡ ones_to n b + cond (c s) 1 0
unfolding ones_to
ones_changed zero s b c h e = absurd (omega arith)
ones_changed (suc n) s b c h e = go (λ less. ones_changed n s b c less (λ k l. e k (omega arith))) (ℕ_discrete s n)
  where
    go : (s < n → ones_to n c + cond (b s) 1 0 ≡ ones_to n b + cond (c s) 1 0) → Dec (s ≡ n)
        → ones_to (suc n) c + cond (b s) 1 0 ≡ ones_to (suc n) b + cond (c s) 1 0
    go rest (yes last) = let below = ones_same n c b (λ k l. e k (omega arith) (λ (i : k ≡ s). omega arith)) in rw (last, below) (omega arith)
    go rest (no other) = rw (e n (omega arith) (λ (i : n ≡ s). other (sym i))) (omega (arith, rest (omega arith)))

added_one : (t : Bool) (m n : ℕ) → m + cond t 1 0 ≡ n + cond (t ⊕ true) 1 0 → m + 2 * cond t 1 0 ≡ n + 1
unfolding ◌⊕◌
added_one true m n e = omega arith
added_one false m n e = omega arith

-- c is b with 1 added at s: one less where b has it, else one more
pub ones_flipped : (n s : ℕ) (b c : Bits) → s < n → ((k : ℕ) → k < n → c k ≡ b k ⊕ eqb s k) → ones_to n c + 2 * cond (b s) 1 0 ≡ ones_to n b + 1
ones_flipped n s b c h e =
    let here : c s ≡ b s ⊕ true = e s h ∙ rw (eq-eqb s s refl) in
    let changed = ones_changed n s b c h (λ k l ne. e k l ∙ rw (ne_eqb s k (λ (i : s ≡ k). ne (sym i))) (⊕_false (b k))) in
    added_one (b s) _ _ (rw here at changed)
