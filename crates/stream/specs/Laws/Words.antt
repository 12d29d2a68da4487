-- The words of the stream by their places, and a turn of the loop that writes them. Assumes nothing.
use Rattle.std.specs.Prelude.{◌≡◌, refl, List, [], ◌∷◌, ◌++◌, ℕ, zero, suc, ◌+◌, ◌-◌, ◌*◌, ◌/◌, ◌%◌, ◌^◌, ◌<◌, ◌≤◌, length, take, drop, set, get_or}
use Rattle.std.proofs.Common.{sym, ap, ◌∙◌, append_assoc, append-nil, arith, zero-add, suc-add, eq-eqb, ne_eqb, add-one, length-set, length-append, length-drop, take_at, take-suc-set, take_all, length-take-le}
use Rattle.std.proofs.Math.Nat.{sub-zero}
use Rattle.std.specs.Int.Bits.{bit_xor}
use Rattle.std.proofs.lemmas.Nat.{xor_lt, shr_le}
use Rattle.job.specs.Job.{answer}
use Rattle.stream.specs.Stream.{left, right, step, stepped, words_from, fill_reply}

pub stepped_before : (n state : ℕ) → stepped n (step state) ≡ step (stepped n state)
unfolding stepped
stepped_before zero state = refl
stepped_before (suc n) state = ap step (stepped_before n state)

pub stepped_add : (m n state : ℕ) → stepped (m + n) state ≡ stepped m (stepped n state)
unfolding stepped
stepped_add zero n state = rw zero-add
stepped_add (suc m) n state = rw suc-add (ap step (stepped_add m n state))

-- a state of 64 bits stays one
pub step_below : {state : ℕ} → state < 2 ^ 64 → step state < 2 ^ 64
unfolding step left right
step_below h = lefts 17 (rights 7 (lefts 13 h))
  where
    lefts : {s : ℕ} (k : ℕ) → s < 2 ^ 64 → bit_xor s (s * 2 ^ k % 2 ^ 64) < 2 ^ 64
    lefts k g = xor_lt 64 _ _ g (omega arith)

    rights : {s : ℕ} (k : ℕ) → s < 2 ^ 64 → bit_xor s (s / 2 ^ k) < 2 ^ 64
    rights {s = s} k g = xor_lt 64 _ _ g (omega (arith, shr_le s k))

pub stepped_below : (n : ℕ) {state : ℕ} → state < 2 ^ 64 → stepped n state < 2 ^ 64
unfolding stepped
stepped_below zero h = h
stepped_below (suc n) h = step_below (stepped_below n h)

pub words_stepped : (n state i : ℕ) → i < n → get_or (words_from n state) i 0 ≡ stepped (suc i) state
unfolding words_from stepped
words_stepped zero state i h = absurd (omega arith)
words_stepped (suc n) state zero h = refl
words_stepped (suc n) state (suc i) h = words_stepped n (step state) i (omega arith) ∙ ap step (stepped_before i state)

pub words_length : (n state : ℕ) → length (words_from n state) ≡ n
unfolding words_from
words_length zero state = refl
words_length (suc n) state = ap suc (words_length n (step state))

words_add : (m n state : ℕ) → words_from (m + n) state ≡ words_from m state ++ words_from n (stepped m state)
unfolding words_from stepped
words_add zero n state = rw zero-add
words_add (suc m) n state = rw (suc-add, ← (stepped_before m state)) (ap (λ (l : List ℕ). step state ∷ l) (words_add m n (step state)))

-- ---- the words written so far, and those that are left to write, make the whole

pub record Filling (n seed : ℕ) (words : List ℕ) (state i : ℕ) : Type 0 where
  pub whole : take i words ++ words_from (n - i) state ≡ words_from n seed
  pub same : length words ≡ n
  pub within : i ≤ n

pub fill_begun : (seed : ℕ) (words : List ℕ) → Filling (length words) seed words seed 0
fill_begun seed words = record { whole = rw sub-zero; same = refl; within = omega arith }

pub fill_turn : {n seed : ℕ} {words : List ℕ} {state i : ℕ} (word : ℕ) → Filling n seed words state i → i < length words → word ≡ step state
    → Filling n seed (set words i word) word (i + 1)
unfolding words_from
fill_turn {n = n} {seed = seed} {words = words} {state = state} {i = i} word f h e =
    let left : n - i ≡ suc (n - (i + 1)) = omega (arith, f.same) in
    let more : take i words ++ words_from (suc (n - (i + 1))) state ≡ words_from n seed = rw left at f.whole in
    record {
      whole = rw (e, add-one i, take-suc-set words i (step state) h, append_assoc, ← add-one i) more;
      same = length-set words i word ∙ f.same;
      within = omega (arith, f.same);
    }

-- where the list's own length is named
pub fill_length : {n seed : ℕ} {words : List ℕ} {state i : ℕ} → Filling n seed words state i → Filling (length words) seed words state i
fill_length f = record { whole = rw f.same f.whole; same = refl; within = omega (arith, f.same, f.within) }

-- m words at once, over a part of the list
module _ {n seed : ℕ} {words : List ℕ} {state i : ℕ} (m : ℕ) (f : Filling n seed words state i) (h : i + m ≤ n) where
  part_size : i + m - i ≡ m
  part_size = omega arith

  pub fill_room : length (take (i + m - i) (drop i words)) ≡ m
  fill_room = rw part_size (length-take-le m (drop i words) (omega (arith, length-drop i words, f.same)))

  pub fill_part : {part : List ℕ} {next : ℕ} → part ≡ words_from m state → next ≡ stepped m state
      → Filling n seed (take i words ++ (part ++ drop (i + m - i) (drop i words))) next (i + m)
  fill_part {part = part} e g =
      let left : n - i ≡ m + (n - (i + m)) = omega arith in
      let more = rw (left, words_add m (n - (i + m)) state) at f.whole in
      let size : length part ≡ m = ap length e ∙ words_length m state in
      let front : length (take i words) ≡ i = length-take-le i words (omega (arith, f.same)) in
      let upto : length (take i words ++ part) ≡ i + m = length-append (take i words) part ∙ omega (arith, front, size) in
      let behind = drop m (drop i words) in
      let regroup = append_assoc (take i words) part behind in
      let long = length-append (take i words ++ part) behind in
      rw (part_size, ← regroup)
      record {
        whole = rw (take_at (take i words ++ part) behind (i + m) upto, append_assoc, e, g) more;
        same = omega (arith, long, upto, length-drop m (drop i words), length-drop i words, f.same);
        within = h;
      }

pub fill_ended : {n seed : ℕ} {words : List ℕ} {state i : ℕ} → Filling n seed words state i → length words ≤ i → words ≡ words_from n seed
unfolding words_from
fill_ended {n = n} {seed = seed} {words = words} {i = i} f h =
    let none : n - i ≡ 0 = omega (arith, f.same) in
    let all : take i words ++ [] ≡ words_from n seed = rw none at f.whole in
    sym (append-nil words) ∙ ap (λ (w : List ℕ). w ++ []) (sym (take_all i words (omega (arith, f.same)))) ∙ all

-- ---- the replies

pub fill_refused : (seed : ℕ) (words : List ℕ) → seed ≡ 0 → fill_reply seed words ≡ record { answered = answer 22 0; words = words }
unfolding fill_reply
fill_refused seed words e = rw (eq-eqb seed 0 e)

pub fill_done : (seed : ℕ) (words filled : List ℕ) → (seed ≡ 0 → ⊥) → filled ≡ words_from (length words) seed
    → fill_reply seed words ≡ record { answered = answer 0 0; words = filled }
unfolding fill_reply
fill_done seed words filled n e = rw (ne_eqb seed 0 n, e)
