-- A run of words that is lent as a slice of its own: what the whole is when the slice is back. Assumes nothing.
use Rattle.std.specs.Prelude.{◌≡◌, List, ◌++◌, ℕ, ◌+◌, ◌-◌, ◌<◌, ◌≤◌, length, get_or, take, drop}
use Rattle.std.proofs.Common.{sym, ap, ◌∙◌, arith, length-append, length-take, length-drop}
use Rattle.std.proofs.Math.Decide.{dec_lt}
use Rattle.std.proofs.lemmas.Grind.{same_number_lists}
use Rattle.std.proofs.lemmas.List.{get_or_append_left, get_or-append_right, get_or-take, get_or-drop, get_or-replicate}
use Rattle.std.proofs.Math.ListN.{replicate, length-replicate}
use borrow.Rule.Slice.PartMut.{put_mid, mid_of, post_of}
use Rattle.rows.specs.Overwrite.{overwrite, cleared, copied}
use Rattle.rows.proofs.Laws.Overwrite.{length_overwrite, overwrite_out, overwrite_in}

module _ (at n k : ℕ) (f : ℕ → ℕ) (l ys : List ℕ) (e : k ≡ n) (room : at + n ≤ length l) (all : length ys ≡ n) where
  before : length (take at l) ≡ at
  before = omega (arith, length-take at l)

  same_length : length (put_mid at k l ys) ≡ length (overwrite at n f l)
  same_length = rw (length_overwrite at f l n) (omega (arith, length-append (take at l) (ys ++ post_of at k l), length-append ys (post_of at k l), length-drop k (drop at l), length-drop at l, before))

  module _ (same : (j : ℕ) → j < n → get_or ys j 0 ≡ f j) where
    in_run : (i j : ℕ) → i ≡ at + j → j < n → get_or (put_mid at k l ys) i 0 ≡ get_or (overwrite at n f l) i 0
    in_run i j is h =
        let left : i - at ≡ j = omega arith in
        get_or-append_right (take at l) (ys ++ post_of at k l) at i 0 before (omega arith)
        ∙ ap (λ (m : ℕ). get_or (ys ++ post_of at k l) m 0) left
        ∙ get_or_append_left ys (post_of at k l) 0 j (omega arith)
        ∙ same j h ∙ sym (overwrite_in at f l n j h room) ∙ ap (λ (m : ℕ). get_or (overwrite at n f l) m 0) (sym is)

    past_run : (i : ℕ) → at + n ≤ i → get_or (put_mid at k l ys) i 0 ≡ get_or (overwrite at n f l) i 0
    past_run i h =
        let place : at + (k + (i - at - n)) ≡ i = omega arith in
        get_or-append_right (take at l) (ys ++ post_of at k l) at i 0 before (omega arith)
        ∙ get_or-append_right ys (post_of at k l) n (i - at) 0 all (omega arith)
        ∙ get_or-drop k (drop at l) (i - at - n) 0 ∙ get_or-drop at l (k + (i - at - n)) 0
        ∙ ap (λ (m : ℕ). get_or l m 0) place ∙ sym (overwrite_out at f l n i (λ a b. omega arith))

    pub put_run : put_mid at k l ys ≡ overwrite at n f l
    put_run = same_number_lists _ _ same_length (λ i h. by_place i (dec_lt i at) (dec_lt i (at + n)))
      where
        by_place : (i : ℕ) → Dec (i < at) → Dec (i < at + n) → get_or (put_mid at k l ys) i 0 ≡ get_or (overwrite at n f l) i 0
        by_place i (yes h) _ =
            get_or_append_left (take at l) (ys ++ post_of at k l) 0 i (omega (arith, before))
            ∙ get_or-take at l i 0 h ∙ sym (overwrite_out at f l n i (λ a b. omega arith))
        by_place i (no h) (yes q) = in_run i (i - at) (omega arith) (omega arith)
        by_place i (no h) (no q) = past_run i (omega arith)

pub put_cleared : (at n k : ℕ) (l ys : List ℕ) → k ≡ n → at + n ≤ length l → length ys ≡ n → ((j : ℕ) → j < n → get_or ys j 0 ≡ 0) → put_mid at k l ys ≡ cleared at n l
unfolding cleared
put_cleared at n k l ys e room all zero = put_run at n k _ l ys e room all zero
