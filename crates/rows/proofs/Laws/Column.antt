-- What each operation on words does in a single shot. Assumes nothing.
use Rattle.std.specs.Prelude.{◌≡◌, Bool, true, false, not, cond, ◌&&◌, eqb, length, get_or}
use Rattle.std.proofs.Math.Path.{refl, sym, ap, fun_ext}
use Rattle.std.proofs.Common.{◌∙◌, arith, not-suc-le-zero, add-suc, suc-add, mul-le-mul_right, div-add-mod', mod-lt, ext_get_or}
use mathlib.Core.List.{List, [], ◌∷◌}
use Prim.Native.Nat.{ℕ, zero, suc, ◌+◌, ◌*◌, ◌/◌, ◌%◌, ◌^◌, ◌<◌, ◌≤◌}
use Rattle.std.proofs.Math.Nat.{add-zero}
use Rattle.std.proofs.Math.Decide.{ℕ_discrete}
use Rattle.std.proofs.Math.ListN.{get_or-eq_default}
use Rattle.std.proofs.Math.Seq.{get_or-set_same, get_or-set_other}
use borrow.Author.Tests.{eqb-true, eqb-false, eq-eqb, ne_eqb}
use Rattle.pauli.specs.Bits.{Bits, given, replaced, added, outside, ◌⊕◌, ◌∩◌, ◌△◌, sum_over, bit}
use Rattle.pauli.specs.Gate.{exchanged}
use Rattle.pauli.proofs.Laws.F2.{⊕_false, false_⊕, ⊕_assoc, &&_true, &&_false}
use Rattle.pauli.proofs.Laws.Parity.{bitwise, at_or_off, added_is}
use Rattle.pauli.proofs.Laws.Word.{bit_zero, bit_xor_lem, bit_pow, same_bits}
use Rattle.pauli.proofs.Laws.Sums.{odd_members}
use Rattle.rows.specs.Words.{bit_in}
use Rattle.rows.specs.Overwrite.{overwrite, cleared, copied, xored, swapped, flipped}
use Rattle.rows.specs.Listed.{RowsIn, over_list, collected}
use Rattle.rows.specs.Column.{column}
use Rattle.rows.proofs.Laws.Overwrite.{overwrite_in, overwrite_out, length_overwrite, length_cleared, length_copied, length_xored, length_flipped, rows_apart, apart_out, before_row}
use Rattle.rows.proofs.Laws.Listed.{rows_tail, rows_kept}

-- what a choice by a test is equal to, by cases of the test
by_eqb : (r d : ℕ) (v x y : Bool) → (r ≡ d → v ≡ x) → ((r ≡ d → ⊥) → v ≡ y) → v ≡ cond (eqb r d) x y
by_eqb r d v x y same other = go (eqb r d) refl
  where
    go : (b : Bool) → eqb r d ≡ b → v ≡ cond b x y
    go true e = same (eqb-true r d e)
    go false e = other (eqb-false r d e)

replaced_sum : (s : Bits) (q : ℕ) (b : Bool) → replaced s q (s q ⊕ b) ≡ added s q b
unfolding replaced added
replaced_sum s q b = fun_ext (at_or_off (λ i e. cond e (s q ⊕ b) (s i) ≡ cond e (s i ⊕ b) (s i)) q refl (λ i. refl))

added_none : (s : Bits) (r : ℕ) → added s r false ≡ s
unfolding added
added_none s r = fun_ext (at_or_off (λ i e. cond e (s i ⊕ false) (s i) ≡ s i) r (⊕_false (s r)) (λ i. refl))

pub added_twice : (s : Bits) (r : ℕ) (b c : Bool) → added (added s r b) r c ≡ added s r (b ⊕ c)
unfolding added
added_twice s r b c =
    fun_ext (at_or_off (λ i e. cond e (cond e (s i ⊕ b) (s i) ⊕ c) (cond e (s i ⊕ b) (s i)) ≡ cond e (s i ⊕ (b ⊕ c)) (s i)) r (⊕_assoc (s r) b c) (λ i. refl))

pub added_replaced : (s : Bits) (q : ℕ) (a b : Bool) → added (replaced s q a) q b ≡ replaced s q (a ⊕ b)
unfolding replaced added
added_replaced s q a b = fun_ext (at_or_off (λ i e. cond e (cond e a (s i) ⊕ b) (cond e a (s i)) ≡ cond e (a ⊕ b) (s i)) q refl (λ i. refl))

pub replaced_here : (s : Bits) (q : ℕ) (b : Bool) → replaced s q b q ≡ b
unfolding replaced
replaced_here s q b = rw (eq-eqb q q refl)

pub replaced_off : (s : Bits) (q : ℕ) (b : Bool) (i : ℕ) → (i ≡ q → ⊥) → replaced s q b i ≡ s i
unfolding replaced
replaced_off s q b i ne = rw (ne_eqb i q ne)

-- of r rows and one for each listed number, the first after the r, and those after that
first_row : (w r : ℕ) (qs l : List ℕ) → (r + suc (length qs)) * w ≤ length l → r * w + w ≤ length l
first_row w r qs l fits = omega (arith, before_row w r (r + suc (length qs)) (omega arith))

rows_next : (w r : ℕ) (qs l : List ℕ) → (r + suc (length qs)) * w ≤ length l → (suc r + length qs) * w ≤ length l
rows_next w r qs l fits = omega arith

-- a row that does not exist reads as 0
pub column_past : (w : ℕ) (words : List ℕ) (s r n : ℕ) → length words ≡ n * w → n ≤ r → column w words s r ≡ false
unfolding column bit_in
column_past w words s r n e h =
    let past : n * w ≤ r * w = mul-le-mul_right w h in
    rw (get_or-eq_default words 0 {n = r * w + s / 64} (omega arith)) (bit_zero (s % 64))

-- ---- a row that is written

module _ (w s : ℕ) (h : s / 64 < w) where
  pub column_overwrite : (d : ℕ) (f : ℕ → ℕ) (l : List ℕ) → d * w + w ≤ length l
      → column w (overwrite (d * w) w f l) s ≡ replaced (column w l s) d (bit (f (s / 64)) (s % 64))
  unfolding column bit_in replaced
  column_overwrite d f l fits =
      fun_ext
      (λ r. by_eqb r d _ _ _
      (λ e. rw (e, overwrite_in (d * w) f l w (s / 64) h fits))
      (λ ne. rw (overwrite_out (d * w) f l w (r * w + s / 64) (apart_out w (d * w) (r * w) (r * w + s / 64) (rows_apart w d r (λ e. ne (sym e))) (omega arith) (omega arith)))))

  pub column_cleared : (d : ℕ) (l : List ℕ) → d * w + w ≤ length l → column w (cleared (d * w) w l) s ≡ replaced (column w l s) d false
  unfolding cleared
  column_cleared d l fits = column_overwrite d _ l fits ∙ ap (replaced (column w l s) d) (bit_zero (s % 64))

  -- row e of src is put for row d
  pub column_copied : (d e : ℕ) (src l : List ℕ) → d * w + w ≤ length l
      → column w (copied (d * w) (e * w) w src l) s ≡ replaced (column w l s) d (column w src s e)
  unfolding copied column bit_in
  column_copied d e src l fits = column_overwrite d _ l fits

  -- row e of src is added to row d
  pub column_xored : (d e : ℕ) (src l : List ℕ) → d * w + w ≤ length l
      → column w (xored (d * w) (e * w) w src l) s ≡ added (column w l s) d (column w src s e)
  unfolding xored column bit_in
  column_xored d e src l fits =
      column_overwrite d _ l fits ∙ ap (replaced (column w l s) d) (bit_xor_lem _ _ (s % 64)) ∙ replaced_sum (column w l s) d (column w src s e)

  pub column_swapped : (a b : ℕ) (l : List ℕ) → a * w + w ≤ length l → b * w + w ≤ length l
      → column w (swapped (a * w) (b * w) w l) s ≡ exchanged a b (column w l s)
  unfolding swapped exchanged column bit_in
  column_swapped a b l fits₁ fits₂ =
      column_overwrite b _ _ (rw length_overwrite fits₂)
      ∙ ap (λ (t : Bits). replaced t b (column w l s a)) (column_overwrite a _ l fits₁)

-- ---- one bit: 1 is added to row r in shot s, and in no other

same_bit : (s t : ℕ) → t / 64 ≡ s / 64 → eqb (s % 64) (t % 64) ≡ eqb s t
same_bit s t e = by_cases (ℕ_discrete s t)
  where
    by_cases : Dec (s ≡ t) → eqb (s % 64) (t % 64) ≡ eqb s t
    by_cases (yes p) = eq-eqb _ _ (ap (λ k. k % 64) p) ∙ sym (eq-eqb s t p)
    by_cases (no p) = ne_eqb _ _ (λ (q : s % 64 ≡ t % 64). p (omega arith)) ∙ sym (ne_eqb s t p)

module _ (w r s t : ℕ) (l : List ℕ) (hs : s / 64 < w) (ht : t / 64 < w) (fits : r * w + w ≤ length l) where
  other_place : (k : ℕ) → (k ≡ r * w + s / 64 → ⊥) → get_or (flipped w s r l) k 0 ≡ get_or l k 0
  unfolding flipped
  other_place k ne = get_or-set_other l (r * w + s / 64) k _ 0 ne

  same_row : Dec (t / 64 ≡ s / 64) → column w (flipped w s r l) t r ≡ column w l t r ⊕ eqb s t
  unfolding flipped column bit_in
  same_row (yes e) =
      rw (e, get_or-set_same l (r * w + s / 64) _ 0 (omega arith), bit_xor_lem, bit_pow) (ap (λ b. bit (get_or l (r * w + s / 64) 0) (t % 64) ⊕ b) (same_bit s t e))
  same_row (no ne) = rw (other_place (r * w + t / 64) (λ e. ne (omega arith)), ne_eqb s t (λ (e : s ≡ t). ne (ap (λ k. k / 64) (sym e))), ⊕_false)

  other_row : (q : ℕ) → (q ≡ r → ⊥) → column w (flipped w s r l) t q ≡ column w l t q
  unfolding column bit_in
  other_row q ne =
      rw (other_place (q * w + t / 64) (λ e. apart_out w (r * w) (q * w) (q * w + t / 64) (rows_apart w r q (λ e. ne (sym e))) (omega arith) (omega arith) (omega arith) (omega arith)))

  pub column_flipped : column w (flipped w s r l) t ≡ added (column w l t) r (eqb s t)
  unfolding added
  column_flipped = fun_ext (λ q. by_eqb q r _ _ _ (λ e. rw e (same_row (ℕ_discrete (t / 64) (s / 64)))) (other_row q))

-- ---- listed rows, one after the other

-- a set after a step for each listed number, in order
unfoldable over_bits : (ℕ → Bits → Bits) → List ℕ → Bits → Bits
over_bits g [] c = c
over_bits g (q ∷ qs) c = over_bits g qs (g q c)

module _ (w s : ℕ) (step : ℕ → List ℕ → List ℕ) (g : ℕ → Bits → Bits)
    (same : (q : ℕ) (l : List ℕ) → length (step q l) ≡ length l)
    (one : (q : ℕ) (l : List ℕ) → q * w + w ≤ length l → column w (step q l) s ≡ g q (column w l s))
  where
    column_over : (qs l : List ℕ) → RowsIn w qs l → column w (over_list step qs l) s ≡ over_bits g qs (column w l s)
    unfolding over_list over_bits
    column_over [] l r = refl
    column_over (q ∷ qs) l r =
        column_over qs (step q l) (rows_kept w qs l (step q l) (same q l) (rows_tail w q qs l r)) ∙ ap (over_bits g qs) (one q l (r.fits 0 (omega arith)))

added_over : (b : Bool) (qs : List ℕ) (c : Bits) → over_bits (λ q t. added t q b) qs c ≡ c △ given b (odd_members qs)
unfolding over_bits odd_members
added_over b [] c = fun_ext (λ i. simp bitwise)
added_over b (q ∷ qs) c = added_over b qs (added c q b) ∙ rw (added_is c q b) (fun_ext (λ i. simp bitwise))

cleared_over : (qs : List ℕ) (c : Bits) → over_bits (λ q t. replaced t q false) qs c ≡ c ∩ outside qs
unfolding over_bits outside replaced ◌∩◌
cleared_over [] c = fun_ext (λ i. sym (&&_true (c i)))
cleared_over (q ∷ qs) c =
    cleared_over qs (replaced c q false)
    ∙ fun_ext (at_or_off (λ i e. cond e false (c i) && outside qs i ≡ c i && (not e && outside qs i)) q (sym (&&_false (c q))) (λ i. refl))

module _ (w s : ℕ) (h : s / 64 < w) where
  -- row r of a matrix, a mask, is added to the listed rows of another
  pub column_add_mask : (r : ℕ) (masks qs l : List ℕ) → RowsIn w qs l
      → column w (over_list (λ q. xored (q * w) (r * w) w masks) qs l) s ≡ column w l s △ given (column w masks s r) (odd_members qs)
  column_add_mask r masks qs l rows =
      column_over w s _ (λ q t. added t q (column w masks s r)) (λ q l. length_xored (q * w) (r * w) w masks l) (λ q l fits. column_xored w s h q r masks l fits) qs l rows
      ∙ added_over (column w masks s r) qs (column w l s)

  pub column_flip : (t : ℕ) → t / 64 < w → (qs l : List ℕ) → RowsIn w qs l
      → column w (over_list (flipped w t) qs l) s ≡ column w l s △ given (eqb t s) (odd_members qs)
  column_flip t k qs l r =
      column_over w s (flipped w t) (λ q c. added c q (eqb t s)) (length_flipped w t) (λ q l fits. column_flipped w q t s l k h fits) qs l r
      ∙ added_over (eqb t s) qs (column w l s)

  pub column_clear : (qs l : List ℕ) → RowsIn w qs l → column w (over_list (λ q. cleared (q * w) w) qs l) s ≡ column w l s ∩ outside qs
  column_clear qs l r =
      column_over w s _ (λ q c. replaced c q false) (λ q l. length_cleared (q * w) w l) (λ q l fits. column_cleared w s h q l fits) qs l r
      ∙ cleared_over qs (column w l s)

  -- row r, to which the listed rows of another matrix are added
  pub column_add_listed : (r : ℕ) (rows qs l : List ℕ) → r * w + w ≤ length l
      → column w (over_list (λ q. xored (r * w) (q * w) w rows) qs l) s ≡ added (column w l s) r (sum_over qs (column w rows s))
  unfolding over_list sum_over
  column_add_listed r rows [] l fits = sym (added_none (column w l s) r)
  column_add_listed r rows (q ∷ qs) l fits =
      column_add_listed r rows qs (xored (r * w) (q * w) w rows l) (rw length_xored fits)
      ∙ ap (λ (t : Bits). added t r (sum_over qs (column w rows s))) (column_xored w s h r q rows l fits)
      ∙ added_twice (column w l s) r (column w rows s q) (sum_over qs (column w rows s))

  -- row r, for which the sum of the listed rows is put
  pub column_sum_listed : (r : ℕ) (rows qs l : List ℕ) → r * w + w ≤ length l
      → column w (over_list (λ q. xored (r * w) (q * w) w rows) qs (cleared (r * w) w l)) s ≡ replaced (column w l s) r (sum_over qs (column w rows s))
  column_sum_listed r rows qs l fits =
      column_add_listed r rows qs (cleared (r * w) w l) (rw length_cleared fits)
      ∙ ap (λ (t : Bits). added t r (sum_over qs (column w rows s))) (column_cleared w s h r l fits)
      ∙ added_replaced (column w l s) r false (sum_over qs (column w rows s))
      ∙ ap (replaced (column w l s) r) (false_⊕ (sum_over qs (column w rows s)))

  -- ---- saved rows

  -- the rows before them are as they were
  pub collected_before : (rows : List ℕ) (r : ℕ) (qs l : List ℕ) → (r + length qs) * w ≤ length l → (d : ℕ) → d < r
      → column w (collected w rows r qs l) s d ≡ column w l s d
  unfolding collected
  collected_before rows r [] l fits d k = refl
  collected_before rows r (q ∷ qs) l fits d k =
      collected_before rows (suc r) qs (copied (r * w) (q * w) w rows l) (rw length_copied (rows_next w r qs l fits)) d (omega arith)
      ∙ rw (column_copied w s h r q rows l (first_row w r qs l fits)) (replaced_off (column w l s) r (column w rows s q) d (λ (e : d ≡ r). omega arith))

  -- saved row i is the listed row i
  pub column_collected : (rows : List ℕ) (r : ℕ) (qs l : List ℕ) → (r + length qs) * w ≤ length l → (i : ℕ) → i < length qs
      → column w (collected w rows r qs l) s (r + i) ≡ column w rows s (get_or qs i 0)
  unfolding collected
  column_collected rows r [] l fits i k = absurd (not-suc-le-zero k)
  column_collected rows r (q ∷ qs) l fits zero k =
      rw add-zero
      (collected_before rows (suc r) qs (copied (r * w) (q * w) w rows l) (rw length_copied (rows_next w r qs l fits)) r (omega arith)
      ∙ rw (column_copied w s h r q rows l (first_row w r qs l fits)) (replaced_here (column w l s) r (column w rows s q)))
  column_collected rows r (q ∷ qs) l fits (suc i) k =
      rw (add-suc, ← suc-add)
      (column_collected rows (suc r) qs (copied (r * w) (q * w) w rows l) (rw length_copied (rows_next w r qs l fits)) i (omega arith))

-- ---- the shots determine the words

bit_at : (w : ℕ) (l : List ℕ) (r j k : ℕ) → k < 64 → column w l (64 * j + k) r ≡ bit (get_or l (r * w + j) 0) k
unfolding column bit_in
bit_at w l r j k h =
    let word : (64 * j + k) / 64 ≡ j = omega arith in
    let place : (64 * j + k) % 64 ≡ k = omega arith in
    rw (word, place)

-- two lists of words that are the same in every shot are equal
pub same_words : (w : ℕ) (l m : List ℕ) → 0 < w → length l ≡ length m → ((i : ℕ) → get_or l i 0 < 2 ^ 64) → ((i : ℕ) → get_or m i 0 < 2 ^ 64)
    → ((s : ℕ) → s / 64 < w → column w l s ≡ column w m s) → l ≡ m
same_words w l m pos len fit-l fit-m same = ext_get_or 0 l m len (λ i h. same_bits 64 _ _ (fit-l i) (fit-m i) (bits i))
  where
    bits : (i k : ℕ) → k < 64 → bit (get_or l i 0) k ≡ bit (get_or m i 0) k
    bits i k hk =
        let place : i / w * w + i % w ≡ i = div-add-mod' i w in
        let below : i % w < w = mod-lt i pos in
        let here = ap (λ (c : Bits). c (i / w)) (same (64 * (i % w) + k) (omega arith)) in
        rw place at (sym (bit_at w l (i / w) (i % w) k hk) ∙ here ∙ bit_at w m (i / w) (i % w) k hk)
