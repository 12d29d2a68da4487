-- Laws of sets in words: one number changed, the numbers of a list put in, the sum of two sets. Assumes nothing.
use Rattle.std.specs.Prelude.{◌≡◌, refl, Bool, true, false, not, ◌&&◌, ◌||◌, List, [], ◌∷◌, ◌++◌, ℕ, zero, suc, ◌+◌, ◌*◌, ◌/◌, ◌%◌, ◌^◌, ◌≤◌, ◌<◌, eqb, set, take, replicate}
use Rattle.std.proofs.Common.{sym, ap, ◌∙◌, add-one, length-set, get_or-set_other, take-suc}
use Rattle.std.proofs.Math.Path.{fun_ext}
use Rattle.std.proofs.Math.Bool.{cond}
use Rattle.std.specs.Bool.{beq}
use native.Mathlib.Omega.{arith}
use Rattle.std.proofs.Math.Decide.{ℕ_discrete, dec_lt}
use borrow.Author.Tests.{eq-eqb, ne_eqb}
use Rattle.std.proofs.Math.ListN.{length, get_or, get_or-eq_default}
use Rattle.std.proofs.Math.Seq.{get_or-set_same}
use Rattle.std.proofs.lemmas.List.{set-get_or}
use Rattle.std.specs.Int.Bits.{bit_xor, bit_or, xor_zero_r}
use mir.Val.{bool_byte}
use Rattle.pauli.specs.Bits.{Bits, ◌⊕◌, ◌∩◌, ◌∪◌, ◌△◌, none, replaced, added, outside, members, bit}
use Rattle.pauli.specs.Fixed.{in_set}
use Rattle.pauli.proofs.Laws.F2.{f2}
use Rattle.pauli.proofs.Laws.Parity.{at_or_off, replaced_is, added_is}
use Rattle.pauli.proofs.Laws.Word.{bit_zero, bit_xor_lem, bit_or_lem, bit_pow, one_shl}

-- ---- one number of a set

-- words of 0 hold no number
pub in_none : (n : ℕ) → in_set (replicate n 0) ≡ none
unfolding in_set none
in_none n = fun_ext (λ i. go n (i / 64) (i % 64))
  where
    go : (n k j : ℕ) → bit (get_or (replicate n 0) k 0) j ≡ false
    go zero k j = bit_zero j
    go (suc n) zero j = bit_zero j
    go (suc n) (suc k) j = go n k j

-- the word of q, with a power of two worked into it that changes the bit of q alone
module _ (op : ℕ → ℕ → ℕ) (f : Bool → Bool → Bool) (bits : (a b k : ℕ) → bit (op a b) k ≡ f (bit a k) (bit b k)) (none-changed : (a : Bool) → f a false ≡ a)
    (s : List ℕ) (q : ℕ) (h : q / 64 < length s) where
  abbrev worked : List ℕ
  worked = set s (q / 64) (op (get_or s (q / 64) 0) (2 ^ (q % 64)))

  in_worked : (i : ℕ) → in_set worked i ≡ cond (eqb i q) (f (in_set s i) true) (in_set s i)
  unfolding in_set
  in_worked i = go (ℕ_discrete (i / 64) (q / 64)) (ℕ_discrete i q)
    where
      go : Dec (i / 64 ≡ q / 64) → Dec (i ≡ q)
          → bit (get_or worked (i / 64) 0) (i % 64) ≡ cond (eqb i q) (f (bit (get_or s (i / 64) 0) (i % 64)) true) (bit (get_or s (i / 64) 0) (i % 64))
      go (no w) (yes e) = absurd (w (ap (λ (n : ℕ). n / 64) e))
      go (no w) (no e) = rw (get_or-set_other s (q / 64) (i / 64) (op (get_or s (q / 64) 0) (2 ^ (q % 64))) 0 w, ne_eqb i q e)
      go (yes w) (yes e) =
          let d : q % 64 ≡ i % 64 = omega arith in
          rw (w, get_or-set_same s (q / 64) (op (get_or s (q / 64) 0) (2 ^ (q % 64))) 0 h, eq-eqb i q e)
          (bits (get_or s (q / 64) 0) (2 ^ (q % 64)) (i % 64) ∙ rw (bit_pow (q % 64) (i % 64), eq-eqb _ _ d))
      go (yes w) (no e) =
          let d : q % 64 ≡ i % 64 → ⊥ = λ (f : q % 64 ≡ i % 64). omega (arith, e) in
          rw (w, get_or-set_same s (q / 64) (op (get_or s (q / 64) 0) (2 ^ (q % 64))) 0 h, ne_eqb i q e)
          (bits (get_or s (q / 64) 0) (2 ^ (q % 64)) (i % 64) ∙ rw (bit_pow (q % 64) (i % 64), ne_eqb _ _ d) (none-changed _))

in_toggled : (s : List ℕ) (q : ℕ) → q / 64 < length s → in_set (set s (q / 64) (bit_xor (get_or s (q / 64) 0) (2 ^ (q % 64)))) ≡ added (in_set s) q true
unfolding added
in_toggled s q h = fun_ext (in_worked bit_xor ◌⊕◌ bit_xor_lem (λ a. simp f2) s q h)

pub in_inserted : (s : List ℕ) (q : ℕ) → q / 64 < length s → in_set (set s (q / 64) (bit_or (get_or s (q / 64) 0) (2 ^ (q % 64)))) ≡ replaced (in_set s) q true
unfolding replaced
in_inserted s q h = fun_ext (λ i. in_worked bit_or ◌||◌ bit_or_lem or_false s q h i ∙ ap (λ (b : Bool). cond (eqb i q) b (in_set s i)) (or_true (in_set s i)))
  where
    or_false : (a : Bool) → (a || false) ≡ a
    or_false true = refl
    or_false false = refl

    or_true : (a : Bool) → (a || true) ≡ true
    or_true true = refl
    or_true false = refl

-- to add false changes nothing
pub added_false : (s : Bits) (q : ℕ) → s ≡ added s q false
unfolding added
added_false s q = fun_ext (λ i. go (s i) (eqb i q))
  where
    go : (a b : Bool) → a ≡ cond b (a ⊕ false) a
    go a true = simp f2
    go a false = refl

-- b shifted to the place of q, and added to the word of q
pub bit_added : (s : List ℕ) (q : ℕ) (b : Bool) → q / 64 < length s
    → in_set (set s (q / 64) (bit_xor (get_or s (q / 64) 0) (bool_byte b * 2 ^ (q % 64) % 2 ^ 64))) ≡ added (in_set s) q b
bit_added s q true h = rw (one_shl (q % 64) (omega arith)) (in_toggled s q h)
bit_added s q false h =
    let none_there : 0 * 2 ^ (q % 64) % 2 ^ 64 ≡ 0 = omega arith in rw (none_there, xor_zero_r, set-get_or) (added_false (in_set s) q)

-- a bit is put for another by adding what they differ by
pub replaced_added : (s : Bits) (q : ℕ) (b : Bool) → replaced s q b ≡ added s q (s q ⊕ b)
replaced_added s q b = replaced_is s q b ∙ sym (added_is s q (s q ⊕ b))

-- the code's test for two bits that differ is their sum
pub differ_⊕ : (a b : Bool) → not (beq a b) ≡ a ⊕ b
unfolding ◌⊕◌
differ_⊕ true true = refl
differ_⊕ true false = refl
differ_⊕ false true = refl
differ_⊕ false false = refl

-- its own bit added takes q out
pub cleared_added : (s : Bits) (q : ℕ) → added s q (s q) ≡ s ∩ outside (q ∷ [])
unfolding added ◌∩◌ outside
cleared_added s q = fun_ext (at_or_off (λ i e. cond e (s i ⊕ s q) (s i) ≡ (s i && (not e && true))) q (simp f2) (λ i. simp f2))

-- ---- the numbers of a list, put into a set one after the other

-- a list with q at its end
members_snoc : (l : List ℕ) (q i : ℕ) → members (l ++ q ∷ []) i ≡ cond (eqb i q) true (members l i)
unfolding members outside
members_snoc [] q i = go (eqb i q)
  where
    go : (b : Bool) → not (not b && true) ≡ cond b true false
    go true = refl
    go false = refl
members_snoc (n ∷ l) q i = go (eqb i n) (eqb i q) (members_snoc l q i)
  where
    go : (b c : Bool) → not (outside (l ++ q ∷ []) i) ≡ cond c true (not (outside l i))
        → not (not b && outside (l ++ q ∷ []) i) ≡ cond c true (not (not b && outside l i))
    go true true e = refl
    go true false e = refl
    go false c e = e

pub ∪_nothing : (s : Bits) → s ≡ s ∪ members []
unfolding ◌∪◌ members outside
∪_nothing s = fun_ext (λ i. go (s i))
  where
    go : (a : Bool) → a ≡ (a || false)
    go true = refl
    go false = refl

pub none_∪ : (s : Bits) → none ∪ s ≡ s
unfolding ◌∪◌ none
none_∪ s = refl

-- one number more of the list
pub members_more : (s t : Bits) (l : List ℕ) (j : ℕ) → j < length l → t ≡ s ∪ members (take j l) → replaced t (get_or l j 0) true ≡ s ∪ members (take (j + 1) l)
unfolding ◌∪◌ replaced
members_more s t l j h e =
    rw (e, add-one, take-suc l j 0 h)
    (fun_ext (λ i. rw (members_snoc (take j l) (get_or l j 0) i) (go (s i) (members (take j l) i) (eqb i (get_or l j 0)))))
  where
    go : (a b c : Bool) → cond c true (a || b) ≡ (a || cond c true b)
    go true b true = refl
    go true b false = refl
    go false b c = refl

-- the same from the empty set on
pub members_next : (t : Bits) (l : List ℕ) (j : ℕ) → j < length l → t ≡ members (take j l) → replaced t (get_or l j 0) true ≡ members (take (j + 1) l)
unfolding ◌∪◌ none
members_next t l j h e = members_more none t l j h e

-- ---- the sum of two sets, word by word

-- after j words
pub record Summed (before other : List ℕ) (j : ℕ) (now : List ℕ) : Type 0 where
  pub same : length now ≡ length before
  pub done : (k : ℕ) → k < j → get_or now k 0 ≡ bit_xor (get_or before k 0) (get_or other k 0)
  pub rest : (k : ℕ) → j ≤ k → get_or now k 0 ≡ get_or before k 0

module _ (before other now : List ℕ) (j : ℕ) (s : Summed before other j now) where
  pub summed_more : j < length before → Summed before other (j + 1) (set now j (bit_xor (get_or now j 0) (get_or other j 0)))
  summed_more h =
      record {
        same = length-set now j _ ∙ s.same;
        done = λ k g. at k g (ℕ_discrete k j);
        rest = λ k g. let other_place : k ≡ j → ⊥ = λ (e : k ≡ j). omega arith in get_or-set_other now j k _ 0 other_place ∙ s.rest k (omega arith);
      }
    where
      at : (k : ℕ) → k < j + 1 → Dec (k ≡ j)
          → get_or (set now j (bit_xor (get_or now j 0) (get_or other j 0))) k 0 ≡ bit_xor (get_or before k 0) (get_or other k 0)
      at k g (yes e) =
          let here : j < length now = omega (arith, s.same) in
          rw e (get_or-set_same now j _ 0 here ∙ rw (s.rest j (omega arith)))
      at k g (no e) = get_or-set_other now j k _ 0 e ∙ s.done k (omega (arith, e))

  pub summed_all : length before ≤ j → length other ≡ length before → in_set now ≡ in_set before △ in_set other
  unfolding in_set ◌△◌
  summed_all h l = fun_ext (λ i. rw (at (i / 64) (dec_lt (i / 64) j)) (bit_xor_lem _ _ (i % 64)))
    where
      at : (k : ℕ) → Dec (k < j) → get_or now k 0 ≡ bit_xor (get_or before k 0) (get_or other k 0)
      at k (yes g) = s.done k g
      at k (no g) =
          let a : length now ≤ k = omega (arith, g, s.same) in
          let b : length before ≤ k = omega (arith, g) in
          let d : length other ≤ k = omega (arith, g) in
          rw (get_or-eq_default now 0 a, get_or-eq_default before 0 b, get_or-eq_default other 0 d)
