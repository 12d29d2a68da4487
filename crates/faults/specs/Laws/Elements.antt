-- Elements kept in lent words. Laws. Assumes nothing.
use Rattle.std.specs.Prelude.{ℕ, ◌+◌, ◌*◌, ◌≤◌, ◌<◌, min, ◌≡◌, List, length, take, drop, set}
use Rattle.std.proofs.Common.{add-zero, zero-add, arith, sym, ap, ◌∙◌, length-set, length-take, length-drop, get_or-set_same, get_or-set_other, get_or-take, get_or-drop, length-take-le, ext_get_or}
use Rattle.std.proofs.Math.ListN.{get_or}
use Rattle.text.specs.Template.{Value, list_at_of}
use Rattle.template.specs.Values.{Whole, kept_members, members_on, held_count, held_member}
use Rattle.template.specs.Fields.{Held}
use Rattle.job.specs.Line.{SparsePauli}
use Rattle.job.specs.Grammar.{pauli_at_of}
use Rattle.rows.specs.Overwrite.{copied}
use Rattle.rows.proofs.Laws.Overwrite.{overwrite_in, overwrite_out, length_copied}
use Rattle.faults.specs.Elements.{Inside, x_count, z_count, element_X, element_Z, Kept, ElementHeld, QubitsHeld}

-- ---- words that are copied

module _ (at from n : ℕ) (src l : List ℕ) where
  pub copied_in : (j : ℕ) → j < n → at + n ≤ length l → get_or (copied at from n src l) (at + j) 0 ≡ get_or src (from + j) 0
  unfolding copied
  copied_in j h fits = overwrite_in at (λ i. get_or src (from + i) 0) l n j h fits

  copied_out : (k : ℕ) → (at ≤ k → k < at + n → ⊥) → get_or (copied at from n src l) k 0 ≡ get_or l k 0
  unfolding copied
  copied_out k h = overwrite_out at (λ i. get_or src (from + i) 0) l n k h

-- ---- the words of an element

-- member j of a list of a line's values
pub member_kept : (values : List ℕ) (i j : ℕ) → j < 31 → get_or (kept_members values i) (0 + j) 0 ≡ held_member values i j
member_kept values i j h = rw (zero-add j) (get_or-take 31 (members_on values i) j 0 h ∙ get_or-drop (12 + i * 31) values j 0)

pub kept_size : (values : List ℕ) (i : ℕ) {members : List ℕ} → members ≡ kept_members values i → Whole values → i < 4 → length members ≡ 31
kept_size values i e whole h = rw e (length-take-le 31 (members_on values i) (rw length-drop (omega arith)))

module _ (e first : ℕ) (f l : List ℕ) (nx nz : ℕ) (x-all : nx ≡ min (held_count f first) 31) (z-all : nz ≡ min (held_count f (first + 1)) 31) where
  -- after the first count, after both, after the first list, and after both
  abbrev one_count : List ℕ
  one_count = set l (e * 64) (held_count f first)

  abbrev counted : List ℕ
  counted = set one_count (e * 64 + 1) (held_count f (first + 1))

  abbrev begun : List ℕ
  begun = copied (e * 64 + 2) 0 nx (kept_members f first) counted

  abbrev done : List ℕ
  done = copied (e * 64 + 33) 0 nz (kept_members f (first + 1)) begun

  length_counted : length counted ≡ length l
  length_counted = length-set one_count (e * 64 + 1) (held_count f (first + 1)) ∙ length-set l (e * 64) (held_count f first)

  length_begun : length begun ≡ length l
  length_begun = length_copied (e * 64 + 2) 0 nx (kept_members f first) counted ∙ length_counted

  kept_steps : Inside l e → Kept e first f l done
  kept_steps fits =
      record {
        long = length_copied (e * 64 + 33) 0 nz (kept_members f (first + 1)) begun ∙ length_begun;
        x_count_lem =
            copied_out (e * 64 + 33) 0 nz (kept_members f (first + 1)) begun (e * 64) (λ a b. omega arith)
            ∙ copied_out (e * 64 + 2) 0 nx (kept_members f first) counted (e * 64) (λ a b. omega arith)
            ∙ get_or-set_other one_count (e * 64 + 1) (e * 64) (held_count f (first + 1)) 0 (λ (q : e * 64 ≡ e * 64 + 1). omega arith)
            ∙ get_or-set_same l (e * 64) (held_count f first) 0 (omega arith);
        z_count_lem =
            copied_out (e * 64 + 33) 0 nz (kept_members f (first + 1)) begun (e * 64 + 1) (λ a b. omega arith)
            ∙ copied_out (e * 64 + 2) 0 nx (kept_members f first) counted (e * 64 + 1) (λ a b. omega arith)
            ∙ get_or-set_same one_count (e * 64 + 1) (held_count f (first + 1)) 0 (rw length-set (omega arith));
        x = λ j h m.
            copied_out (e * 64 + 33) 0 nz (kept_members f (first + 1)) begun (e * 64 + 2 + j) (λ a b. omega arith)
            ∙ copied_in (e * 64 + 2) 0 nx (kept_members f first) counted j (omega arith) (omega (arith, length_counted))
            ∙ member_kept f first j h;
        z = λ j h m.
            copied_in (e * 64 + 33) 0 nz (kept_members f (first + 1)) begun j (omega arith) (omega (arith, length_begun))
            ∙ member_kept f (first + 1) j h;
        others = λ k out.
            copied_out (e * 64 + 33) 0 nz (kept_members f (first + 1)) begun k (λ a b. out (omega arith) (omega arith))
            ∙ copied_out (e * 64 + 2) 0 nx (kept_members f first) counted k (λ a b. out (omega arith) (omega arith))
            ∙ get_or-set_other one_count (e * 64 + 1) k (held_count f (first + 1)) 0 (λ (q : k ≡ e * 64 + 1). out (omega arith) (omega arith))
            ∙ get_or-set_other l (e * 64) k (held_count f first) 0 (λ (q : k ≡ e * 64). out (omega arith) (omega arith));
      }

-- ---- lists in words

-- a list of which each member stands at its place
pub list_held : (words : List ℕ) (at : ℕ) (l : List ℕ) → at + length l ≤ length words → ((j : ℕ) → j < length l → get_or words (at + j) 0 ≡ get_or l j 0)
    → take (length l) (drop at words) ≡ l
list_held words at l fits same =
    ext_get_or 0 _ _ size (λ j h. let m : j < length l = omega (arith, size) in get_or-take (length l) (drop at words) j 0 m ∙ get_or-drop at words j 0 ∙ same j m)
  where
    size : length (take (length l) (drop at words)) ≡ length l
    size = omega (arith, length-take (length l) (drop at words), length-drop at words)

-- and back
list_at : (words : List ℕ) (at : ℕ) (l : List ℕ) → take (length l) (drop at words) ≡ l → (j : ℕ) → j < length l → get_or words (at + j) 0 ≡ get_or l j 0
list_at words at l e j h = sym (get_or-drop at words j 0) ∙ sym (get_or-take (length l) (drop at words) j 0 h) ∙ ap (λ (m : List ℕ). get_or m j 0) e

-- a list with its count
counted_list : (words : List ℕ) (at n : ℕ) (l : List ℕ) → n ≡ length l → at + length l ≤ length words
    → ((j : ℕ) → j < length l → get_or words (at + j) 0 ≡ get_or l j 0) → take n (drop at words) ≡ l
counted_list words at n l e fits same = ap (λ (k : ℕ). take k (drop at words)) e ∙ list_held words at l fits same

-- ---- the element that is kept, and the others

module _ {f : List ℕ} {a b : ℕ} {vs : List Value} (h : Held f a b vs) {e first : ℕ} {l m : List ℕ} (k : Kept e first f l m) (fits : Inside l e) where
  -- one list of a line
  count_of_x : first < b → x_count m e ≡ length (list_at_of first vs)
  count_of_x in_b = k.x_count_lem ∙ h.count first in_b

  kept_list_x : first < b → length (list_at_of first vs) ≤ 31 → element_X m e ≡ list_at_of first vs
  kept_list_x in_b few =
      counted_list m (e * 64 + 2) _ (list_at_of first vs) (count_of_x in_b) (omega (arith, k.long))
      (λ j i. k.x j (omega arith) (omega (arith, h.count first in_b)) ∙ h.member first j in_b (omega arith) i)

  count_of_z : first + 1 < b → z_count m e ≡ length (list_at_of (first + 1) vs)
  count_of_z in_b = k.z_count_lem ∙ h.count (first + 1) in_b

  kept_list_z : first + 1 < b → length (list_at_of (first + 1) vs) ≤ 31 → element_Z m e ≡ list_at_of (first + 1) vs
  kept_list_z in_b few =
      counted_list m (e * 64 + 33) _ (list_at_of (first + 1) vs) (count_of_z in_b) (omega (arith, k.long))
      (λ j i. k.z j (omega arith) (omega (arith, h.count (first + 1) in_b)) ∙ h.member (first + 1) j in_b (omega arith) i)

  pub kept_held : first + 1 < b → length (list_at_of first vs) ≤ 31 → length (list_at_of (first + 1) vs) ≤ 31 → ElementHeld m e (pauli_at_of first (first + 1) vs)
  kept_held in_b x_few z_few =
      record {
        x_few = x_few;
        z_few = z_few;
        x_count_lem = count_of_x (omega arith);
        z_count_lem = count_of_z in_b;
        x = kept_list_x (omega arith) x_few;
        z = kept_list_z in_b z_few;
      }

-- the first list alone, where it is the only one
pub kept_qubits : {f : List ℕ} {a b : ℕ} {vs : List Value} → Held f a b vs → {first : ℕ} {l m : List ℕ} → Kept 0 first f l m → Inside l 0 → first < b
    → length (list_at_of first vs) ≤ 31 → QubitsHeld m (list_at_of first vs)
kept_qubits h k fits in_b few =
    record {
      few = few;
      count = count_of_x h k fits in_b;
      is = kept_list_x h k fits in_b few;
    }

pub held_others : {l : List ℕ} {i : ℕ} {P : SparsePauli} → ElementHeld l i P → {e first : ℕ} {f m : List ℕ} → Kept e first f l m → (i ≡ e → ⊥) → Inside l i
    → ElementHeld m i P
held_others {l} {i} {P} h {e} {first} {f} {m} k ne fits =
    record {
      x_few = h.x_few;
      z_few = h.z_few;
      x_count_lem = count_x;
      z_count_lem = count_z;
      x = counted_list m (i * 64 + 2) _ P.x count_x (omega (arith, k.long, h.x_few)) (λ j n. near 2 j (omega (arith, h.x_few)) ∙ list_at l (i * 64 + 2) P.x (rw h.x_count_lem at h.x) j n);
      z = counted_list m (i * 64 + 33) _ P.z count_z (omega (arith, k.long, h.z_few)) (λ j n. near 33 j (omega (arith, h.z_few)) ∙ list_at l (i * 64 + 33) P.z (rw h.z_count_lem at h.z) j n);
    }
  where
    apart : (j : ℕ) → j < 64 → e * 64 ≤ i * 64 + j → i * 64 + j < e * 64 + 64 → ⊥
    apart j h a b = ne (omega arith)

    stays : (j : ℕ) → j < 64 → get_or m (i * 64 + j) 0 ≡ get_or l (i * 64 + j) 0
    stays j h = k.others (i * 64 + j) (apart j h)

    near : (n j : ℕ) → n + j < 64 → get_or m (i * 64 + n + j) 0 ≡ get_or l (i * 64 + n + j) 0
    near n j h = let sum : i * 64 + n + j ≡ i * 64 + (n + j) = omega arith in rw sum (stays (n + j) h)

    count_x : x_count m i ≡ length P.x
    count_x = rw add-zero at (stays 0 (omega arith)) ∙ h.x_count_lem

    count_z : z_count m i ≡ length P.z
    count_z = stays 1 (omega arith) ∙ h.z_count_lem

-- the steps of the code: both counts, then one list after the other
pub kept_by : (e first : ℕ) (f l : List ℕ) → Inside l e → {nx nz x_count_lem z_count_lem : ℕ} {xs zs m m' : List ℕ} → x_count_lem ≡ held_count f first
    → z_count_lem ≡ held_count f (first + 1) → xs ≡ kept_members f first → zs ≡ kept_members f (first + 1) → nx ≡ min (held_count f first) 31
    → nz ≡ min (held_count f (first + 1)) 31 → m ≡ copied (e * 64 + 2) 0 nx xs (set (set l (e * 64) x_count_lem) (e * 64 + 1) z_count_lem)
    → m' ≡ copied (e * 64 + 33) 0 nz zs m → Kept e first f l m'
kept_by e first f l fits {nx} {nz} a b x z few-x few-z m m' = rw (m', m, a, b, x, z) (kept_steps e first f l nx nz few-x few-z fits)

pub copy_length : (at from n : ℕ) (src l m : List ℕ) → m ≡ copied at from n src l → length m ≡ length l
copy_length at from n src l m e = ap length e ∙ length_copied at from n src l
