-- Each number of a list at its first appearance: none stands twice, and the members are those of the list. Laws. Assumes nothing.
use Rattle.std.specs.Prelude.{◌≡◌, Bool, cond, ◌||◌, ℕ, ◌<◌}
use Rattle.std.proofs.Math.Path.{refl, sym, ap}
use Rattle.std.proofs.Common.{◌∙◌, true≢false, lt-ltb, eqb-true, ne_eqb}
use Rattle.std.proofs.Math.Bool.{true, false, or-false, or_assoc}
use mathlib.Core.List.{List, [], ◌∷◌, ◌++◌, append_assoc, append-nil}
use Rattle.std.proofs.lemmas.Bool.{eqb-false}
use Rattle.std.proofs.Math.Dec.{eqb}
use Rattle.pauli.specs.Bits.{members}
use Rattle.job.specs.Checks.{all_below, distinct}
use Rattle.job.proofs.Laws.Lists.{below_first, distinct_first}
use Rattle.job.proofs.Laws.Rising.{members_nil, members_cons}
use Rattle.circuit.specs.Annotate.{add_new_of, first_from}

neither : (a b : Bool) → a || b ≡ false → (a ≡ false) × (b ≡ false)
neither true b e = absurd (true≢false e)
neither false b e = (refl, e)

-- ---- lists behind one another

pub below_append : (n : ℕ) (k l : List ℕ) → all_below n k ≡ true → all_below n l ≡ true → all_below n (k ++ l) ≡ true
unfolding all_below
below_append n [] l a b = b
below_append n (q ∷ k) l a b = let parts = below_first n q k a in rw (lt-ltb q n parts.0) (below_append n k l parts.1 b)

pub members_append : (k l : List ℕ) (i : ℕ) → members (k ++ l) i ≡ members k i || members l i
members_append [] l i = rw (members_nil i)
members_append (q ∷ k) l i =
    members_cons q (k ++ l) i
    ∙ ap (λ (b : Bool). eqb i q || b) (members_append k l i)
    ∙ sym (or_assoc (eqb i q) (members k i) (members l i))
    ∙ ap (λ (b : Bool). b || members l i) (sym (members_cons q k i))

-- members of two lists that have none twice are apart
members_apart : (seen : List ℕ) (q : ℕ) (qs : List ℕ) → distinct (seen ++ q ∷ qs) ≡ true → members seen q ≡ false
members_apart [] q qs d = members_nil q
members_apart (s ∷ seen) q qs d =
    let (a, behind) = distinct_first s (seen ++ q ∷ qs) d in
    let off = (neither (members seen s) (members (q ∷ qs) s) (sym (members_append seen (q ∷ qs) s) ∙ a)).1 in
    let other = eqb-false s q (neither (eqb s q) (members qs s) (sym (members_cons q qs s) ∙ off)).0 in
    members_cons s seen q ∙ rw (ne_eqb q s (λ (e : q ≡ s). other (sym e))) (members_apart seen q qs behind)

distinct_behind : (seen : List ℕ) (q : ℕ) → distinct seen ≡ true → members seen q ≡ false → distinct (seen ++ q ∷ []) ≡ true
unfolding distinct
distinct_behind [] q d m = rw (members_nil q)
distinct_behind (s ∷ seen) q d m =
    let (a, behind) = distinct_first s seen d in
    let (here, later) = neither (eqb q s) (members seen q) (sym (members_cons s seen q) ∙ m) in
    let other : eqb s q ≡ false = ne_eqb s q (λ (e : s ≡ q). eqb-false q s here (sym e)) in
    let off : members (seen ++ q ∷ []) s ≡ false = members_append seen (q ∷ []) s ∙ rw (a, members_cons q [] s, other) (members_nil s) in
    rw off (distinct_behind seen q behind later)

-- ---- one more number

module _ (seen : List ℕ) (q : ℕ) where
  pub add_members : (i : ℕ) → members (add_new_of seen q) i ≡ members seen i || eqb i q
  unfolding add_new_of
  add_members i = go (members seen q) refl (eqb i q) refl
    where
      go : (b : Bool) → members seen q ≡ b → (c : Bool) → eqb i q ≡ c → members (cond b seen (seen ++ q ∷ [])) i ≡ members seen i || c
      go true e true f = rw (ap (members seen) (eqb-true i q f) ∙ e)
      go true e false f = sym (or-false (members seen i))
      go false e c f = members_append seen (q ∷ []) i ∙ ap (λ (b : Bool). members seen i || b) (members_cons q [] i ∙ rw (f, members_nil i) (or-false c))

  add_distinct : distinct seen ≡ true → distinct (add_new_of seen q) ≡ true
  unfolding add_new_of
  add_distinct d = go (members seen q) refl
    where
      go : (b : Bool) → members seen q ≡ b → distinct (cond b seen (seen ++ q ∷ [])) ≡ true
      go true e = d
      go false e = distinct_behind seen q d e

  add_below : (n : ℕ) → all_below n seen ≡ true → q < n → all_below n (add_new_of seen q) ≡ true
  unfolding add_new_of
  add_below n s h = go (members seen q)
    where
      go : (b : Bool) → all_below n (cond b seen (seen ++ q ∷ [])) ≡ true
      go true = s
      go false = below_append n seen (q ∷ []) s (unfold all_below in rw (lt-ltb q n h))

  add_other : members seen q ≡ false → add_new_of seen q ≡ seen ++ q ∷ []
  unfolding add_new_of
  add_other e = rw e

-- ---- a list

pub first_members : (seen qs : List ℕ) (i : ℕ) → members (first_from seen qs) i ≡ members seen i || members qs i
unfolding first_from
first_members seen [] i = sym (rw (members_nil i) (or-false (members seen i)))
first_members seen (q ∷ qs) i =
    first_members (add_new_of seen q) qs i
    ∙ ap (λ (b : Bool). b || members qs i) (add_members seen q i)
    ∙ or_assoc (members seen i) (eqb i q) (members qs i)
    ∙ ap (λ (b : Bool). members seen i || b) (sym (members_cons q qs i))

pub first_distinct : (seen qs : List ℕ) → distinct seen ≡ true → distinct (first_from seen qs) ≡ true
unfolding first_from
first_distinct seen [] d = d
first_distinct seen (q ∷ qs) d = first_distinct (add_new_of seen q) qs (add_distinct seen q d)

-- a list that has none twice stays as it is
pub first_same : (seen qs : List ℕ) → distinct (seen ++ qs) ≡ true → first_from seen qs ≡ seen ++ qs
unfolding first_from
first_same seen [] d = sym (append-nil seen)
first_same seen (q ∷ qs) d =
    let whole : (seen ++ q ∷ []) ++ qs ≡ seen ++ q ∷ qs = append_assoc seen (q ∷ []) qs in
    ap (λ (s : List ℕ). first_from s qs) (add_other seen q (members_apart seen q qs d)) ∙ first_same (seen ++ q ∷ []) qs (ap distinct whole ∙ d) ∙ whole

pub first_below : (n : ℕ) (seen qs : List ℕ) → all_below n seen ≡ true → all_below n qs ≡ true → all_below n (first_from seen qs) ≡ true
unfolding first_from
first_below n seen [] s h = s
first_below n seen (q ∷ qs) s h = let parts = below_first n q qs h in first_below n (add_new_of seen q) qs (add_below seen q n s parts.0) parts.1

-- the last number comes last
pub first_last : (seen qs : List ℕ) (q : ℕ) → first_from seen (qs ++ q ∷ []) ≡ add_new_of (first_from seen qs) q
unfolding first_from
first_last seen [] q = refl
first_last seen (r ∷ qs) q = first_last (add_new_of seen r) qs q
