-- Correlations that are found by their remainder. Laws. Assumes nothing.
use Rattle.std.specs.Prelude.{ℕ, zero, suc, ◌+◌, ◌≤◌, ◌<◌, ◌^◌, ◌≡◌, refl, Bool, true, false, cond, List, [], ◌∷◌, ◌++◌, eqb, length, get_or, set, take, replicate, Some, None}
use Rattle.std.proofs.Common.{add-one, arith, sym, ap, subst, ◌∙◌, eqb-true, length-append, length-set, get_or-set_same, get_or-set_other, take-suc-set, length-take-le}
use Rattle.std.proofs.lemmas.Bool.{eqb-false}
use Rattle.std.proofs.lemmas.List.{length-replicate, get_or-replicate, get_or_at}
use Rattle.std.proofs.Math.ListN.{get_or-append}
use Rattle.text.specs.Bytes.{until}
use Rattle.correlations.specs.Links.{Unseen, PlaceOf, remainder_of, Link, Linked, Table}

pub remainder_below : (c : ℕ) → remainder_of c < 4093
unfolding remainder_of
remainder_below c = omega arith

-- ---- the first place of a correlation

pub until_found : (c : ℕ) (seen : List ℕ) (i : ℕ) → i < length seen → get_or seen i 0 ≡ c → (until c seen ≤ i) × (get_or seen (until c seen) 0 ≡ c)
unfolding until
until_found c [] i h e = absurd (omega arith)
until_found c (b ∷ seen) i h e = go (eqb b c) refl i h e (until_found c seen)
  where
    go : (t : Bool) → eqb b c ≡ t → (i : ℕ) → i < suc (length seen) → get_or (b ∷ seen) i 0 ≡ c
        → ((i : ℕ) → i < length seen → get_or seen i 0 ≡ c → (until c seen ≤ i) × (get_or seen (until c seen) 0 ≡ c))
        → (cond t 0 (suc (until c seen)) ≤ i) × (get_or (b ∷ seen) (cond t 0 (suc (until c seen))) 0 ≡ c)
    go true q i h e ih = (omega arith, eqb-true b c q)
    go false q zero h e ih = absurd (eqb-false b c q e)
    go false q (suc i) h e ih = let (k, f) = ih i (omega arith) e in (omega arith, f)

pub until_none : (c : ℕ) (seen : List ℕ) → ((i : ℕ) → i < length seen → get_or seen i 0 ≡ c → ⊥) → until c seen ≡ length seen
unfolding until
until_none c [] h = refl
until_none c (b ∷ seen) h = go (eqb b c) refl (until_none c seen (λ i k. h (suc i) (omega arith)))
  where
    go : (t : Bool) → eqb b c ≡ t → until c seen ≡ length seen → cond t 0 (suc (until c seen)) ≡ suc (length seen)
    go true q ih = absurd (h 0 (omega arith) (eqb-true b c q))
    go false q ih = ap suc ih

-- ---- a correlation that is looked for along its links

pub record Sought (c : ℕ) (seen : List ℕ) (link : ℕ) : Type 0 where
  pub within : link ≤ length seen
  pub last : (i : ℕ) → i < length seen → get_or seen i 0 ≡ c → i < link
  pub leads : (i : ℕ) → link ≡ i + 1 → remainder_of (get_or seen i 0) ≡ remainder_of c

module _ {seen links : List ℕ} (k : Linked seen links) (c : ℕ) where
  pub sought_first : Sought c seen (get_or links (remainder_of c) 0)
  sought_first =
      let f = k.first (remainder_of c) (remainder_below c) in
      record { within = f.within; last = λ i h e. f.last i h (ap remainder_of e); leads = f.leads }

  module _ {link : ℕ} (i : ℕ) (s : Sought c seen link) (e : link ≡ i + 1) where
    inside : i < length seen
    inside = omega (arith, s.within)

    pub sought_here : get_or seen i 0 ≡ c → i ≡ until c seen
    sought_here h =
        let (before, there) = until_found c seen i inside h in
        let same : until c seen < i → ⊥ = λ b. k.once (until c seen) i b inside (there ∙ sym h) in
        go (until c seen) before same
      where
        go : (u : ℕ) → u ≤ i → (u < i → ⊥) → i ≡ u
        go u b n = omega (arith, n)

    pub sought_next : (get_or seen i 0 ≡ c → ⊥) → Sought c seen (get_or links (4093 + i) 0)
    sought_next h =
        let f = k.next i inside in
        record {
          within = omega (arith, f.within, inside);
          last = λ j l g. f.last j (apart j (s.last j l g) g) (ap remainder_of g ∙ sym (s.leads i e));
          leads = λ j g. f.leads j g ∙ s.leads i e;
        }
      where
        apart : (j : ℕ) → j < link → get_or seen j 0 ≡ c → j < i
        apart j l g = go (eqb j i) refl
          where
            go : (t : Bool) → eqb j i ≡ t → j < i
            go true q = absurd (h (subst (λ (x : ℕ). get_or seen x 0 ≡ c) (eqb-true j i q) g))
            go false q = omega (arith, eqb-false j i q)

  pub sought_end : {link : ℕ} → Sought c seen link → link ≡ 0 → length seen ≡ until c seen
  sought_end s e = sym (until_none c seen (λ i h g. omega (arith, s.last i h g)))

-- where a search along the links ends
pub place_here : {c : ℕ} {seen : List ℕ} {i : ℕ} → i ≡ until c seen → i < length seen → PlaceOf c seen (Some i)
place_here {i = i} e h = record { found = λ j q. let same : i ≡ j = cc in (sym same ∙ e, omega arith); unseen = λ q. cc }

pub place_none : {c : ℕ} {seen : List ℕ} → Unseen c seen → PlaceOf c seen None
place_none u = record { found = λ j q. cc; unseen = λ q. u }

-- ---- one more

module _ (seen : List ℕ) (c : ℕ) where
  abbrev more : List ℕ
  more = seen ++ c ∷ []

  before : (i : ℕ) → i < length seen → get_or more i 0 ≡ get_or seen i 0
  before i h = get_or-append seen (c ∷ []) 0 i h

  at_end : get_or more (length seen) 0 ≡ c
  at_end = get_or_at seen c [] 0 (length seen) refl

  link_stays : {r limit link : ℕ} → limit ≤ length seen → Link seen r limit link → Link more r limit link
  link_stays h k =
      record {
        within = k.within;
        last = λ i l e. k.last i l (sym (ap remainder_of (before i (omega arith))) ∙ e);
        leads = λ i e. ap remainder_of (before i (omega (arith, k.within))) ∙ k.leads i e;
      }

  link_other : {r link : ℕ} → (remainder_of c ≡ r → ⊥) → Link seen r (length seen) link → Link more r (length seen + 1) link
  link_other {r} {link} n k =
      record {
        within = omega (arith, k.within);
        last = λ i l e. go i l e (eqb i (length seen)) refl;
        leads = (link_stays (omega arith) k).leads;
      }
    where
      go : (i : ℕ) → i < length seen + 1 → remainder_of (get_or more i 0) ≡ r → (t : Bool) → eqb i (length seen) ≡ t → i < link
      go i l e true q = absurd (n (sym (ap remainder_of (ap (λ (x : ℕ). get_or more x 0) (eqb-true i (length seen) q) ∙ at_end)) ∙ e))
      go i l e false q = (link_stays (omega arith) k).last i (omega (arith, eqb-false i (length seen) q)) e

  link_new : Link more (remainder_of c) (length seen + 1) (length seen + 1)
  link_new =
      record {
        within = omega arith;
        last = λ i l e. l;
        leads = λ i e. let here : i ≡ length seen = omega arith in ap (λ (x : ℕ). remainder_of (get_or more x 0)) here ∙ ap remainder_of at_end;
      }

  module _ {links : List ℕ} (k : Linked seen links) (new : Unseen c seen) (room : 4093 + length seen < length links) where
    abbrev behind : List ℕ
    behind = set links (4093 + length seen) (get_or links (remainder_of c) 0)

    abbrev linked : List ℕ
    linked = set behind (remainder_of c) (length seen + 1)

    kept : (j : ℕ) → (j ≡ remainder_of c → ⊥) → (j ≡ 4093 + length seen → ⊥) → get_or linked j 0 ≡ get_or links j 0
    kept j a b = get_or-set_other behind (remainder_of c) j (length seen + 1) 0 a ∙ get_or-set_other links (4093 + length seen) j _ 0 b

    size : length more ≡ length seen + 1
    size = length-append seen (c ∷ [])

    first_more : (r : ℕ) → r < 4093 → Link more r (length seen + 1) (get_or linked r 0)
    first_more r h = go (eqb r (remainder_of c)) refl
      where
        go : (t : Bool) → eqb r (remainder_of c) ≡ t → Link more r (length seen + 1) (get_or linked r 0)
        go true q =
            let own : get_or linked (remainder_of c) 0 ≡ length seen + 1
            = get_or-set_same behind (remainder_of c) (length seen + 1) 0 (rw length-set (omega (arith, room, remainder_below c))) in
            rw (eqb-true r (remainder_of c) q, own) link_new
        go false q =
            let n = eqb-false r (remainder_of c) q in
            rw (kept r n (λ e. omega arith)) (link_other (λ e. n (sym e)) (k.first r h))

    next_more : (i : ℕ) → i < length seen + 1 → Link more (remainder_of (get_or more i 0)) i (get_or linked (4093 + i) 0)
    next_more i h = go (eqb i (length seen)) refl
      where
        go : (t : Bool) → eqb i (length seen) ≡ t → Link more (remainder_of (get_or more i 0)) i (get_or linked (4093 + i) 0)
        go true q =
            let below = remainder_below c in
            let own : get_or linked (4093 + length seen) 0 ≡ get_or links (remainder_of c) 0
            = get_or-set_other behind (remainder_of c) (4093 + length seen) (length seen + 1) 0 (λ e. omega (arith, e, below))
            ∙ get_or-set_same links (4093 + length seen) _ 0 room in
            rw (eqb-true i (length seen) q, own, at_end) (link_stays (omega arith) (k.first (remainder_of c) below))
        go false q =
            let n = eqb-false i (length seen) q in
            let l : i < length seen = omega (arith, n) in
            let below = remainder_below c in
            rw (kept (4093 + i) (λ e. omega (arith, e, below)) (λ e. omega (arith, e, n)), before i l) (link_stays (omega (arith, l)) (k.next i l))

    once_more : (i j : ℕ) → i < j → j < length seen + 1 → get_or more i 0 ≡ get_or more j 0 → ⊥
    once_more i j h l e = go (eqb j (length seen)) refl
      where
        go : (t : Bool) → eqb j (length seen) ≡ t → ⊥
        go true q =
            let there : j ≡ length seen = eqb-true j (length seen) q in
            let inside : i < length seen = omega (arith, there) in
            let same : get_or seen i 0 ≡ c = sym (before i inside) ∙ e ∙ ap (λ (x : ℕ). get_or more x 0) there ∙ at_end in
            omega (arith, (until_found c seen i inside same).0)
        go false q =
            let inside : j < length seen = omega (arith, eqb-false j (length seen) q) in
            k.once i j h inside (sym (before i (omega arith)) ∙ e ∙ before j inside)

    pub linked_more : Linked more linked
    linked_more =
        record {
          room = rw (size, length-set behind (remainder_of c) (length seen + 1), length-set links (4093 + length seen) _) (omega (arith, room));
          first = λ r h. rw size (first_more r h);
          next = λ i h. next_more i (omega (arith, size));
          once = λ i j h l. once_more i j h (omega (arith, size));
        }

-- ---- a table

pub table_empty : (n m : ℕ) → 4093 + n ≤ m → n < 2 ^ 16 → Table 0 (replicate n 0) (replicate n 0) (replicate m 0)
table_empty n m h s =
    record {
      few = omega arith;
      beside = refl;
      room = rw (length-replicate {A = ℕ} n 0, length-replicate {A = ℕ} m 0) h;
      small = rw (length-replicate {A = ℕ} n 0) s;
      linked = record {
        room = rw (length-replicate {A = ℕ} m 0) (omega arith);
        first = λ r l. rw (get_or-replicate {A = ℕ} m r 0 0 (omega arith))
            (record { within = omega arith; last = λ i z e. absurd (omega arith); leads = λ i e. absurd (omega arith) });
        next = λ i l. absurd (omega arith);
        once = λ i j l z e. absurd (omega arith);
      };
    }

pub table_one : {n : ℕ} {seen sizes links : List ℕ} (c s : ℕ) → Table n seen sizes links → n < length seen → Unseen c (take n seen)
    → Table (n + 1) (set seen n c) (set sizes n s) (set (set links (4093 + n) (get_or links (remainder_of c) 0)) (remainder_of c) (n + 1))
table_one {n} {seen} {sizes} {links} c s t h new =
    let size : length (take n seen) ≡ n = length-take-le n seen (omega arith) in
    let after : ℕ → List ℕ = λ m. set (set links (4093 + m) (get_or links (remainder_of c) 0)) (remainder_of c) (m + 1) in
    record {
      few = rw (length-set seen n c) (omega arith);
      beside = length-set seen n c ∙ t.beside ∙ sym (length-set sizes n s);
      room = rw (length-set seen n c, length-set _ (remainder_of c) (n + 1), length-set links (4093 + n) _) t.room;
      small = rw (length-set seen n c) t.small;
      linked = subst (λ (l : List ℕ). Linked l (after n)) (sym (ap (λ (m : ℕ). take m (set seen n c)) (add-one n) ∙ take-suc-set seen n c h))
          (subst (λ (m : ℕ). Linked (take n seen ++ c ∷ []) (after m)) size (linked_more (take n seen) c t.linked new (omega (arith, size, t.room))));
    }
