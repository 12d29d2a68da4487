-- Laws: lists that are chosen number by number. Assumes nothing.
use Rattle.std.specs.Prelude.{◌≡◌, refl, Bool, true, false, cond, ◌&&◌, List, [], ◌∷◌, ◌++◌, ℕ, suc, ◌+◌, ◌-◌, ◌/◌, ◌%◌, ◌≤◌, ◌<◌, eqb, ltb, length, take, set}
use Rattle.std.proofs.Common.{sym, ap, ◌∙◌, append_assoc, append-nil, arith, length-set, take-suc-set}
use Rattle.made.specs.Choice.{marked, cyclic}
use Rattle.made_fields.specs.Chosen.{Kept}

-- ---- marked numbers

-- What is kept so far, and what is marked from here on, make the whole.
pub record Marking (whole : List ℕ) (top : ℕ) (long : ℕ) (list : List ℕ) (count q bits i : ℕ) : Type 0 where
  pub same : length list ≡ long
  pub few : count ≤ i
  pub most : i ≤ 8
  pub goes : take count list ++ marked (8 - i) top q bits ≡ whole

pub mark_begun : (top from m : ℕ) (list : List ℕ) → Marking (marked 8 top from m) top (length list) list 0 from m 0
mark_begun top from m list = record { same = refl; few = omega arith; most = omega arith; goes = refl }

pub mark_turn : {whole : List ℕ} {top long : ℕ} {list after : List ℕ} {count q bits i r : ℕ} → Marking whole top long list count q bits i → i < 8
    → Kept list count (eqb (bits % 2) 1 && ltb q top) q after r → length after ≡ length list
    → Marking whole top long after r (q + 1) (bits / 2) (i + 1)
unfolding marked
mark_turn {whole} {top} {long} {list} {after} {count} {q} {bits} {i} {r} m h k l =
    record {
      same = l ∙ m.same;
      few = omega (arith, m.few, k.more);
      most = omega (arith, h);
      goes = go (eqb (bits % 2) 1 && ltb q top) k.first unfolded;
    }
  where
    left : ℕ
    left = 8 - (i + 1)

    turn : 8 - i ≡ suc left
    turn = omega (arith, h)

    next : q + 1 ≡ suc q
    next = omega arith

    unfolded : take count list ++ cond (eqb (bits % 2) 1 && ltb q top) (q ∷ marked left top (suc q) (bits / 2)) (marked left top (suc q) (bits / 2)) ≡ whole
    unfolded = sym (ap (λ (n : ℕ). take count list ++ marked n top q bits) turn) ∙ m.goes

    go : (b : Bool) → take r after ≡ cond b (take count list ++ q ∷ []) (take count list)
        → take count list ++ cond b (q ∷ marked left top (suc q) (bits / 2)) (marked left top (suc q) (bits / 2)) ≡ whole
        → take r after ++ marked left top (q + 1) (bits / 2) ≡ whole
    go true e u = rw (e, next) (append_assoc (take count list) (q ∷ []) (marked left top (suc q) (bits / 2)) ∙ u)
    go false e u = rw (e, next) u

pub mark_ended : {whole : List ℕ} {top long : ℕ} {list : List ℕ} {count q bits i : ℕ} → Marking whole top long list count q bits i → 8 ≤ i
    → take count list ≡ whole
unfolding marked
mark_ended {top = top} {list = list} {count = count} {q = q} {bits = bits} {i = i} m h =
    let none : 8 - i ≡ 0 = omega (arith, h) in
    sym (append-nil (take count list)) ∙ ap (λ (l : List ℕ). take count list ++ l) (sym (ap (λ (n : ℕ). marked n top q bits) none)) ∙ m.goes

-- ---- numbers in a ring

-- What is put so far, and what is to be put from here on, make the whole.
pub record Cycling (k n a : ℕ) (long : ℕ) (list : List ℕ) (i : ℕ) : Type 0 where
  pub same : length list ≡ long
  pub most : i ≤ k
  pub goes : take i list ++ cyclic (k - i) n (a + i) ≡ cyclic k n a

pub cycle_begun : (k n a : ℕ) (list : List ℕ) → Cycling k n a (length list) list 0
cycle_begun k n a list =
    let here : a + 0 ≡ a = omega arith in
    let all : k - 0 ≡ k = omega arith in
    record { same = refl; most = omega arith; goes = rw (here, all) refl }

pub cycle_turn : {k n a long : ℕ} {list : List ℕ} {i : ℕ} → Cycling k n a long list i → i < k → i < length list
    → Cycling k n a long (set list i ((a + i) % n)) (i + 1)
unfolding cyclic
cycle_turn {k} {n} {a} {long} {list} {i} m h room =
    let turn : k - i ≡ suc (k - (i + 1)) = omega (arith, h) in
    let next : a + (i + 1) ≡ suc (a + i) = omega arith in
    let one : i + 1 ≡ suc i = omega arith in
    let put : take (i + 1) (set list i ((a + i) % n)) ≡ take i list ++ (a + i) % n ∷ [] =
    ap (λ (j : ℕ). take j (set list i ((a + i) % n))) one ∙ take-suc-set list i ((a + i) % n) room in
    record {
      same = length-set list i ((a + i) % n) ∙ m.same;
      most = omega (arith, h);
      goes =
          ap (λ (p : List ℕ). p ++ cyclic (k - (i + 1)) n (a + (i + 1))) put
          ∙ append_assoc (take i list) ((a + i) % n ∷ []) (cyclic (k - (i + 1)) n (a + (i + 1)))
          ∙ ap (λ (b : ℕ). take i list ++ (a + i) % n ∷ cyclic (k - (i + 1)) n b) next
          ∙ sym (ap (λ (j : ℕ). take i list ++ cyclic j n (a + i)) turn)
          ∙ m.goes;
    }

pub cycle_ended : {k n a long : ℕ} {list : List ℕ} {i : ℕ} → Cycling k n a long list i → k ≤ i → take k list ≡ cyclic k n a
unfolding cyclic
cycle_ended {k} {n} {a} {long} {list} {i} m h =
    let none : k - i ≡ 0 = omega (arith, h) in
    let all : i ≡ k = omega (arith, h, m.most) in
    ap (λ (j : ℕ). take j list) (sym all)
    ∙ sym (append-nil (take i list)) ∙ ap (λ (l : List ℕ). take i list ++ l) (sym (ap (λ (j : ℕ). cyclic j n (a + i)) none))
    ∙ m.goes
