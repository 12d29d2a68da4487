-- What holds of a choice whatever the stream's state: the values of picks, of `few` and of `stretch`. Laws. Assumes nothing.
use Rattle.std.specs.Prelude.{◌≡◌, refl, Bool, true, false, not, cond, ◌&&◌, List, [], ◌∷◌, ℕ, zero, suc, ◌+◌, ◌/◌, ◌%◌, ◌<◌, ◌≤◌, min, eqb, ltb, length}
use Rattle.std.proofs.Common.{ap, arith, mod-lt, mul-suc, mul-le-mul_left, lt-ltb, eq-eqb, ne_eqb}
use Rattle.std.proofs.Math.Nat.{div-add-mod}
use Rattle.std.proofs.Math.Decide.{dec_lt}
use Rattle.pauli.specs.Bits.{outside, members}
use Rattle.text.specs.List.{rises_from, is_rising_of}
use Rattle.job.specs.Line.{SparsePauli}
use Rattle.job.specs.Checks.{all_below, distinct, is_permutation}
use Rattle.job.specs.Sound.{RisingBelow, Operands, PauliSound}
use Rattle.job.proofs.Laws.Passes.{and_both}
use Rattle.made.specs.Choice.{Choice, given, ◌>>=◌, pick, marked, few, pauli, cyclic, stretch}

-- the value has the property from every state
pub record Always {A : Type 0} (P : A → Type 0) (c : Choice A) : Type 0 where
  pub from : (state : ℕ) → P (c state).value

pub always_given : {A : Type 0} {P : A → Type 0} (a : A) → P a → Always P (given a)
unfolding given
always_given a p = record { from = λ state. p }

pub always_then : {A B : Type 0} {P : A → Type 0} {Q : B → Type 0} {c : Choice A} {k : A → Choice B} → Always P c → ((a : A) → P a → Always Q (k a))
    → Always Q (c >>= k)
unfolding ◌>>=◌
always_then {c = c} h f = record { from = λ state. (f (c state).value (h.from state)).from (c state).state }

pub always_pick : (n : ℕ) → 0 < n → Always (λ v. v < n) (pick n)
unfolding pick
always_pick n h = record { from = λ state. mod-lt _ h }

-- ---- few

-- at most 8 numbers below n, rising
pub record Few (n : ℕ) (l : List ℕ) : Type 0 where
  pub rising : is_rising_of l ≡ true
  pub below : all_below n l ≡ true
  pub short : length l ≤ 8

pub few_sound : {n : ℕ} {l : List ℕ} → Few n l → RisingBelow n l
few_sound f = record { rising = f.rising; below = f.below; few = omega (arith, f.short) }

pub no_few : (n : ℕ) → Few n []
unfolding is_rising_of all_below
no_few n = record { rising = refl; below = refl; short = omega arith }

-- at most k numbers from q on, below top, rising
record MarkedFrom (k top q : ℕ) (l : List ℕ) : Type 0 where
  rises : (p : ℕ) → p < q → rises_from p l ≡ true
  rising : is_rising_of l ≡ true
  below : all_below top l ≡ true
  short : length l ≤ k

marked_more : (k top q : ℕ) (l : List ℕ) (a b : Bool) → ltb q top ≡ b → MarkedFrom k top (suc q) l → MarkedFrom (suc k) top q (cond (a && b) (q ∷ l) l)
unfolding rises_from is_rising_of all_below
marked_more k top q l true true e f =
    record {
      rises = λ p h. and_both (lt-ltb p q h) (f.rises q (omega arith));
      rising = f.rises q (omega arith);
      below = and_both e f.below;
      short = omega (arith, f.short);
    }
marked_more k top q l true false e f = record { rises = λ p h. f.rises p (omega arith); rising = f.rising; below = f.below; short = omega (arith, f.short) }
marked_more k top q l false b e f = record { rises = λ p h. f.rises p (omega arith); rising = f.rising; below = f.below; short = omega (arith, f.short) }

marked_from : (k top q m : ℕ) → MarkedFrom k top q (marked k top q m)
unfolding marked rises_from is_rising_of all_below
marked_from zero top q m = record { rises = λ p h. refl; rising = refl; below = refl; short = omega arith }
marked_from (suc k) top q m = marked_more k top q _ (eqb (m % 2) 1) (ltb q top) refl (marked_from k top (suc q) (m / 2))

pub always_few : (n : ℕ) → Always (Few n) (few n)
unfolding few
always_few zero = always_given [] (no_few 0)
always_few (suc t) =
    always_then (always_pick (suc t) (omega arith)) (λ a _.
    always_then (always_pick 256 (omega arith)) (λ m _.
    let f = marked_from 8 (suc t) a m in
    always_given _ (record { rising = f.rising; below = f.below; short = f.short })))

pub record FewPauli (n : ℕ) (P : SparsePauli) : Type 0 where
  pub x : Few n P.x
  pub z : Few n P.z

pub few_pauli : {n : ℕ} {P : SparsePauli} → FewPauli n P → PauliSound n P
few_pauli f = record { x = few_sound f.x; z = few_sound f.z }

pub always_pauli : (n : ℕ) → Always (FewPauli n) (pauli n)
unfolding pauli
always_pauli n = always_then (always_few n) (λ x fx. always_then (always_few n) (λ z fz. always_given _ (record { x = fx; z = fz })))

-- ---- cyclic

-- two numbers less than n apart have not the same remainder
pub mod_apart : (n a b : ℕ) → a < b → b < a + n → a % n ≡ b % n → ⊥
mod_apart n a b h k e = go (dec_lt (a / n) (b / n))
  where
    go : Dec (a / n < b / n) → ⊥
    go (yes l) = omega (arith, div-add-mod a n, div-add-mod b n, mul-suc n (a / n), mul-le-mul_left n l)
    go (no l) = let m : b / n ≤ a / n = omega arith in omega (arith, div-add-mod a n, div-add-mod b n, mul-le-mul_left n m)

cyclic_outside : (k n a b : ℕ) → a < b → b + k ≤ a + n → outside (cyclic k n b) (a % n) ≡ true
unfolding cyclic outside
cyclic_outside zero n a b h e = refl
cyclic_outside (suc k) n a b h e =
    and_both (ap not (ne_eqb _ _ (mod_apart n a b h (omega arith)))) (cyclic_outside k n a (suc b) (omega arith) (omega arith))

pub cyclic_length : (k n a : ℕ) → length (cyclic k n a) ≡ k
unfolding cyclic
cyclic_length zero n a = refl
cyclic_length (suc k) n a = ap suc (cyclic_length k n (suc a))

pub cyclic_below : (k n a : ℕ) → 0 < n → all_below n (cyclic k n a) ≡ true
unfolding cyclic all_below
cyclic_below zero n a h = refl
cyclic_below (suc k) n a h = and_both (lt-ltb _ _ (mod-lt a h)) (cyclic_below k n (suc a) h)

pub cyclic_apart : (k n a : ℕ) → k ≤ n → distinct (cyclic k n a) ≡ true
unfolding cyclic distinct members
cyclic_apart zero n a h = refl
cyclic_apart (suc k) n a h =
    and_both (ap (λ (b : Bool). not (not b)) (cyclic_outside k n a (suc a) (omega arith) (omega arith))) (cyclic_apart k n (suc a) (omega arith))

-- 1 to 8 of n numbers, each once
pub record Stretch (n : ℕ) (qs : List ℕ) : Type 0 where
  pub filled : 1 ≤ length qs
  pub short : length qs ≤ 8
  pub apart : distinct qs ≡ true
  pub below : all_below n qs ≡ true

pub stretch_operands : {n : ℕ} {qs : List ℕ} → Stretch n qs → Operands n qs
stretch_operands s = record { filled = s.filled; few = omega (arith, s.short); apart = s.apart; below = s.below }

pub cyclic_stretch : (k n a : ℕ) → 1 ≤ k → k ≤ 8 → k ≤ n → Stretch n (cyclic k n a)
cyclic_stretch k n a h g f =
    record {
      filled = omega (arith, cyclic_length k n a);
      short = omega (arith, cyclic_length k n a);
      apart = cyclic_apart k n a f;
      below = cyclic_below k n a (omega arith);
    }

-- with how many there are at most
pub record StretchTo (n top : ℕ) (qs : List ℕ) : Type 0 where
  pub stretch : Stretch n qs
  pub most : length qs ≤ top

pub always_stretch : (n most : ℕ) → 0 < n → 0 < most → most ≤ 8 → Always (StretchTo n most) (stretch n most)
unfolding stretch
always_stretch n most h some few =
    always_then (always_pick (min n most) (omega arith)) (λ k lk.
    always_then (always_pick n h) (λ a _.
    always_given _ (record { stretch = cyclic_stretch (suc k) n a (omega arith) (omega arith) (omega arith); most = omega (arith, cyclic_length (suc k) n a) })))

pub cyclic_permutation : (k r : ℕ) → 0 < k → is_permutation k (cyclic k k r) ≡ true
unfolding is_permutation
cyclic_permutation k r h = and_both (and_both (eq-eqb _ _ (cyclic_length k k r)) (cyclic_below k k r h)) (cyclic_apart k k r (omega arith))
