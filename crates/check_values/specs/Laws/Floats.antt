-- Floats that passed their tests. Laws. Assumes nothing.
use Rattle.std.specs.Prelude.{ℕ, ◌%◌, ◌≡◌, Bool, not, ltb, Float, Some, None, is_some}
use Rattle.std.proofs.Common.{arith, sym, ◌∙◌, true≢false}
use Rattle.std.proofs.Math.Path.{refl}
use Rattle.std.proofs.Math.Bool.{true, false}
use Rattle.std.specs.Float.Ieee.{nan, of_bits, is_nan, lt}
use Rattle.std.specs.Float.{inf, fin, binary64}
use Rattle.std.specs.Float.Ieee.Bits.{nan_bits_is, nan_bits_above}
use Rattle.job.specs.Float.{zero_float, one, is_probability, is_weight_of, is_total}
use Rattle.check_values.specs.Floats.{only_if}

-- a NaN's bits, by one comparison
pub nan_test : (b : ℕ) → is_nan (of_bits binary64 b) ≡ ltb 9218868437227405312 (b % 9223372036854775808)
nan_test b = sym (nan_bits_is binary64 b) ∙ nan_bits_above binary64 b

-- the two tests of a weight: below zero, then below infinity
pub weight_below : (x : Float) → lt x zero_float ≡ true → false ≡ is_weight_of x
unfolding is_weight_of
weight_below x e = rw e

pub weight_else : (x : Float) → lt x zero_float ≡ false → lt x (of_bits binary64 9218868437227405312) ≡ is_weight_of x
unfolding is_weight_of lt of_bits
weight_else nan e = refl
weight_else (inf true) e = absurd (true≢false e)
weight_else (inf false) e = refl
weight_else (fin s m d) e = rw e

-- the two tests of a total: above zero, then below infinity
pub total_above : (x : Float) → lt zero_float x ≡ true → lt x (of_bits binary64 9218868437227405312) ≡ is_total x
unfolding is_total lt of_bits
total_above nan e = absurd (true≢false (sym e))
total_above (inf true) e = absurd (true≢false (sym e))
total_above (inf false) e = refl
total_above (fin s m d) e = rw e

pub total_else : (x : Float) → lt zero_float x ≡ false → false ≡ is_total x
unfolding is_total
total_else x e = rw e

-- ---- what the option says

pub only_accepted : (b : Bool) (x : Float) {p : Float} → Some p ≡ only_if b x → (b ≡ true) × (x ≡ p)
unfolding only_if
only_accepted true x e = (refl, cc)
only_accepted false x e = let z : ◌≡◌ {A = ℕ} 0 1 = cc in absurd (omega arith)

pub only_refused : (b : Bool) (x : Float) → None ≡ only_if b x → b ≡ false
unfolding only_if
only_refused true x e = let z : ◌≡◌ {A = ℕ} 0 1 = cc in absurd (omega arith)
only_refused false x e = refl

pub only_some : (b : Bool) (x : Float) → is_some (only_if b x) ≡ b
unfolding only_if
only_some true x = refl
only_some false x = refl

refused : (b : Bool) (x : Float) → b ≡ false → None ≡ only_if b x
unfolding only_if
refused b x e = rw e

accepted : (b : Bool) (x : Float) {p : Float} → b ≡ true → x ≡ p → Some p ≡ only_if b x
unfolding only_if
accepted b x e q = rw (e, q)

is_nan_lem : (x : Float) → None ≡ only_if (not (is_nan x)) x → is_nan x ≡ true
is_nan_lem x e = go (is_nan x) (only_refused _ x e)
  where
    go : (b : Bool) → not b ≡ false → b ≡ true
    go true k = refl
    go false k = absurd (true≢false k)

-- no number, a number that fails, a number that passes
module _ (x : Float) where
  pub no_probability : None ≡ only_if (not (is_nan x)) x → None ≡ only_if (is_probability x) x
  unfolding is_probability
  no_probability e = refused _ x (rw (is_nan_lem x e))

  pub no_weight : None ≡ only_if (not (is_nan x)) x → None ≡ only_if (is_weight_of x) x
  unfolding is_weight_of
  no_weight e = refused _ x (go x (is_nan_lem x e))
    where
      go : (y : Float) → is_nan y ≡ true → is_weight_of y ≡ false
      go nan k = unfold is_weight_of lt in refl
      go (inf s) k = unfold is_nan in absurd (true≢false (sym k))
      go (fin s m d) k = unfold is_nan in absurd (true≢false (sym k))

  module _ {p : Float} (e : Some p ≡ only_if (not (is_nan x)) x) where
    pub above_one : lt one p ≡ true → None ≡ only_if (is_probability x) x
    unfolding is_probability
    above_one h = let parts = only_accepted _ x e in refused _ x (rw (parts.0, parts.1, h))

    pub not_above_one : lt one p ≡ false → Some p ≡ only_if (is_probability x) x
    unfolding is_probability
    not_above_one h = let parts = only_accepted _ x e in accepted _ x (rw (parts.0, parts.1, h)) parts.1

    pub weight_fails : is_weight_of p ≡ false → None ≡ only_if (is_weight_of x) x
    weight_fails h = refused _ x (rw (only_accepted _ x e).1 h)

    pub weight_passes : is_weight_of p ≡ true → Some p ≡ only_if (is_weight_of x) x
    weight_passes h = accepted _ x (rw (only_accepted _ x e).1 h) (only_accepted _ x e).1
