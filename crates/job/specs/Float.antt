-- Definitions. p and w are binary64 bits: what the tests ask of them, and sums of weights. Assumes nothing.
use Rattle.std.specs.Prelude.{ℕ, Bool, true, false, not, ◌&&◌, List, [], ◌∷◌, Float}
use Rattle.std.specs.Float.{nan, inf, fin, binary64}
use Rattle.std.specs.Float.Ieee.{of_bits, is_nan, add, lt}

-- what a bit pattern stands for
abbrev pub float : ℕ → Float
float bits = of_bits binary64 bits

-- 0.0 and 1.0
abbrev pub zero_float : Float
zero_float = float 0

abbrev pub one : Float
one = float 0x3ff0_0000_0000_0000

abbrev pub is_finite : Float → Bool
is_finite nan = false
is_finite (inf s) = false
is_finite (fin s m e) = true

-- weights are summed from the left in binary64
unfoldable pub total_from : Float → List Float → Float
total_from t [] = t
total_from t (w ∷ ws) = total_from (add binary64 t w) ws

-- a probability: no NaN, and not above 1
unfoldable pub is_probability : Float → Bool
is_probability p = not (is_nan p) && not (lt one p)

-- a weight: not below zero, and finite (-0 passes)
unfoldable pub is_weight_of : Float → Bool
is_weight_of w = not (lt w zero_float) && is_finite w

-- a total: above zero, and finite
unfoldable pub is_total : Float → Bool
is_total t = lt zero_float t && is_finite t
