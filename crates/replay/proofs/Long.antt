-- How long an array of one number is. Assumes nothing.
use Prim.Native.Nat.{ℕ}
use mathlib.Core.Path.{◌≡◌, sym}
use lib.ListN.{length, replicate, length-replicate}

pub long : (n v : ℕ) → n ≡ length {A = ℕ} (replicate n v)
long n v = sym (length-replicate n v)
