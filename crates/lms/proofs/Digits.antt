-- The digits of a string, for every width of at most eight bits.
use mathlib.Core.Path.{◌≡◌}
use mathlib.Core.List.{List}
use Prim.Native.Nat.{ℕ, ◌+◌, ◌-◌, ◌*◌, ◌/◌, ◌%◌, ◌^◌, ◌≤◌}
use native.Mathlib.Nat.{mod-lt}
use native.Mathlib.Numerals.{add-one}
use native.Mathlib.Omega.{arith}
use lib.Pow.{pow_pos, pow_mono, le_ones}
use lib.ListN.{get_or}
use Rattle.lms.specs.Ots.{coef, sum_to}

pub power_most : (w : ℕ) → w ≤ 8 → 2 ^ w ≤ 256
power_most w h = pow_mono {j = 8} h

pub power_held : (w : ℕ) → w ≤ 8 → 1 * 2 ^ w % 18446744073709551616 ≡ 2 ^ w
power_held w h = omega (arith, power_most w h)

pub coef-most : (s : List ℕ) (i w : ℕ) → coef s i w ≤ 2 ^ w - 1
unfolding coef
coef-most s i w = le_ones w (mod-lt _ (pow_pos w))

-- what the code computes of a byte is the RFC's value
pub coef-is : (s : List ℕ) (i w b : ℕ) → w ≤ 8 → b ≡ get_or s (i * w / 8) 0
    → b / 2 ^ (8 - (w * (i % (8 / w)) + w)) % (1 * 2 ^ w % 18446744073709551616) ≡ coef s i w
unfolding coef
coef-is s i w b h e = rw (power_held w h, e)

pub sum_more : (w : ℕ) (s : List ℕ) (i : ℕ) → sum_to w s (i + 1) ≡ sum_to w s i + (2 ^ w - 1 - coef s i w)
unfolding sum_to
sum_more w s i = rw add-one
