-- Two bytes by four bytes: the product is below 2^48.
use Prim.Native.Nat.{ℕ, ◌*◌, ◌≤◌, ◌<◌}
use native.Mathlib.Nat.{mul-le-mul}
use native.Mathlib.Omega.{arith}
use Rattle.firing_text.proofs.curve.product.Goals as goal

below : (a b : ℕ) → a < 65536 → b < 4294967296 → a * b < 281474976710656
below a b f g =
    let l : a ≤ 65535 = omega arith in
    let r : b ≤ 4294967295 = omega arith in
    let h : a * b ≤ 65535 * 4294967295 = mul-le-mul l r in
    omega arith

pub overflow_mul-result : goal.overflow_mul-result
overflow_mul-result c = let h = below _ _ c.ranges.a.fits c.ranges.b.fits in record { fits = omega arith }

pub returns : goal.returns
returns c = below _ _ c.ranges.a.fits c.ranges.b.fits
