-- Four bytes by a number below 16.
use Prim.Native.Nat.{ℕ, ◌*◌, ◌≤◌, ◌<◌}
use native.Mathlib.Nat.{mul-le-mul}
use native.Mathlib.Omega.{arith}
use Rattle.exchange.proofs.run.times.Goals as goal

below : (n k : ℕ) → n < 4294967296 → k ≤ 15 → n * k ≤ 64424509425
below n k f l =
    let r : n ≤ 4294967295 = omega arith in
    let h : n * k ≤ 4294967295 * 15 = mul-le-mul r l in
    omega arith

pub overflow_mul-result : goal.overflow_mul-result
overflow_mul-result c = let h = below _ _ c.ranges.n.fits c.requires in record { fits = omega arith }

pub returns : goal.returns
returns c = below _ _ c.ranges.n.fits c.requires
