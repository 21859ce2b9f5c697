-- `checkpoint` is safe and ends. The three digests keep their length.
use Rattle.std.proofs.Common.{◌≡◌, ◌≤◌, ◌-◌, length}
use Rattle.sha256_vectors.proofs.monte.checkpoint.Given as goal

abbrev pub invariant-loop-i : goal.invariant-loop-i
invariant-loop-i l = (l.i ≤ 1000) × ((length l.a ≡ 32) × ((length l.b ≡ 32) × (length l.c ≡ 32)))

abbrev pub decreases-loop-i : goal.decreases-loop-i
decreases-loop-i l = 1000 - l.i
