-- `million` is safe and ends, after 1,000 parts.
use Rattle.std.proofs.Common.{◌≤◌, ◌-◌}
use Rattle.sha256_vectors.proofs.fill.million.Given as goal

abbrev pub invariant-loop-i : goal.invariant-loop-i
invariant-loop-i g l = l.i ≤ 1000

abbrev pub decreases-loop-i : goal.decreases-loop-i
decreases-loop-i g l = 1000 - l.i
