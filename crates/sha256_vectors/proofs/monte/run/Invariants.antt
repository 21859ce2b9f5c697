-- `run` is safe and ends, after 100 checkpoints.
use Rattle.std.proofs.Common.{◌≤◌, ◌-◌}
use Rattle.sha256_vectors.proofs.monte.run.Given as goal

abbrev pub invariant-loop-i : goal.invariant-loop-i
invariant-loop-i g l = l.i ≤ 100

abbrev pub decreases-loop-i : goal.decreases-loop-i
decreases-loop-i g l = 100 - l.i
