-- `run` is safe and ends. What is left of the most that is read falls with each turn.
use Rattle.std.proofs.Common.{◌≤◌, ◌-◌}
use Rattle.sha256_vectors.proofs.file.run.Given as goal

abbrev pub invariant-loop-at : goal.invariant-loop-at
invariant-loop-at g l = l.at ≤ 1000065536

abbrev pub decreases-loop-at : goal.decreases-loop-at
decreases-loop-at g l = 1000065536 - l.at
