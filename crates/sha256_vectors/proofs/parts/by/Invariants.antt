-- `by` is safe and ends. What is left of the message falls with each part.
use Rattle.std.proofs.Common.{◌≤◌, ◌-◌, length}
use Rattle.sha256_vectors.proofs.parts.by.Given as goal

abbrev pub invariant-loop-at : goal.invariant-loop-at
invariant-loop-at g l = l.at ≤ length l.message

abbrev pub decreases-loop-at : goal.decreases-loop-at
decreases-loop-at g l = length l.message - l.at
