-- `find` answers a place within s. What is left of s falls with each turn.
use Rattle.std.proofs.Common.{◌≤◌, ◌-◌, length}
use Rattle.sha256_vectors.proofs.file.find.Given as goal

abbrev pub invariant-loop-at : goal.invariant-loop-at
invariant-loop-at l = (l.i ≤ l.at) × (l.at ≤ length l.s)

abbrev pub decreases-loop-at : goal.decreases-loop-at
decreases-loop-at l = length l.s - l.at
