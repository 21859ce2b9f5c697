-- `lines` answers a count within the text. What is left of the text falls with each line.
use Rattle.std.proofs.Common.{◌≤◌, ◌-◌, length}
use Rattle.sha256_vectors.proofs.file.lines.Given as goal

abbrev pub invariant-loop-at : goal.invariant-loop-at
invariant-loop-at g l = l.at ≤ length l.text

abbrev pub decreases-loop-at : goal.decreases-loop-at
decreases-loop-at g l = length l.text - l.at
