-- `filled` is safe and ends. What is left of the text falls with each piece, and there are no more pieces than bytes.
use Rattle.std.proofs.Common.{◌≤◌, ◌-◌, length}
use Rattle.programs.proofs.print.filled.Given as goal

abbrev pub invariant-loop-at : goal.invariant-loop-at
invariant-loop-at g l = l.k ≤ l.at

abbrev pub decreases-loop-at : goal.decreases-loop-at
decreases-loop-at g l = length l.what - l.at
