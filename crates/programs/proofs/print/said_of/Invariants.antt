-- `said_of` is safe and ends. What is left of the table falls with each line.
use Rattle.std.proofs.Common.{◌≤◌, ◌-◌, length}
use Rattle.programs.proofs.print.said_of.Given as goal

abbrev pub invariant-loop-at : goal.invariant-loop-at
invariant-loop-at g l = 0 ≤ l.at

abbrev pub decreases-loop-at : goal.decreases-loop-at
decreases-loop-at g l = length l.table - l.at
