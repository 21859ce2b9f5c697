-- `rows` is safe and ends. What is left of the text falls with each line.
use Prim.Native.Nat.{◌-◌}
use lib.ListN.{length}
use Rattle.firing_cases.proofs.rows.Given as goal

abbrev pub decreases-loop-at : goal.decreases-loop-at
decreases-loop-at g l = length l.text - l.at
