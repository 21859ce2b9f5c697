-- `print_rows` is safe and ends: it has a turn for each row.
use Prim.Native.Nat.{◌≤◌}
use Rattle.firing_text.proofs.curve.print_rows.Given as goal

abbrev pub invariant-loop-row : goal.invariant-loop-row
invariant-loop-row g l = l.row ≤ 10

abbrev pub decreases-loop-row : goal.decreases-loop-row
decreases-loop-row g l = l.row
