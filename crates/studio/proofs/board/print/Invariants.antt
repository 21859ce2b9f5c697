-- `print` is safe and ends: it has a turn for each entry.
use Prim.Native.Nat.{◌≤◌, ◌-◌}
use Rattle.studio.proofs.board.print.Given as goal

abbrev pub invariant-loop-k : goal.invariant-loop-k
invariant-loop-k g l = l.k ≤ l.n

abbrev pub decreases-loop-k : goal.decreases-loop-k
decreases-loop-k g l = l.n - l.k
