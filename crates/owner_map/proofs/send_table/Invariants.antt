use Prim.Native.Nat.{◌-◌}
use Rattle.owner_map.proofs.Sent.{Sent}
use Rattle.owner_map.proofs.send_table.Given as goal

abbrev pub invariant-loop-done : goal.invariant-loop-done
invariant-loop-done g l = Sent l.n l.last l.out l.sent l.done

abbrev pub decreases-loop-done : goal.decreases-loop-done
decreases-loop-done g l = l.last - l.done
