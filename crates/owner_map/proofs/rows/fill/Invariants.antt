use Prim.Native.Nat.{◌-◌}
use Rattle.owner_map.proofs.Pieces.{Laid}
use Rattle.owner_map.proofs.rows.fill.Given as goal

abbrev pub invariant-loop-p : goal.invariant-loop-p
invariant-loop-p l = Laid l.n l.done l.last l.initial.out l.p l.out l.at

abbrev pub decreases-loop-p : goal.decreases-loop-p
decreases-loop-p l = l.last - l.p
