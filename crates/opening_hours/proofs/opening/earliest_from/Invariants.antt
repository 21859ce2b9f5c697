use lib.ListN.{length}
use Rattle.opening_hours.proofs.Search.{Searched}
use Rattle.opening_hours.proofs.opening.earliest_from.Given as goal

abbrev pub invariant-loop-rest : goal.invariant-loop-rest
invariant-loop-rest l = Searched l.hours l.minute l.length l.rest l.start l.reach

abbrev pub decreases-loop-rest : goal.decreases-loop-rest
decreases-loop-rest l = length l.rest
