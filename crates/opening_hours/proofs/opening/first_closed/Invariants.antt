use mathlib.Core.Path.{◌≡◌}
use lib.ListN.{length}
use Rattle.opening_hours.specs.Inner.{first_closed}
use Rattle.opening_hours.proofs.opening.first_closed.Given as goal

abbrev pub invariant-loop-rest : goal.invariant-loop-rest
invariant-loop-rest l = first_closed 0 l.hours ≡ first_closed l.closed l.rest

abbrev pub decreases-loop-rest : goal.decreases-loop-rest
decreases-loop-rest l = length l.rest
