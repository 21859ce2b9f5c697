use mathlib.Core.Path.{◌≡◌}
use lib.ListN.{length}
use Rattle.opening_hours.specs.Opening.{in_order}
use Rattle.opening_hours.proofs.windows.fit.Given as goal

abbrev pub invariant-loop-rest : goal.invariant-loop-rest
invariant-loop-rest l = in_order 0 l.windows ≡ in_order l.after l.rest

abbrev pub decreases-loop-rest : goal.decreases-loop-rest
decreases-loop-rest l = length l.rest
