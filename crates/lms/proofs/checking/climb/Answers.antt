use mathlib.Core.Path.{◌≡◌, refl}
use native.Mathlib.Omega.{arith}
use Rattle.lms.specs.Check.{climb}
use Rattle.lms.proofs.Climbing.{climb_more}
use Rattle.lms.proofs.checking.climb.Goals as goal

pub loop-i-init : goal.loop-i-init
unfolding climb
loop-i-init c = refl

pub loop-i-preserved : goal.loop-i-preserved
loop-i-preserved c = rw (climb_more, ← c.loop-i.invariant, ← c.from.ensures, ← c.front.ensures) c.above-next.ensures

pub returns : goal.returns
returns c = let e : c.loop-i.i ≡ c.args.rows.now.lms.h = omega arith in rw e at c.loop-i.invariant
