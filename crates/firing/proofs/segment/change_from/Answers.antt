use native.Mathlib.Omega.{arith}
use Rattle.firing.specs.Schedule.{change}
use Rattle.firing.proofs.Signed.{difference_fits, difference}
use Rattle.firing.proofs.segment.change_from.Goals as goal

pub overflow_sub-result : goal.overflow_sub-result
overflow_sub-result c =
    let t = c.struct_known-1.given in
    let b = c.ranges.before.fits in
    difference_fits c.args.s.target c.args.before (omega arith) (omega arith)

pub returns : goal.returns
unfolding change
returns c =
    let t = c.struct_known-1.given in
    let b = c.ranges.before.fits in
    difference c.args.s.target c.args.before (omega arith) (omega arith)
