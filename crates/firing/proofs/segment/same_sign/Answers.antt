use mir.Facts.{to_z-of_z}
use Rattle.firing.proofs.Signed.{signs-told}
use Rattle.firing.proofs.segment.same_sign.Goals as goal

pub returns : goal.returns
returns c =
    rw (c.signum.ensures.value, c.signum-2.ensures.value, to_z-of_z c.ranges.a, to_z-of_z c.ranges.b) (signs-told c.args.a c.args.b)
