use Rattle.std.proofs.Common.{rules}
use Rattle.firing.specs.Schedule.{segment_fits}
use Rattle.firing.proofs.segment.fits.Goals as goal

pub returns : goal.returns
unfolding segment_fits
returns c = rw (c.unsigned_abs.ensures.value, c.sign_fits.ensures) (search rules)
