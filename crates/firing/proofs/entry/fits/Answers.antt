use Rattle.std.proofs.Common.{rules}
use Rattle.firing.specs.Entry.{entry_fits, is_schedule}
use Rattle.firing.proofs.entry.fits.Goals as goal

pub returns : goal.returns
unfolding entry_fits is_schedule
returns c = rw (c.byte_at-first.ensures, c.is_strike.ensures) (search rules)
