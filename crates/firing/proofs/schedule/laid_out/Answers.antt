use Rattle.std.proofs.Common.{rules}
use Rattle.firing.specs.Entry.{is_schedule}
use Rattle.firing.specs.Schedule.{segment_count, laid_out}
use Rattle.firing.proofs.schedule.laid_out.Goals as goal

pub returns : goal.returns
unfolding laid_out segment_count is_schedule
returns c = rw (c.byte_at-count.ensures, c.byte_at.ensures) (search rules)
