use Rattle.firing.specs.Entry.{strikes}
use Rattle.firing.proofs.entry.is_strike.Goals as goal

pub returns : goal.returns
unfolding strikes
returns c = rw c.byte_at.ensures
