use Rattle.script.specs.Segment.{from_zero}
use Rattle.script.proofs.segments.from_0.Goals as goal

pub returns : goal.returns
unfolding from_zero
returns c = rw c.is_within.ensures
