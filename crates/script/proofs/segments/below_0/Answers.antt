use Rattle.script.specs.Segment.{below_zero}
use Rattle.script.proofs.segments.below_0.Goals as goal

pub returns : goal.returns
unfolding below_zero
returns c = rw c.is_within.ensures
