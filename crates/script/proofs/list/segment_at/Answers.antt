use Rattle.script.specs.Listed.{segment_item}
use Rattle.script.proofs.list.segment_at.Goals as goal

pub returns : goal.returns
unfolding segment_item
returns c = rw c.segment-s.ensures
