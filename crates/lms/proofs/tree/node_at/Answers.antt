use Rattle.lms.specs.Signature.{node_at}
use Rattle.lms.proofs.tree.node_at.Goals as goal

pub returns : goal.returns
unfolding node_at
returns c = rw (c.front.ensures, c.from.ensures)
