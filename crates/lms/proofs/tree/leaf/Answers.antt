use Rattle.lms.specs.Tree.{leaf}
use Rattle.lms.proofs.tree.leaf.Goals as goal

pub returns : goal.returns
unfolding leaf
returns c = rw (← c.prefix.ensures) c.hash2.ensures
