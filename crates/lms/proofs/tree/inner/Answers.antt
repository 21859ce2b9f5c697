use Rattle.lms.specs.Tree.{inner}
use Rattle.lms.proofs.tree.inner.Goals as goal

pub returns : goal.returns
unfolding inner
returns c = rw (← c.prefix.ensures) c.hash3.ensures
