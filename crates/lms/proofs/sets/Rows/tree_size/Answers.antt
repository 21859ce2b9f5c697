use Rattle.lms.specs.Tree.{tree_size}
use Rattle.lms.proofs.Growth.{nodes-held}
use Rattle.lms.proofs.sets.Rows.tree_size.Goals as goal

pub returns : goal.returns
unfolding tree_size
returns c = rw (nodes-held c.args.self.now.lms.h c.args.self.now.is_low)
