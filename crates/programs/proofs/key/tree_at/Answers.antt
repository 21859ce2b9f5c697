use Rattle.programs.specs.Key.{tree_at}
use borrow.Author.Rules.{rules}
use Rattle.programs.proofs.key.tree_at.Goals as goal

pub returns : goal.returns
unfolding tree_at
returns c = (rw c.before-2.ensures.0, search rules)
