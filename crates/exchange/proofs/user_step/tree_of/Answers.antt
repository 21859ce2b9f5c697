use Rattle.exchange.specs.UserStep.{tree_in}
use Rattle.exchange.proofs.user_step.tree_of.Goals as goal

pub returns : goal.returns
unfolding tree_in
returns c = rw (c.front.ensures, c.from.ensures)
