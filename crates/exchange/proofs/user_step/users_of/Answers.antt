use Rattle.exchange.specs.UserStep.{users_in}
use Rattle.exchange.proofs.user_step.users_of.Goals as goal

pub returns : goal.returns
unfolding users_in
returns c = rw (c.front.ensures, c.from.ensures)
