use Rattle.user.specs.Outcome.{nothing}
use Rattle.c_layout.proofs.user_start.Asked.without_entry.Goals as goal

pub returns : goal.returns
unfolding nothing
returns c = c.of.ensures
