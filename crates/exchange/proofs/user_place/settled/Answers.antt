use Rattle.exchange.specs.UserPlace.{settled_on}
use Rattle.exchange.proofs.user_place.settled.Goals as goal

pub returns : goal.returns
unfolding settled_on
returns c = rw (c.settled.ensures, c.front-users.ensures, c.kept_of-kept.ensures)
