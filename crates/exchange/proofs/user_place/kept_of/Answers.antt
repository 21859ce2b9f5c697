use Rattle.exchange.specs.UserPlace.{kept_in}
use Rattle.lines.specs.Memory.{zeros}
use Rattle.exchange.proofs.user_place.kept_of.Goals as goal

pub returns : goal.returns
unfolding kept_in zeros
returns c = rw c.load.ensures
