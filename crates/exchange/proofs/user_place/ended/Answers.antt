use Rattle.exchange.specs.UserPlace.{has_ended}
use Rattle.exchange.proofs.user_place.ended.Goals as goal

pub returns : goal.returns
unfolding has_ended
returns c = rw c.byte_at.ensures
