use Rattle.exchange.specs.UserPlace.{request_of}
use Rattle.exchange.proofs.user_place.request_of.Goals as goal

pub returns : goal.returns
unfolding request_of
returns c = rw (c.front.ensures, c.u16_at.ensures, c.from.ensures)
