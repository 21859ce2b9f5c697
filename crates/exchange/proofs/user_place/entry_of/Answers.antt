use Rattle.exchange.specs.UserPlace.{entry_of}
use Rattle.exchange.proofs.user_place.entry_of.Goals as goal

pub returns : goal.returns
unfolding entry_of
returns c = rw (c.front.ensures, c.u16_at.ensures, c.from.ensures)
