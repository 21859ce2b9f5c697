use Rattle.exchange.proofs.Served.{head_read}
use Rattle.exchange.proofs.server_place.head_of.Goals as goal

pub returns : goal.returns
returns c = rw (c.put.ensures, c.front.ensures) (head_read _ c.requires)
