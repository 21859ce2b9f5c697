use Rattle.sha256.specs.Block.{round}
use Rattle.sha256.proofs.block.round.Goals as goal

pub returns : goal.returns
unfolding round
returns c = rw (c.t1-x.ensures, c.t2-y.ensures)
