use Rattle.sha256.specs.Block.{T1}
use Rattle.std.proofs.Common.{arith}
use Rattle.sha256.proofs.block.t1.Goals as goal

pub returns : goal.returns
unfolding T1
returns c = omega (arith, c.ch.ensures, c.big_sigma1.ensures)
