use Rattle.sha256.specs.Block.{T2}
use Rattle.std.proofs.Common.{arith}
use Rattle.sha256.proofs.block.t2.Goals as goal

pub returns : goal.returns
unfolding T2
returns c = omega (arith, c.maj.ensures, c.big_sigma0.ensures)
