use Rattle.sha256.proofs.Window.{slid}
use Rattle.std.proofs.Common.{arith}
use Rattle.sha256.proofs.block.slide.Goals as goal

pub returns : goal.returns
returns c = slid _ c.small_sigma1.ensures c.small_sigma0.ensures (omega arith)
