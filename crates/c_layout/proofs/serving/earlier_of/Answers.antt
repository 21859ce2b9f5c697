use Rattle.std.proofs.Common.{rules}
use Rattle.c_layout.proofs.Heads.{earlier_read}
use Rattle.c_layout.proofs.serving.earlier_of.Goals as goal

pub returns : goal.returns
returns c = earlier_read _ _ _ _ _ (search rules) c.u32_at.ensures c.u16_at.ensures c.from.ensures c.piece.ensures
