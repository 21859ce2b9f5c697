use Rattle.std.proofs.Common.{rules}
use Rattle.c_layout.proofs.States.{write_read}
use Rattle.c_layout.proofs.user_call.write_of.Goals as goal

pub returns : goal.returns
returns c = write_read _ _ _ _ _ (search rules) c.update_of.ensures c.from.ensures c.piece.ensures c.u16_at.ensures
