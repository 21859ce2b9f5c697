use Rattle.std.proofs.Common.{rules}
use Rattle.c_layout.proofs.States.{update-read}
use Rattle.c_layout.proofs.user_call.update_of.Goals as goal

pub returns : goal.returns
returns c =
    update-read _ _ _ _ _ _ (search rules) c.u32_at.ensures c.u32_at-2.ensures c.u32_at-3.ensures c.from.ensures c.piece.ensures
