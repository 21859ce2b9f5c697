use Rattle.std.proofs.Common.{rules}
use Rattle.c_layout.proofs.States.{update-laid}
use Rattle.c_layout.proofs.user_call.update_bytes.Goals as goal

pub returns : goal.returns
returns c = update-laid _ _ _ _ _ _ (search rules) c.be4-g.ensures c.be4-l.ensures c.be4-p.ensures c.put2.ensures
