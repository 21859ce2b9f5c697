use Rattle.c_layout.proofs.States.{read-laid}
use Rattle.c_layout.proofs.user_call.read_bytes.Goals as goal

pub returns : goal.returns
returns c = read-laid _ _ _ c.be4-p.ensures c.be2-n.ensures
