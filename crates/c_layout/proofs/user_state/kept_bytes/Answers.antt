use Rattle.std.proofs.Common.{rules}
use Rattle.c_layout.proofs.States.{kept-laid}
use Rattle.c_layout.proofs.user_state.kept_bytes.Goals as goal

pub returns : goal.returns
returns c = kept-laid _ _ _ _ _ (search rules) c.be4.ensures c.be4-n.ensures c.put2.ensures c.put.ensures
