use Rattle.std.proofs.Common.{rules}
use Rattle.c_layout.proofs.States.{rest-laid}
use Rattle.c_layout.proofs.user_call.write_rest.Goals as goal

pub returns : goal.returns
returns c = rest-laid c.args.w _ _ _ (search rules) c.be2-n.ensures c.put2.ensures c.put.ensures
