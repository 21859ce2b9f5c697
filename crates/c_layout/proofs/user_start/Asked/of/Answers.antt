use Rattle.c_layout.specs.User.{asked_of}
use Rattle.c_layout.proofs.States.{mark_cast}
use Rattle.c_layout.proofs.user_start.Asked.of.Goals as goal

pub returns : goal.returns
unfolding asked_of
returns c = rw (mark_cast c.args.s.ended)
