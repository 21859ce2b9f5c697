use Rattle.c_layout.proofs.States.{mark_cast}
use Rattle.c_layout.proofs.UserCalls.{settled_answered}
use Rattle.c_layout.proofs.user_start.settled.Goals as goal

pub returns : goal.returns
returns c =
    let the-config = c.config.ensures in
    let kept_of = c.kept_of.ensures in
    let the-settled = c.settled-given.ensures in
    settled_answered _ _ _ _ _ the-config _ _ kept_of _ _ _ the-settled (mark_cast _)
