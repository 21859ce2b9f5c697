use Rattle.c_layout.proofs.UserCalls.{read-begun}
use Rattle.c_layout.proofs.user_start.read_start.Goals as goal

pub returns : goal.returns
returns c =
    let the-config = c.config.ensures in
    let kept_of = c.kept_of.ensures in
    let the-start = c.start-left.ensures in
    read-begun _ _ _ _ _ the-config _ _ kept_of _ _ _ _ _ _ _ _ the-start c.lay.ensures c.of.ensures
