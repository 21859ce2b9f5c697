use Rattle.c_layout.proofs.UserCalls.{update-begun}
use Rattle.c_layout.proofs.user_start.update_start.Goals as goal

pub returns : goal.returns
returns c =
    let the-config = c.config.ensures in
    let kept_of = c.kept_of.ensures in
    let the-start = c.start-left.ensures in
    update-begun _ _ _ _ _ the-config _ _ kept_of _ _ _ _ _ _ the-start c.lay.ensures c.without_entry.ensures
