use Rattle.c_layout.proofs.UserCalls.{give_up_begun_lem}
use Rattle.c_layout.proofs.user_start.give_up_start.Goals as goal

pub returns : goal.returns
returns c =
    let the-config = c.config.ensures in
    let kept_of = c.kept_of.ensures in
    let the-start = c.start-left.ensures in
    let lay-kept = c.lay_kept.ensures in
    give_up_begun_lem _ _ _ _ _ the-config _ _ kept_of _ _ _ _ _ _ _ _ the-start lay-kept c.lay.ensures
    c.without_entry.ensures
