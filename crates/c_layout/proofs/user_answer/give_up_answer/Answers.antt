use Rattle.c_layout.proofs.UserAnswers.{give_up_answered_lem}
use Rattle.c_layout.proofs.user_answer.give_up_answer.Goals as goal

pub returns-clause-yields : goal.returns-clause-yields
returns-clause-yields c =
    let kept_of = c.kept_of-k.ensures in
    let the-take = c.take-left.ensures in
    λ key. give_up_answered_lem _ _ _ _ _ _ _ _ _ _ key _ _ kept_of _ _ _ _ _ the-take c.lay_kept.ensures c.lay.ensures
    c.without_entry.ensures
