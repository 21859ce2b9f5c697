use Rattle.c_layout.proofs.UserAnswers.{update-answered}
use Rattle.c_layout.proofs.user_answer.update_answer.Goals as goal

pub returns-clause-yields : goal.returns-clause-yields
returns-clause-yields c =
    let kept_of = c.kept_of-k.ensures in
    let the-take = c.take-left.ensures in
    λ key. update-answered _ _ _ _ _ _ _ _ _ _ key _ _ kept_of _ _ _ _ _ _ the-take c.lay_kept.ensures c.lay.ensures
    c.without_entry.ensures
