use mathlib.Core.Path.{◌∙◌}
use Rattle.c_layout.proofs.UserAnswers.{stray_answered}
use Rattle.c_layout.proofs.user_answer.stray_answer.Goals as goal

pub returns : goal.returns
returns c =
    let kept_of = c.kept_of-k.ensures in
    λ key. stray_answered _ _ _ _ _ _ _ _ _ _ key _ _ kept_of _ _ _ c.request_room-room.ensures c.judge_stray-refusal.ensures
    (c.refused.ensures ∙ rw c.number.ensures) c.without_entry.ensures
