use Rattle.std.proofs.Common.{rules}
use Rattle.c_layout.proofs.States.{kept_read}
use Rattle.c_layout.proofs.user_state.kept_of.Goals as goal
use Rattle.c_layout.proofs.user_state.kept_of.Goals.{then-marks_fit, else-marks_fit}

pub returns : goal.returns
returns c =
    let fits = c.marks_fit.ensures in
    kept_read _ _ _ _ _ _ (search rules)
    (elim c.if-marks_fit.branch [
      | then-marks_fit w ↦ search rules
      | else-marks_fit w ↦ search rules
    ])
    c.from.ensures c.piece.ensures c.u32_at.ensures c.progress_of.ensures
