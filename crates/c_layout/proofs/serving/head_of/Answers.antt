use Rattle.std.proofs.Common.{rules}
use Rattle.c_layout.proofs.Heads.{head_read}
use Rattle.c_layout.proofs.serving.head_of.Goals as goal
use Rattle.c_layout.proofs.serving.head_of.Goals.{then-b-le1, else-b-le1}

pub returns : goal.returns
returns c =
    head_read _ _ _ _ _ _ (search rules)
    (elim c.if-b-le1.branch [
      | then-b-le1 w ↦ search rules
      | else-b-le1 w ↦ search rules
    ])
    c.u16_at.ensures c.from.ensures c.piece.ensures c.earlier_of.ensures
