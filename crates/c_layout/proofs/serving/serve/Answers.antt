use Rattle.std.proofs.Common.{rules, arith}
use Rattle.c_layout.proofs.Heads.{called, answer-small, head-left}
use Rattle.c_layout.proofs.serving.serve.Goals as goal
use Rattle.c_layout.proofs.serving.serve.Goals.{then-reply-eq0, else-reply-eq0}

pub overflow_cast-result-2 : goal.overflow_cast-result-2
overflow_cast-result-2 c =
    let small = answer-small (called c.config-config.ensures c.head_of-h.ensures c.serve_lent-reply.ensures) in
    omega (arith, small)

pub returns : goal.returns
returns c =
    head-left (called c.config-config.ensures c.head_of-h.ensures c.serve_lent-reply.ensures) _
    (elim c.if-reply-eq0.branch [ then-reply-eq0 w ↦ search rules | else-reply-eq0 w ↦ search rules ])
