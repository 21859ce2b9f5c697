use Rattle.exchange.specs.UserStep.{step_lent}
use borrow.Author.Tests.{eq-eqb, ne_eqb}
use Rattle.exchange.proofs.user_step.lent.Goals as goal

pub returns-then-s-ne0 : goal.returns-then-s-ne0
unfolding step_lent
returns-then-s-ne0 c =
    let args = c.args in
    let if1-taken = c.if-s-ne0.true in
    let the-start = c.start.ensures in
    rw (ne_eqb args.s.kind 0 if1-taken) (the-start _ _)

pub returns : goal.returns
unfolding step_lent
returns c =
    let args = c.args in
    let if1-left = c.if-s-ne0.false in
    let the-take = c.take.ensures in
    rw (eq-eqb args.s.kind 0 if1-left) the-take
