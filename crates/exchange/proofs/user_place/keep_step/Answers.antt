use Rattle.exchange.proofs.Steps.{be-two-mod}
use Rattle.exchange.specs.UserPlace.{step_laid}
use Prim.Native.Nat.{◌%◌}
use borrow.Author.Tests.{eq-eqb, ne_eqb}
use Rattle.exchange.proofs.user_place.keep_step.Goals as goal

pub returns-then-asked-eq0 : goal.returns-then-asked-eq0
unfolding step_laid
returns-then-asked-eq0 c =
    let args = c.args in
    let at-0 = c.at-at.ensures.0 in
    let the-of = c.of.ensures in
    let last-start = c.last_start.ensures in
    let step-bytes = c.step_bytes-given.ensures in
    let the-put = c.put.ensures in
    let if1-taken = c.if-asked-eq0.true in
    let the-be2 = c.be2-length.ensures in
    let the-put2 = c.put2.ensures in
    rw (
      the-put2,
      the-be2,
      be-two-mod args.asked.length,
      the-put,
      step-bytes,
      last-start,
      the-of,
      at-0,
      eq-eqb (args.asked.ended % 256) 0 if1-taken,
    )

pub returns-else-asked-eq0 : goal.returns-else-asked-eq0
unfolding step_laid
returns-else-asked-eq0 c =
    let args = c.args in
    let at-0 = c.at-at.ensures.0 in
    let the-of = c.of.ensures in
    let last-start = c.last_start.ensures in
    let step-bytes = c.step_bytes-given.ensures in
    let the-put = c.put.ensures in
    rw (the-put, step-bytes, last-start, the-of, at-0, ne_eqb (args.asked.ended % 256) 0 c.if-asked-eq0.false)
