use Rattle.exchange.specs.UserPlace.{step_on}
use Rattle.exchange.proofs.user_place.step.Goals as goal

pub returns : goal.returns
unfolding step_on
returns c =
    let the-layout = c.layout-at.ensures in
    let made-with = c.made_with.ensures in
    let the-on = c.on-asked in
    let keep-step = c.keep_step.ensures in
    rw (keep-step, the-on.ensures.1, the-on.ensures.0, made-with, the-layout)
