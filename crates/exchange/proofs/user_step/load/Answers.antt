use Rattle.exchange.specs.UserStep.{loaded}
use Rattle.exchange.proofs.user_step.load.Goals as goal

pub returns : goal.returns
unfolding loaded
returns c =
    let the-from = c.from.ensures in
    let the-front = c.front.ensures in
    let the-put = c.put.ensures in
    rw (the-put, the-front, the-from)
