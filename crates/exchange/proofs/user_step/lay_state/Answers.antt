use Rattle.exchange.specs.UserStep.{laid3}
use Rattle.exchange.proofs.user_step.lay_state.Goals as goal

pub returns : goal.returns
unfolding laid3
returns c =
    let the-put = c.put.ensures in
    let put2 = c.put-2.ensures in
    let put3 = c.put-3.ensures in
    rw (put3, put2, the-put)
