use Rattle.exchange.proofs.Steps.{step-laid}
use Rattle.exchange.proofs.user_place.step_bytes.Goals as goal

pub returns : goal.returns
returns c =
    let args = c.args in
    let the-be2 = c.be2-a.ensures in
    let be22 = c.be2-n.ensures in
    step-laid _ args.asked _ _ the-be2 be22
