use Rattle.exchange.proofs.Steps.{step_left}
use Rattle.exchange.specs.UserStep.{step_made}
use Rattle.lines.specs.Memory.{zeros}
use Rattle.exchange.proofs.user_step.on.Goals as goal

pub returns : goal.returns
unfolding step_made zeros
returns c =
    let args = c.args in
    let the-load = c.load.ensures in
    let load2 = c.load-2.ensures in
    let load3 = c.load-3.ensures in
    let on_call = c.on_call-asked.ensures in
    let lay-state = c.lay_state.ensures in
    step_left args.at args.world.now _ _ _ _ _ _ _ (rw (the-load, load2, load3) at on_call) lay-state
