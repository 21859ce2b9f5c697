use Rattle.exchange.proofs.Steps.{lent-loaded, part_loaded, call-left}
use Rattle.exchange.specs.UserStep.{call_laid}
use Rattle.c_layout.specs.User.{user_lent}
use Rattle.lines.specs.Memory.{zeros}
use Rattle.exchange.proofs.user_step.on_call.Goals as goal

pub returns : goal.returns
unfolding zeros call_laid
returns c =
    let args = c.args in
    let at_most = c.at_most-n in
    let at-most2 = c.at_most-k in
    let the-load = c.load.ensures in
    let load2 = c.load-2.ensures in
    let load3 = c.load-3.ensures in
    let load4 = c.load-4.ensures in
    let load5 = c.load-5.ensures in
    let users-of = c.users_of.ensures in
    let tree_of = c.tree_of.ensures in
    let the_lent = c.lent-asked.ensures in
    let lay-call = c.lay_call.ensures in
    let the-put = c.put.ensures in
    let put2 = c.put-2.ensures in
    let request = part_loaded _ args.world.now args.at.request _ _ 2566 load4 at_most.ensures.0 at_most.ensures.1 in
    let entry = part_loaded _ args.world.now args.at.entry _ _ 1024 load5 at-most2.ensures.0 at-most2.ensures.1 in
    let loads = lent-loaded args.s args.at _ _ _ _ args.world.now _ _ _ _ _ _ _ users-of tree_of the-load load2 load3 request
    entry in
    call-left args.at args.world.now _ _ (user_lent _ _ _ _ _ _ _ _) _ the_lent (rw (put2, the-put, lay-call)) _ loads
