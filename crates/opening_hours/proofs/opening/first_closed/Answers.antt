use mathlib.Core.Path.{refl, sym, ◌∙◌}
use Rattle.opening_hours.proofs.InOrder.{behind-first, run-goes-on, run_ends, run-passed}
use Rattle.opening_hours.proofs.opening.first_closed.Goals as goal

pub loop-rest-init : goal.loop-rest-init
loop-rest-init c = refl

pub returns-then-first-closed : goal.returns-then-first-closed
returns-then-first-closed c =
    sym (c.loop-rest.invariant ∙ run_ends c.loop-rest.rest.now 0 _ c.in-len2-up.len_at_least c.if-first-closed.true)

pub loop-rest-preserved : goal.loop-rest-preserved
loop-rest-preserved c =
    let rest = c.loop-rest.rest.now in
    rw (behind-first rest) (c.loop-rest.invariant ∙ run-goes-on rest 0 _ c.in-len2-up.len_at_least c.if-first-closed.false)

pub returns : goal.returns
returns c = sym (c.loop-rest.invariant ∙ run-passed _ _ c.in_default.len_below)
