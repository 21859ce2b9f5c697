use mathlib.Core.Path.{refl, ◌∙◌}
use Rattle.opening_hours.proofs.InOrder.{too_many, not_in_order, overlaps, empty, too_late}
use Rattle.opening_hours.proofs.InOrder.{order-goes-on, behind-first, all-read}
use Rattle.opening_hours.proofs.windows.fit.Goals as goal
use Rattle.opening_hours.proofs.windows.fit.Goals.{then-first-after-via-then-first-after, then-first-after-via-else-first-after+then-end-first, then-first-after-via-else-first-after+else-end-first+then-end-gt-WEEK}

pub returns-then-windows-gt64 : goal.returns-then-windows-gt64
returns-then-windows-gt64 c = too_many _ c.if-windows-gt64.true

pub loop-rest-init : goal.loop-rest-init
loop-rest-init c = refl

pub returns-then-first-after : goal.returns-then-first-after
returns-then-first-after c =
    let pair = c.in-len2-up.len_at_least in
    let known = c.loop-rest.invariant in
    not_in_order _ (known ∙ elim c.then-first-after.branch [
      | then-first-after-via-then-first-after w ↦ overlaps c.loop-rest.rest.now 0 _ pair w.if-first-after.true
      | then-first-after-via-else-first-after+then-end-first w ↦ empty c.loop-rest.rest.now 0 _ pair w.if-end-first.true
      | then-first-after-via-else-first-after+else-end-first+then-end-gt-WEEK w ↦ too_late c.loop-rest.rest.now 0 _ pair w.if-end-gt-WEEK.true
    ])

pub loop-rest-preserved : goal.loop-rest-preserved
loop-rest-preserved c =
    let rest = c.loop-rest.rest.now in
    rw (behind-first rest)
    (c.loop-rest.invariant ∙ order-goes-on rest 0 _ c.in-len2-up.len_at_least c.if-first-after.false c.if-end-first.false c.if-end-gt-WEEK.false)

pub returns : goal.returns
returns c =
    rw (c.is_empty.ensures, c.is_empty-2.ensures)
    (all-read _ _ _ c.if-windows-gt64.false c.in_default.len_below c.loop-rest.invariant)
