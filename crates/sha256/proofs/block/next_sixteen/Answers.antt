use Rattle.sha256.specs.Inner.{shifted, shifted_by}
use Rattle.std.proofs.Common.{refl, ap, ◌∙◌, add-one}
use Rattle.sha256.proofs.block.next_sixteen.Goals as goal

pub loop-init : goal.loop-init
unfolding shifted_by
loop-init c = refl

pub loop-preserved : goal.loop-preserved
unfolding shifted_by
loop-preserved c = rw add-one (c.slide-next.ensures ∙ ap shifted c.loop.invariant)
