use mathlib.Core.Path.{◌≡◌}
use mathlib.Core.List.{append_assoc, append-nil}
use native.Mathlib.Omega.{arith}
use Rattle.lms.specs.Types.{cat}
use Rattle.lms.specs.Ots.{chain_end, ends_hash, K}
use Rattle.lms.proofs.Parts.{cat_more}
use Rattle.lms.proofs.onetime.public_hash.Goals as goal

pub loop-i-init : goal.loop-i-init
unfolding cat
loop-i-init c = rw (append-nil, ← c.prefix.ensures) c.begin-ends.ensures

pub loop-i-preserved : goal.loop-i-preserved
loop-i-preserved c = rw (cat_more, ← append_assoc, ← c.opened.ensures) (c.update-ends.ensures _ c.loop-i.invariant)

pub returns : goal.returns
unfolding K ends_hash chain_end
returns c =
    let e : c.loop-i.i ≡ c.args.rows.now.ots.p = omega arith in
    c.finish.ensures _ (rw (e, c.last-k.ensures.value) at c.loop-i.invariant)
