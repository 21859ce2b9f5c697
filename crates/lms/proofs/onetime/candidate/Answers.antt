use mathlib.Core.List.{append_assoc, append-nil}
use mathlib.Core.Path.{◌≡◌, ap}
use Prim.Native.Nat.{◌*◌}
use native.Mathlib.Omega.{arith}
use lib.ListN.{length, length-drop}
use Rattle.lms.specs.Ots.{digit, closed, ends_hash}
use Rattle.lms.specs.Types.{cat}
use Rattle.lms.proofs.Parts.{cat_more}
use Rattle.lms.proofs.onetime.candidate.Goals as goal

pub loop-i-init : goal.loop-i-init
unfolding cat
loop-i-init c = rw (append-nil, ← c.prefix.ensures) c.begin-ends.ensures

pub closed-requires : goal.closed-requires
closed-requires c = (omega arith, omega (arith, ap length c.from.ensures, length-drop (32 * c.loop-i.i) c.args.y.now))

pub loop-i-preserved : goal.loop-i-preserved
loop-i-preserved c =
    rw (cat_more, ← append_assoc, ← c.coef-a.ensures.value, ← c.from.ensures, ← c.closed.ensures) (c.update-ends.ensures _ c.loop-i.invariant)

pub returns : goal.returns
unfolding ends_hash closed digit
returns c =
    let e : c.loop-i.i ≡ c.args.rows.now.ots.p = omega arith in
    c.finish.ensures _ (rw (e, c.last-k.ensures.value, c.summed-d.ensures) at c.loop-i.invariant)
