use Rattle.lms.proofs.Rows.{ls_most, checksum_fits, checksum_held}
use mathlib.Core.Path.{◌≡◌, refl}
use Prim.Native.Nat.{◌/◌}
use native.Mathlib.Omega.{arith}
use borrow.Author.Rules.{rules}
use Rattle.lms.specs.Ots.{sum_to, Cksm}
use Rattle.lms.proofs.Digits.{sum_more}
use Rattle.lms.proofs.onetime.checksum.Goals as goal

pub loop-i-init : goal.loop-i-init
unfolding sum_to
loop-i-init c = (search rules, refl)

pub loop-i-preserved : goal.loop-i-preserved
loop-i-preserved c = (
  omega arith,
  rw (sum_more, ← c.loop-i.invariant.1, c.coef.ensures.value, c.last-k.ensures.value),
)

pub overflow_shl-sum : goal.overflow_shl-sum
overflow_shl-sum c = let low = ls_most c.args.rows.now.ots c.args.rows.now.is_row in search rules

pub overflow_cast-sum : goal.overflow_cast-sum
overflow_cast-sum c =
    let rows = c.args.rows.now in
    let e : c.loop-i.i ≡ 256 / rows.ots.w = omega arith in
    let fit = rw (← e, ← c.loop-i.invariant.1) at (checksum_fits rows.ots rows.is_row c.args.s) in search rules

pub returns : goal.returns
unfolding Cksm
returns c =
    let rows = c.args.rows.now in
    let e : c.loop-i.i ≡ 256 / rows.ots.w = omega arith in
    rw (c.be2.ensures, c.loop-i.invariant.1, e, checksum_held rows.ots rows.is_row c.args.s)
