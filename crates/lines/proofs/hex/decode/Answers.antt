use borrow.Author.Rules.{rules}
use Rattle.lines.proofs.Decoding.{decoded_more}
use Rattle.lines.specs.Hexadecimal.{decoded}
use lib.ListN.{length, length-set}
use native.Mathlib.Omega.{arith}
use mathlib.Core.Path.{◌≡◌, refl}
use Rattle.lines.proofs.hex.decode.Goals as goal

pub loop-i-init : goal.loop-i-init
unfolding decoded
loop-i-init c = (search rules, (refl, refl))

pub loop-i-preserved : goal.loop-i-preserved
loop-i-preserved c =
    let args = c.args in
    let least = c.least-n.ensures in
    let value-0 = c.value.ensures.0 in
    let a = c.loop-i in
    let l : length a.out ≡ length args.out.now = a.invariant.1.0 in (
      search rules,
      (
        simp length-set l,
        decoded_more _ a.out args.out.now a.i _ _ (omega (arith, least)) a.invariant.1.1 value-0
            c.value-in-loop-i.ensures.0,
      ),
    )

pub returns : goal.returns
returns c =
    let least = c.least-n in
    let a = c.loop-i in let n : a.i ≡ least.result = omega arith in (least.ensures, rw n at a.invariant.1.1)
