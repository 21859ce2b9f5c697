use Rattle.programs.proofs.Cases.{byte_read, all_read}
use Rattle.lines.specs.Memory.{zeros}
use Rattle.programs.specs.Case.{numbers_of}
use mathlib.Core.Path.{refl}
use borrow.Author.Rules.{rules}
use Rattle.programs.proofs.line.numbers.Goals as goal

pub loop-i-init : goal.loop-i-init
loop-i-init c = (search rules, (search rules, refl))

pub loop-i-preserved : goal.loop-i-preserved
loop-i-preserved c =
    let loop-inv-1-1 = c.loop-i.invariant.1.1 in
    let loop-test-taken = c.loop-i-test.true in (
      search rules,
      (
        search rules,
        byte_read _ _ _ _ _ loop-inv-1-1 _ _ loop-test-taken c.number_of-k.ensures.0
            c.longer-v.ensures,
      ),
    )

pub returns : goal.returns
unfolding numbers_of zeros
returns c = all_read _ _ _ _ _ c.loop-i.invariant.1.1 c.loop-i-test.false
