use native.Mathlib.Omega.{arith}
use Rattle.programs.proofs.Lists.{text-ends, room-ends, one_more}
use Rattle.programs.specs.Listed.{numbers_in}
use lib.Seq.{length-take-le}
use lib.ListN.{length}
use Prim.Native.Nat.{◌-◌}
use mathlib.Core.Path.{◌≡◌, refl, sym}
use borrow.Author.Rules.{rules}
use Rattle.programs.proofs.numbers.lay.Goals as goal

pub loop-count-init : goal.loop-count-init
loop-count-init c =
    let args = c.args in
    let z : length args.out.now - 0 ≡ length args.out.now = omega arith in (search rules, (refl, (rw z, refl)))

pub returns-then-text-at : goal.returns-then-text-at
unfolding numbers_in
returns-then-text-at c =
    let args = c.args in
    let skip-blanks = c.skip_blanks-at.ensures in
    let loop = c.loop-count in record {
      prefix_len = (search rules, sym (length-take-le _ _ (search rules)));
      value = rw (← skip-blanks) (text-ends args.text.now _ args.out.now loop.out loop.count loop.at loop.invariant.0
          loop.invariant.1.0 loop.invariant.1.1.0 loop.invariant.1.1.1 c.if-text-at.true);
    }

pub loop-count-preserved : goal.loop-count-preserved
loop-count-preserved c =
    let args = c.args in
    let loop = c.loop-count in
    let if1-left = c.if-text-at.false in
    let m = one_more args.text.now _ args.out.now loop.out loop.count loop.at loop.invariant.0 loop.invariant.1.0
    loop.invariant.1.1.0 loop.invariant.1.1.1 if1-left (omega arith) c.number_at-d.result c.number_at-d.ensures
    c.skip_blanks-at-in-loop-count.result c.skip_blanks-at-in-loop-count.ensures in
    (search rules, (search rules, m))

pub returns : goal.returns
unfolding numbers_in
returns c =
    let args = c.args in
    let skip-blanks = c.skip_blanks-at.ensures in record {
      prefix_len = (search rules, sym (length-take-le _ _ (search rules)));
      value = rw (← skip-blanks) (room-ends args.text.now _ args.out.now c.loop-count.out c.loop-count.count
          c.loop-count.at c.loop-count.invariant.0 c.loop-count.invariant.1.0 c.loop-count.invariant.1.1.0
          c.loop-count.invariant.1.1.1 (omega arith));
    }
