use borrow.Author.Rules.{rules}
use mathlib.Core.Path.{◌≡◌, ◌∙◌, sym}
use Prim.Native.Nat.{◌-◌}
use native.Mathlib.Omega.{arith}
use Rattle.script.specs.Listed.{list_fault}
use Rattle.script.proofs.Lists.{is_wrong_lem, is_last, is_followed}
use Rattle.script.proofs.list.fault.Goals as goal

pub loop-count-init : goal.loop-count-init
loop-count-init c = let z : c.most-most.result - 0 ≡ c.most-most.result = omega arith in (search rules, rw z)

pub returns-then-is_fault : goal.returns-then-is_fault
returns-then-is_fault c =
    let args = c.args in
    let the-most = c.most-most in
    let loop = c.loop-count in
    let loop-test-taken = c.loop-count-test.true in
    let item-at = c.item_at-item in
    rw (← the-most.ensures) (is_wrong_lem args.minutes args.text.now the-most.result loop.count loop.at _ loop.invariant.1
    loop-test-taken item-at.result item-at.ensures (sym c.is_fault.ensures ∙ c.if-is_fault.true))

pub returns-then-text-at : goal.returns-then-text-at
returns-then-text-at c =
    let args = c.args in
    let the-most = c.most-most in
    let loop = c.loop-count in
    let loop-test-taken = c.loop-count-test.true in
    let item-at = c.item_at-item in
    let is-fault = c.is_fault.ensures in
    rw (← the-most.ensures) (is_last args.minutes args.text.now the-most.result loop.count loop.at _ loop.invariant.1
    loop-test-taken item-at.result item-at.ensures (sym is-fault ∙ c.if-is_fault.false) c.if-text-at.true)

pub loop-count-preserved : goal.loop-count-preserved
loop-count-preserved c =
    let args = c.args in
    let most-result = c.most-most.result in
    let loop = c.loop-count in
    let loop-test-taken = c.loop-count-test.true in
    let item-at = c.item_at-item in
    let is-fault = c.is_fault.ensures in (
      omega arith,
      is_followed args.minutes args.text.now most-result loop.count loop.at _ loop.invariant.1 loop-test-taken
          item-at.result item-at.ensures (sym is-fault ∙ c.if-is_fault.false) c.if-text-at.false,
    )

pub returns : goal.returns
unfolding list_fault
returns c =
    let the-most = c.most-most in
    let z : the-most.result - c.loop-count.count ≡ 0 = omega arith in rw (← the-most.ensures, c.loop-count.invariant.1, z)
