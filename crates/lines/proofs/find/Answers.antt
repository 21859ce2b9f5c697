use borrow.Author.Rules.{rules}
use native.Mathlib.Omega.{arith}
use borrow.Author.Tests.{eq-eqb, ne_eqb}
use Rattle.lines.specs.Text.{is_other}
use Rattle.lines.proofs.Runs.{run_more, run_stops, run_ends}
use Rattle.lines.proofs.find.Goals as goal

pub loop-at-init : goal.loop-at-init
loop-at-init c = (search rules, omega arith)

pub returns-then-s-at : goal.returns-then-s-at
unfolding is_other
returns-then-s-at c =
    let loop-inv-1 = c.loop-at.invariant.1 in
    let loop-test-taken = c.loop-at-test.true in
    (run_stops (is_other _) _ _ _ loop-inv-1 loop-test-taken (rw (eq-eqb _ _ c.if-s-at.true)), omega arith)

pub loop-at-preserved : goal.loop-at-preserved
unfolding is_other
loop-at-preserved c =
    let loop-inv-1 = c.loop-at.invariant.1 in
    let loop-test-taken = c.loop-at-test.true in
    (search rules, run_more (is_other _) _ _ _ loop-inv-1 loop-test-taken (rw (ne_eqb _ _ c.if-s-at.false)))

pub returns : goal.returns
returns c = (run_ends (is_other _) _ _ _ c.loop-at.invariant.1 c.loop-at-test.false, omega arith)
