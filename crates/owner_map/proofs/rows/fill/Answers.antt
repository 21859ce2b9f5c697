use native.Mathlib.Omega.{arith}
use Rattle.owner_map.proofs.Pieces.{laid_none, laid_more, laid_full, laid_all}
use Rattle.owner_map.proofs.rows.fill.Goals as goal

pub loop-p-init : goal.loop-p-init
loop-p-init c = laid_none _ _ _ _

pub returns-then-out-at-lt105 : goal.returns-then-out-at-lt105
returns-then-out-at-lt105 c = laid_full _ _ _ _ _ _ _ c.loop-p.invariant c.loop-p-test.true (omega arith)

pub loop-p-preserved : goal.loop-p-preserved
loop-p-preserved c =
    let loop-inv = c.loop-p.invariant in
    let loop-test-taken = c.loop-p-test.true in
    let append-row = c.append_row-at.ensures in
    laid_more _ _ _ _ _ _ _ loop-inv _ _ loop-test-taken (omega arith) (omega arith) append-row

pub returns : goal.returns
returns c = laid_all _ _ _ _ _ _ _ c.loop-p.invariant c.loop-p-test.false
