use borrow.Author.Rules.{rules}
use native.Mathlib.Omega.{arith}
use mathlib.Core.List.{[]}
use Rattle.owner_map.specs.Table.{head_line, rows}
use Rattle.owner_map.proofs.Sent.{piece_sent, table-sent}
use Rattle.owner_map.proofs.send_table.Goals as goal

pub loop-done-init : goal.loop-done-init
unfolding head_line rows
loop-done-init g c = (omega arith, (search rules, c.in_ok-sent.ensures.state [] c.begin.ensures))

pub loop-done-smaller : goal.loop-done-smaller
loop-done-smaller g c =
    let before = c.loop-done.invariant in
    let more = c.loop-done-test.true in
    let sent = c.in_ok-sent-2.ensures.state in
    omega (arith, (piece_sent _ _ _ _ _ before _ _ _ _ _ more (omega arith) c.fill-piece.ensures c.front.ensures sent).0)

pub loop-done-preserved : goal.loop-done-preserved
loop-done-preserved g c =
    let before = c.loop-done.invariant in
    let more = c.loop-done-test.true in
    let sent = c.in_ok-sent-2.ensures.state in
    (piece_sent _ _ _ _ _ before _ _ _ _ _ more (omega arith) c.fill-piece.ensures c.front.ensures sent).1

pub returns-clause-hash : goal.returns-clause-hash
returns-clause-hash g c = table-sent _ _ _ c.loop-done.out _ c.loop-done.invariant _ c.loop-done-test.false c.finish.ensures
