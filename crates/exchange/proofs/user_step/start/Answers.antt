use Rattle.exchange.proofs.Steps.{began, write_began, give_up_began}
use Rattle.exchange.specs.UserStep.{start_lent}
use Rattle.c_layout.specs.User.{user_lent}
use borrow.Author.Tests.{eq-eqb, ne_eqb}
use Rattle.exchange.proofs.user_step.start.Goals as goal

pub returns-then-s-eq1 : goal.returns-then-s-eq1
unfolding start_lent
returns-then-s-eq1 c =
    let args = c.args in
    let if1-taken = c.if-s-eq1.true in
    let update-start = c.update_start.ensures in
    λ signature hashes. rw (eq-eqb args.s.kind 1 if1-taken)
    (began (user_lent args.kept.now args.path.now signature args.call.now hashes args.held.now args.request.now
    args.entry.now) _ _ _ _ _ _ update-start)

pub returns-then-s-eq3 : goal.returns-then-s-eq3
unfolding start_lent
returns-then-s-eq3 c =
    let args = c.args in
    let if1-left = c.if-s-eq1.false in
    let if2-taken = c.if-s-eq3.true in
    let read-start = c.read_start.ensures in
    λ signature hashes. rw (ne_eqb args.s.kind 1 if1-left, eq-eqb args.s.kind 3 if2-taken)
    (began (user_lent args.kept.now args.path.now signature args.call.now hashes args.held.now args.request.now
    args.entry.now) _ _ _ _ _ _ read-start)

pub returns-then-s-eq4 : goal.returns-then-s-eq4
unfolding start_lent
returns-then-s-eq4 c =
    let args = c.args in
    let if1-left = c.if-s-eq1.false in
    let if2-left = c.if-s-eq3.false in
    let if3-taken = c.if-s-eq4.true in
    let give-up-start = c.give_up_start.ensures in
    λ signature hashes. rw (ne_eqb args.s.kind 1 if1-left, ne_eqb args.s.kind 3 if2-left, eq-eqb args.s.kind 4 if3-taken)
    (give_up_began args.s args.users.now
    (user_lent args.kept.now args.path.now signature args.call.now hashes args.held.now args.request.now
    args.entry.now) _ _ _ _ give-up-start)

pub returns : goal.returns
unfolding start_lent
returns c =
    let args = c.args in
    let if1-left = c.if-s-eq1.false in
    let if2-left = c.if-s-eq3.false in
    let if3-left = c.if-s-eq4.false in
    let write-start = c.write_start.ensures in
    λ signature hashes. rw (ne_eqb args.s.kind 1 if1-left, ne_eqb args.s.kind 3 if2-left, ne_eqb args.s.kind 4 if3-left)
    (write_began args.s args.users.now
    (user_lent args.kept.now args.path.now signature args.call.now hashes args.held.now args.request.now
    args.entry.now) _ _ _ _ _ _ write-start)
