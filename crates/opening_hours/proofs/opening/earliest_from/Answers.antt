use native.Mathlib.Omega.{arith}
use lib.ListN.{length}
use Rattle.std.proofs.Common.{rules}
use mathlib.Core.Path.{◌≡◌}
use Prim.Native.Nat.{◌≤◌, ◌<◌, max}
use native.Mathlib.Nat.{max-eq_left, max-eq_right}
use Rattle.sha256.proofs.Cases.{cases_lt}
use Rattle.opening_hours.proofs.InOrder.{end, behind-first}
use Rattle.opening_hours.proofs.Search.{begun, found, window, after_gap, joined, passed, found-round, none-round}
use Rattle.opening_hours.proofs.Search.{none_in_week}
use Rattle.opening_hours.proofs.opening.earliest_from.Goals as goal
use Rattle.opening_hours.proofs.opening.earliest_from.Goals.{then-reach-first, else-reach-first}
use Rattle.opening_hours.proofs.opening.earliest_from.Goals.{then-reach-eq-WEEK, else-reach-eq-WEEK}

pub loop-rest-init : goal.loop-rest-init
loop-rest-init c = begun _ _ _ c.requires.0 c.requires.1.1.1

pub overflow_sub-reach : goal.overflow_sub-reach
overflow_sub-reach c = c.loop-rest.invariant.order

pub returns-then-length-reach : goal.returns-then-length-reach
returns-then-length-reach c = found _ _ _ _ _ _ c.loop-rest.invariant c.if-length-reach.true

pub loop-rest-preserved : goal.loop-rest-preserved
loop-rest-preserved c =
    let rest = c.loop-rest.rest.now in
    let s = c.loop-rest.invariant in
    let reach = c.loop-rest.reach in
    let more : 0 < length rest = omega (arith, c.in-len2-up.len_at_least) in
    let w = window _ _ _ _ _ _ s more in
    let farther : c.max-reach.result ≡ max reach (end rest 0) = search rules in
    rw (behind-first rest) (elim c.if-reach-first.branch [
      | then-reach-first u ↦
          let low : reach ≤ end rest 0 = omega (arith, u.if-reach-first.true, w.some) in
          rw (u.start-is, farther, max-eq_right low)
          (after_gap _ _ _ _ _ _ s more (omega (arith, c.if-length-reach.false)) u.if-reach-first.true)
      | else-reach-first u ↦ rw (u.start-is, farther) (cases_lt reach (end rest 0)
          (λ l. let low : reach ≤ end rest 0 = omega arith in rw (max-eq_right low) (joined _ _ _ _ _ _ s more u.if-reach-first.false l))
          (λ l. rw (max-eq_left l) (passed _ _ _ _ _ _ s more l)))
    ])

pub overflow_add-reach : goal.overflow_add-reach
overflow_add-reach c =
    let some = c.requires.1.1.0 in
    record { fits = omega (arith, some, c.if-reach-eq-WEEK.true) }

pub overflow_sub-reach-2 : goal.overflow_sub-reach-2
overflow_sub-reach-2 c =
    let s = c.loop-rest.invariant in
    elim c.if-reach-eq-WEEK.branch [
      | then-reach-eq-WEEK u ↦ omega (arith, u.reach-is, s.order)
      | else-reach-eq-WEEK u ↦ omega (arith, u.reach-is, s.order)
    ]

pub returns-then-length-reach-2 : goal.returns-then-length-reach-2
returns-then-length-reach-2 c =
    let s = c.loop-rest.invariant in
    elim c.if-reach-eq-WEEK.branch [
      | then-reach-eq-WEEK u ↦ found-round _ _ _ _ _ _ s _ c.requires.0 c.requires.1.0 c.requires.1.1.0 c.in_default.len_below
          u.if-reach-eq-WEEK.true (rw (← u.reach-is) c.if-length-reach-2.true)
      | else-reach-eq-WEEK u ↦ found _ _ _ _ _ _ s (rw (← u.reach-is) c.if-length-reach-2.true)
    ]

pub returns : goal.returns
returns c =
    let s = c.loop-rest.invariant in
    elim c.if-reach-eq-WEEK.branch [
      | then-reach-eq-WEEK u ↦ none-round _ _ _ _ _ _ s _ c.requires.0 c.requires.1.0 c.requires.1.1.0 c.in_default.len_below
          u.if-reach-eq-WEEK.true (omega (arith, c.if-length-reach-2.false, u.reach-is))
      | else-reach-eq-WEEK u ↦ none_in_week _ _ _ _ _ _ s _ c.requires.0 c.requires.1.0 c.requires.1.1.0 c.in_default.len_below
          (omega (arith, u.if-reach-eq-WEEK.false, s.within)) (omega (arith, c.if-length-reach-2.false, u.reach-is))
    ]
