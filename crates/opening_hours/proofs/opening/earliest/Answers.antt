use mathlib.Core.Path.{◌≡◌, sym, ◌∙◌}
use mathlib.Core.Bool.{true}
use Prim.Native.Nat.{◌<◌}
use native.Mathlib.Omega.{arith}
use Rattle.opening_hours.specs.Opening.{windows_fit}
use Rattle.opening_hours.proofs.InOrder.{in_order_lem, closed_is}
use Rattle.opening_hours.proofs.Openings.{minute_refused, windows_refused, week_covered, in_first-week, in_second-week}
use Rattle.opening_hours.proofs.Openings.{in_neither_week}
use Rattle.opening_hours.proofs.opening.earliest.Goals as goal
use Rattle.opening_hours.proofs.opening.earliest.Goals.{After-first_closed-closed}
use Rattle.opening_hours.proofs.opening.earliest.Goals.{then-minute-ge-WEEK-via-then-minute-ge-WEEK, then-minute-ge-WEEK-via-else-minute-ge-WEEK+then-not-fit}

-- what the checks have shown
fitting : (c : After-first_closed-closed) → windows_fit c.args.hours.now ≡ true
fitting c = sym c.fit.ensures ∙ c.if-not-fit.false

minute-fits : (c : After-first_closed-closed) → c.args.minute < 10080
minute-fits c = omega (arith, c.if-minute-ge-WEEK.false)

closed_some : (c : After-first_closed-closed) → (c.first_closed-closed.result ≡ 10080 → ⊥) → c.first_closed-closed.result < 10080
closed_some c other =
    let known = closed_is _ 0 (omega arith) (in_order_lem _ (fitting c)) in
    let most = known.within in
    omega (arith, c.first_closed-closed.ensures)

pub returns-then-minute-ge-WEEK : goal.returns-then-minute-ge-WEEK
returns-then-minute-ge-WEEK c =
    c.refused.ensures ∙ elim c.then-minute-ge-WEEK.branch [
      | then-minute-ge-WEEK-via-then-minute-ge-WEEK w ↦ sym (minute_refused _ _ _ w.if-minute-ge-WEEK.true)
      | then-minute-ge-WEEK-via-else-minute-ge-WEEK+then-not-fit w ↦
          sym (windows_refused _ _ _ (omega (arith, w.if-minute-ge-WEEK.false)) (sym w.fit.ensures ∙ w.if-not-fit.true))
    ]

pub returns-then-closed-eq-WEEK : goal.returns-then-closed-eq-WEEK
returns-then-closed-eq-WEEK c =
    let fits = fitting (goal.at.returns-then-closed-eq-WEEK c).After-first_closed-closed in
    let whole = sym c.first_closed-closed.ensures ∙ c.if-closed-eq-WEEK.true in
    sym (week_covered _ _ _ (minute-fits (goal.at.returns-then-closed-eq-WEEK c).After-first_closed-closed) fits whole)

pub earliest_from-here-requires : goal.earliest_from-here-requires
earliest_from-here-requires c =
    let known = c.first_closed-closed.ensures in (
      fitting (goal.at.earliest_from-here-requires c).After-first_closed-closed,
      (
        known,
        (
          closed_some (goal.at.earliest_from-here-requires c).After-first_closed-closed c.if-closed-eq-WEEK.false,
          minute-fits
              (goal.at.earliest_from-here-requires c).After-first_closed-closed,
        ),
      ),
    )

pub returns-then-here-lt-WEEK : goal.returns-then-here-lt-WEEK
returns-then-here-lt-WEEK c =
    sym (in_first-week _ _ _ (minute-fits (goal.at.returns-then-here-lt-WEEK c).After-first_closed-closed)
    (fitting (goal.at.returns-then-here-lt-WEEK c).After-first_closed-closed) _ c.earliest_from-here.ensures c.if-here-lt-WEEK.true)

pub earliest_from-next-requires : goal.earliest_from-next-requires
earliest_from-next-requires c = (
  fitting (goal.at.earliest_from-next-requires c).After-first_closed-closed,
  (
    c.first_closed-closed.ensures,
    (closed_some (goal.at.earliest_from-next-requires c).After-first_closed-closed c.if-closed-eq-WEEK.false, omega arith),
  ),
)

pub returns-then-next-minute : goal.returns-then-next-minute
returns-then-next-minute c =
    let none = c.if-here-lt-WEEK.false in
    sym (in_second-week _ _ _ (minute-fits (goal.at.returns-then-next-minute c).After-first_closed-closed)
    (fitting (goal.at.returns-then-next-minute c).After-first_closed-closed) _ c.earliest_from-here.ensures none _
    c.earliest_from-next.ensures c.if-next-minute.true)

pub returns : goal.returns
returns c =
    let none = c.if-here-lt-WEEK.false in
    c.refused-2.ensures ∙ sym (in_neither_week _ _ _ (minute-fits (goal.at.returns c).After-first_closed-closed)
    (fitting (goal.at.returns c).After-first_closed-closed) _
    c.earliest_from-here.ensures none _ c.earliest_from-next.ensures c.if-next-minute.false)
