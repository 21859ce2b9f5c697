use mathlib.Core.Path.{◌≡◌, sym, ap, ◌∙◌}
use mathlib.Core.Bool.{true}
use mathlib.Core.List.{List}
use Prim.Native.Nat.{ℕ, ◌+◌, ◌-◌, ◌≤◌}
use native.Mathlib.Omega.{arith}
use lib.ListN.{drop}
use Rattle.firing.specs.declared.schedule.Firing.{Firing}
use Rattle.firing.specs.declared.segment.Segment.{Segment}
use Rattle.firing.specs.Schedule.{segment_of, segment_minutes, total, start, schedule_fits, report_code, reported}
use Rattle.firing.specs.Warm.{starts_fit, warm_unreported}
use Rattle.firing.proofs.Schedules.{code_is}
use Rattle.firing.proofs.WarmKilns.{first, later, Times, times, fits_of, warm_entry-refused, warm_range_refused, warm_found}
use Rattle.firing.proofs.warm.report.Goals as goal
use Rattle.firing.proofs.warm.report.Goals.{After-minutes}

-- the code and the first segment that were found
code : (entry : List ℕ) (firing : Firing) → firing ≡ reported entry → firing.code ≡ report_code entry
code entry firing e = ap (λ (f : Firing). f.code) e ∙ code_is _

segment : (entry rest : List ℕ) (s : Segment) → s ≡ segment_of rest → rest ≡ drop 2 entry → s ≡ segment_of (drop 2 entry)
segment entry rest s e f = e ∙ ap segment_of f

abbrev entry_of : After-minutes → List ℕ
entry_of c = c.args.entry.now

abbrev from-of : After-minutes → ℕ
from-of c = c.args.from

abbrev to-of : After-minutes → ℕ
to-of c = c.args.to

abbrev after : List ℕ → ℕ
after entry = total (first entry).target (later entry)

-- what stands once every check has passed
fits : (c : After-minutes) → schedule_fits (entry_of c) ≡ true
fits c =
    let if1-left = c.if-firing-ne0.false in
    fits_of _ (sym (code _ _ c.report-firing.ensures) ∙ if1-left)

in-range : (c : After-minutes) → starts_fit (first (entry_of c)) (from-of c) (to-of c) ≡ true
in-range c = rw (← segment c.args.entry.now _ _ c.first-first.ensures c.from.ensures)
    (sym c.starts_fit.ensures ∙ c.if-not-starts_fit.false)

known : (c : After-minutes) → Times (entry_of c) (from-of c) (to-of c) (fits c) (in-range c)
known c = times _ _ _ (fits c) (in-range c)

-- the time of the segments after the first, which the start does not change
rest : (c : After-minutes)
    → c.report-firing.result.minutes ≡ c.minutes.result + after (entry_of c)
rest c =
    let cold = c.minutes.ensures ∙ ap (segment_minutes start) (segment c.args.entry.now _ _ c.first-first.ensures c.from.ensures) in
    let report = c.report-firing.ensures in
    ap (λ (f : Firing). f.minutes) report ∙ (known c).whole ∙ ap (λ (n : ℕ). n + after (entry_of c)) (sym cold)

-- a total: the first segment's time from a start in the range, and the time of the others
abbrev sum : After-minutes → ℕ → ℕ
sum c time = time + (c.report-firing.result.minutes - c.minutes.result)

sum_is : (c : After-minutes) (t time : ℕ) → t ≤ 1350 → time ≡ segment_minutes t c.first-first.result
    → (sum c time ≡ segment_minutes t (first (entry_of c)) + after (entry_of c)) × (sum c time ≤ 1373984)
sum_is c t time h e =
    let is = e ∙ ap (segment_minutes t) (segment c.args.entry.now _ _ c.first-first.ensures c.from.ensures) in
    let r = rest c in
    let most = (known c).first-most t h in
    let later-most = (known c).later-most in
    (omega arith, omega arith)

pub returns-then-firing-ne0 : goal.returns-then-firing-ne0
returns-then-firing-ne0 c =
    let is = code _ _ c.report-firing.ensures in
    c.refused.ensures ∙ ap warm_unreported is ∙ sym (warm_entry-refused _ _ _ (λ e. c.if-firing-ne0.true (is ∙ e)))

pub returns-then-not-starts_fit : goal.returns-then-not-starts_fit
returns-then-not-starts_fit c =
    let if1-left = c.if-firing-ne0.false in
    let starts_fit_lem = c.starts_fit.ensures in
    let runs = sym (code _ _ c.report-firing.ensures) ∙ if1-left in
    let breaks = sym starts_fit_lem ∙ c.if-not-starts_fit.true in
    c.refused-then-not-starts_fit.ensures
    ∙ sym (warm_range_refused _ _ _ (fits_of _ runs)
    (rw (← segment c.args.entry.now _ _ c.first-first.ensures c.from.ensures) breaks))

pub overflow_sub-later : goal.overflow_sub-later
overflow_sub-later c = let r = rest (goal.at.overflow_sub-later c).After-minutes in omega arith

pub overflow_cast-to : goal.overflow_cast-to
overflow_cast-to c = let end = (known (goal.at.overflow_cast-to c).After-minutes).upper-end in record { fits = omega arith }

pub overflow_add-least : goal.overflow_add-least
overflow_add-least c =
    let most = (sum_is (goal.at.overflow_add-least c).After-minutes _ _ (known (goal.at.overflow_add-least c).After-minutes).upper-end
    c.minutes-2.ensures).1 in
    record { fits = omega arith }

pub overflow_cast-from : goal.overflow_cast-from
overflow_cast-from c =
    let end = (known (goal.at.overflow_cast-from c).After-minutes).lower-end in
    record { fits = omega arith }

pub overflow_add-greatest : goal.overflow_add-greatest
overflow_add-greatest c =
    let most = (sum_is (goal.at.overflow_add-greatest c).After-minutes _ _
    (known (goal.at.overflow_add-greatest c).After-minutes).lower-end c.minutes-3.ensures).1 in
    record { fits = omega arith }

pub returns : goal.returns
returns c =
    let ends = known (goal.at.returns c).After-minutes in
    warm_found _ _ _ (fits (goal.at.returns c).After-minutes) (in-range (goal.at.returns c).After-minutes) _ _
    (sum_is (goal.at.returns c).After-minutes _ _ ends.upper-end c.minutes-2.ensures).0
    (sum_is (goal.at.returns c).After-minutes _ _ ends.lower-end c.minutes-3.ensures).0
