use Rattle.std.proofs.Common.{rules}
use mathlib.Core.Path.{◌≡◌, ap, sym, ◌∙◌}
use mathlib.Core.Bool.{true}
use native.Mathlib.Omega.{arith}
use lib.ListN.{drop}
use Prim.Native.Nat.{◌+◌, ◌-◌, ◌*◌, ◌<◌, max}
use Rattle.firing.specs.Entry.{entry_fits}
use Rattle.firing.specs.Schedule.{segment_of, laid_out}
use Rattle.firing.proofs.Schedules.{begun, ended, broken, minutes_most, turn, refused_shape, refused_layout, refused_segment}
use Rattle.firing.proofs.Schedules.{runs}
use Rattle.firing.proofs.schedule.report.Goals as goal
use Rattle.firing.proofs.schedule.report.Goals.{After-byte_at-k-end, After-first-s, After-laid_out}

-- what the checks before the loop have shown, and the segment that a turn reads
shaped : (c : After-laid_out) → entry_fits c.args.entry.now ≡ true
shaped c = sym c.fits.ensures ∙ c.if-not-fits.false

laid : (c : After-byte_at-k-end) → laid_out c.args.entry.now ≡ true
laid c = sym c.laid_out.ensures ∙ c.if-not-laid_out.false

segment : (c : After-first-s)
    → c.first-s.result ≡ segment_of (drop (2 + 6 * c.loop-k.k) c.args.entry.now)
segment c = c.first-s.ensures ∙ ap segment_of c.from.ensures

pub returns-then-not-fits : goal.returns-then-not-fits
returns-then-not-fits c = c.refused.ensures ∙ refused_shape _ (sym c.fits.ensures ∙ c.if-not-fits.true)

pub returns-then-not-laid_out : goal.returns-then-not-laid_out
returns-then-not-laid_out c =
    let laid_out_lem = c.laid_out.ensures in
    c.refused-then-not-laid_out.ensures
    ∙ refused_layout _ (shaped (goal.at.returns-then-not-laid_out c).After-laid_out) (sym laid_out_lem ∙ c.if-not-laid_out.true)

pub loop-k-init : goal.loop-k-init
loop-k-init c =
    let all : c.byte_at-k-end.result - 0 ≡ c.byte_at-k-end.result = omega arith in
    rw all (begun _ _ c.byte_at-k-end.ensures (laid (goal.at.loop-k-init c).After-byte_at-k-end))

pub returns-then-not-fits-2 : goal.returns-then-not-fits-2
returns-then-not-fits-2 c =
    let loop-inv = c.loop-k.invariant in
    let more : 0 < c.byte_at-k-end.result - c.loop-k.k = omega (arith, c.loop-k-test.true) in
    let fits3 = c.fits-in-loop-k.ensures in
    let breaks = sym fits3 ∙ c.if-not-fits-2.true in
    c.refused-then-not-fits-2.ensures ∙ refused_segment _ (shaped (goal.at.returns-then-not-fits-2 c).After-laid_out)
    (laid (goal.at.returns-then-not-fits-2 c).After-byte_at-k-end)
    (broken _ _ _ _ _ _ loop-inv more _ (segment (goal.at.returns-then-not-fits-2 c).After-first-s) breaks)

pub overflow_add-minutes : goal.overflow_add-minutes
overflow_add-minutes c =
    let loop-inv = c.loop-k.invariant in
    let more : 0 < c.byte_at-k-end.result - c.loop-k.k = omega (arith, c.loop-k-test.true) in
    let fits3 = c.fits-in-loop-k.ensures in
    let keeps = sym fits3 ∙ c.if-not-fits-2.false in
    let most = minutes_most _ _ _ _ _ _ loop-inv more _ (segment (goal.at.overflow_add-minutes c).After-first-s) keeps in
    let time = c.loop-k.invariant.time in
    let is = c.minutes-minutes.ensures in record { fits = omega arith }

pub loop-k-preserved : goal.loop-k-preserved
loop-k-preserved c =
    let loop-inv = c.loop-k.invariant in
    let more : 0 < c.byte_at-k-end.result - c.loop-k.k = omega (arith, c.loop-k-test.true) in
    let fits3 = c.fits-in-loop-k.ensures in
    let if3-left = c.if-not-fits-2.false in
    let keeps = sym fits3 ∙ if3-left in
    let left : c.byte_at-k-end.result - (c.loop-k.k + 1) ≡ c.byte_at-k-end.result - c.loop-k.k - 1 = omega arith in
    let place : 2 + 6 * (c.loop-k.k + 1) ≡ 2 + 6 * c.loop-k.k + 6 = omega arith in
    let higher : c.max-peak.result ≡ max c.loop-k.peak c.first-s.result.target = search rules in
    rw (higher, c.minutes-minutes.ensures, left, place)
    (turn _ _ _ _ _ _ loop-inv more _ (segment (goal.at.loop-k-preserved c).After-first-s) keeps)

pub overflow_cast-result : goal.overflow_cast-result
overflow_cast-result c = let most = c.loop-k.invariant.high_most in record { fits = omega arith }

pub returns : goal.returns
returns c =
    runs _ (shaped (goal.at.returns c).After-laid_out) (laid (goal.at.returns c).After-byte_at-k-end) _ _
    (ended _ _ _ _ _ _ c.loop-k.invariant (omega (arith, c.loop-k-test.false)))
