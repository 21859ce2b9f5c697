use Rattle.std.proofs.Common.{rules}
use Rattle.std.specs.Int.{abs_diff}
use Rattle.firing.specs.Schedule.{change}
use Rattle.firing.proofs.Segments.{distance, holds_alone, moves}
use Rattle.firing.proofs.segment.minutes.Goals as goal
use lib.IntN.{nat_abs}
use mathlib.Core.Path.{◌≡◌, sym, ◌∙◌}

pub returns-then-rate-eq0 : goal.returns-then-rate-eq0
returns-then-rate-eq0 c =
    let rate : c.unsigned_abs-rate.result ≡ nat_abs c.args.s.rate = rw c.unsigned_abs-rate.ensures.value (search rules) in
    holds_alone _ _ (sym rate ∙ c.if-rate-eq0.true)

pub returns : goal.returns
unfolding change
returns c =
    let args = c.args in
    let rate : c.unsigned_abs-rate.result ≡ nat_abs c.args.s.rate = rw c.unsigned_abs-rate.ensures.value (search rules) in
    let size : abs_diff args.s.target args.before ≡ nat_abs (change args.before args.s) = sym (distance args.s.target args.before) in
    rw (c.div_ceil.ensures, c.abs_diff-difference.ensures, size, rate) (moves args.before args.s (λ e. c.if-rate-eq0.false (rate ∙ e)))
