-- One segment: its rules by the way through their tests, and how long it lasts.
use mathlib.Core.Path.{◌≡◌, sym, ◌∙◌}
use mathlib.Core.Bool.{true, cond, and-eq-true_iff}
use Prim.Native.Nat.{ℕ, zero, suc, ◌+◌, ◌-◌, ◌*◌, ◌/◌, ◌%◌, ◌≤◌, ◌<◌, min}
use native.Mathlib.Nat.{le_trans, add-zero, min-eq_left, mod-lt, add-mul, one-mul, div-add-mod', mul-suc, suc-mul, div-mul-le_self, lt-div-mul-add, le-div_iff_mul-le, div-lt_iff_lt-mul}
use native.Mathlib.Omega.{arith}
use Rattle.std.proofs.lemmas.Nat.{div-mul-add}
use Rattle.std.specs.Int.{div_ceil}
use lib.Dec.{eqb, leb, ltb}
use lib.IntN.{pos, negsuc, nat_abs, ◌-ℤ◌}
use borrow.Author.Tests.{leb-true, eqb-false, eq-eqb, ne_eqb, ltb-true, ltb-false}
use Rattle.sha256.proofs.Cases.{by_bool, cases_lt}
use Rattle.firing.specs.declared.segment.Segment.{Segment}
use Rattle.firing.specs.Schedule.{change, sign_fits, segment_fits, rounded_up, segment_minutes}
use Rattle.firing.proofs.Signed.{pos_minus}

-- rounding up: the least number that, taken b times, is not below a
pub rounded_enough : (a b : ℕ) → 0 < b → a ≤ rounded_up a b * b
unfolding rounded_up
rounded_enough a b h = omega (arith, lt-div-mul-add {a = a + (b - 1)} h)

pub rounded_least : (a b : ℕ) → 0 < b → rounded_up a b * b < a + b
unfolding rounded_up
rounded_least a b h = omega (arith, div-mul-le_self (a + (b - 1)) b)

-- the library's rounding up is the same
pub ceil-is : (a b : ℕ) → 0 < b → div_ceil a b ≡ rounded_up a b
unfolding rounded_up
ceil-is a b h =
    let whole = div-add-mod' a b in
    let low = mod-lt a {m = b} h in
    cases_lt 0 (a % b)
    (λ r.
    let one : min 1 (a % b) ≡ 1 = min-eq_left (let t : 1 ≤ a % b = omega arith in t) in
    let up : a + (b - 1) ≡ (a / b + 1) * b + (a % b - 1) = omega (arith, whole, add-mul (a / b) 1 b, one-mul b) in
    rw (one, up) (sym (div-mul-add (a / b + 1) b (a % b - 1) (omega arith))))
    (λ r.
    let none : a % b ≡ 0 = omega arith in
    let up : a + (b - 1) ≡ a / b * b + (b - 1) = omega (arith, whole) in
    rw (none, up) (add-zero (a / b) ∙ sym (div-mul-add (a / b) b (b - 1) (omega arith))))

pub rounded_most : (a b : ℕ) → 0 < b → rounded_up a b ≤ a
unfolding rounded_up
rounded_most a zero h = elim h [ ]
rounded_most a (suc b) h =
    let below : a + (suc b - 1) < suc a * suc b = omega (arith, mul-suc (suc a) b, suc-mul a b) in
    let less = (div-lt_iff_lt-mul {k = suc b} {x = a + (suc b - 1)} {y = suc a} (omega arith)).1 below in
    omega arith

pub rounded_monotone : (a b r : ℕ) → 0 < r → a ≤ b → rounded_up a r ≤ rounded_up b r
unfolding rounded_up
rounded_monotone a b r h l = (le-div_iff_mul-le {k = r} h).1 (le_trans (div-mul-le_self (a + (r - 1)) r) (omega arith))

-- the size of the difference of two temperatures; it is no greater than the span that both lie in
pub distance : (a b : ℕ) → nat_abs (pos a -ℤ pos b) ≡ (a - b) + (b - a)
distance a b =
    rw (pos_minus a b)
    (by_bool (λ t. nat_abs (cond t (negsuc (b - suc a)) (pos (a - b))) ≡ (a - b) + (b - a)) (ltb a b)
    (λ e. let h = ltb-true a b e in omega arith)
    (λ e. let h = ltb-false a b e in omega arith))

pub change-most : (least most a b : ℕ) → least ≤ a → a ≤ most → least ≤ b → b ≤ most → nat_abs (pos a -ℤ pos b) ≤ most - least
change-most least most a b la ma lb mb = rw (distance a b) (omega arith)

module _ (before : ℕ) (s : Segment) where
  pub holds_alone : nat_abs s.rate ≡ 0 → s.hold ≡ segment_minutes before s
  unfolding segment_minutes
  holds_alone e = rw (eq-eqb (nat_abs s.rate) 0 e)

  pub moves : (nat_abs s.rate ≡ 0 → ⊥) → div_ceil (60 * nat_abs (change before s)) (nat_abs s.rate) + s.hold ≡ segment_minutes before s
  unfolding segment_minutes
  moves n = rw (ne_eqb (nat_abs s.rate) 0 n, ceil-is (60 * nat_abs (change before s)) (nat_abs s.rate) (omega (arith, n)))

-- a segment that keeps the rules, but for the range of its rate
pub record KeepsRules (before : ℕ) (s : Segment) : Type 0 where
  pub warm : 20 ≤ s.target
  pub low : s.target ≤ 1350
  pub short : s.hold ≤ 5999
  pub sign : sign_fits before s ≡ true

pub keeps_rules : (before : ℕ) (s : Segment) → segment_fits before s ≡ true → KeepsRules before s
unfolding segment_fits
keeps_rules before s e =
    let rate = (and-eq-true_iff (leb (nat_abs s.rate) 600) _).0 e in
    let low = (and-eq-true_iff _ _).0 rate.1 in
    let high = (and-eq-true_iff _ _).0 low.1 in
    let hold = (and-eq-true_iff _ _).0 high.1 in
    record {
      warm = leb-true 20 s.target low.0;
      low = leb-true s.target 1350 high.0;
      short = leb-true s.hold 5999 hold.0;
      sign = hold.1;
    }

-- the longest segment: all degrees from the least temperature on at 1 °C per hour, and the longest hold
pub segment_most : (least before kept : ℕ) (s : Segment) → least ≤ 20 → least ≤ before → before ≤ 1350 → KeepsRules kept s
    → segment_minutes before s ≤ 60 * (1350 - least) + 5999
unfolding segment_minutes change
segment_most least before kept s cold lower upper k =
    let short = k.short in
    let span = change-most least 1350 s.target before (le_trans cold k.warm) k.low lower upper in
    by_bool
    (λ t. cond t s.hold (rounded_up (60 * nat_abs (change before s)) (nat_abs s.rate) + s.hold) ≤ 60 * (1350 - least) + 5999)
    (eqb (nat_abs s.rate) 0)
    (λ e. omega arith)
    (λ e.
    let n = eqb-false (nat_abs s.rate) 0 e in
    omega (arith, rounded_most (60 * nat_abs (change before s)) (nat_abs s.rate) (omega arith)))
