-- What each answer says, both ways.
use mathlib.Core.Path.{◌≡◌, refl, sym, ap, subst, ◌∙◌}
use mathlib.Core.Bool.{true, false}
use mathlib.Core.List.{List}
use Prim.Native.Nat.{ℕ, ◌+◌, ◌*◌, ◌≤◌, ◌<◌}
use native.Mathlib.Omega.{arith}
use Rattle.sha256.proofs.Cases.{by_bool, cases_lt}
use Rattle.opening_hours.specs.declared.opening.Start.{Start}
use Rattle.opening_hours.specs.Opening.{week, windows_fit, is_open, earliest_start, no_start, opening}
use Rattle.opening_hours.specs.Starts.{EarliestOpen, NoneOpen}
use Rattle.opening_hours.specs.Claims.{WindowsFit, InputsRefused, StartAnswered, NoneAnswered}
use Rattle.opening_hours.proofs.Fitting.{windows_fit_lem}
use Rattle.opening_hours.proofs.Minutes.{open_week-later, open_in_week, each_minute, stretch_open, one-closed, some-closed}
use Rattle.opening_hours.proofs.Minutes.{always_open, Earliest, earliest-found}
use Rattle.opening_hours.proofs.Openings.{at_start, minute_refused, windows_refused, either, begins-at, begins-at_once, none-begins}

code-refused : (no_start 34).code ≡ 34
unfolding no_start
code-refused = refl

-- Windows that are open through a week are always open. It begins in the first two weeks here.
open-round : (ws : List ℕ) (u : ℕ) → u < 2 * week → ((t : ℕ) → u ≤ t → t < u + week → is_open ws t ≡ true) → (t : ℕ) → is_open ws t ≡ true
open-round ws u h opened =
    always_open ws (λ t l.
    sym (open_in_week ws t l)
    ∙ cases_lt t u
    (λ a.
    cases_lt (week + t) u
    (λ b. sym (open_week-later ws (week + t) ∙ open_week-later ws t) ∙ opened (week + (week + t)) (omega arith) (omega arith))
    (λ b. sym (open_week-later ws t) ∙ opened (week + t) b (omega arith)))
    (λ a. opened t a (omega arith)))

module _ (ws : List ℕ) (m n : ℕ) (minute : m < week) (fit : windows_fit ws ≡ true) where
  found : Earliest ws n week m (earliest_start ws m n)
  unfolding earliest_start
  found = earliest-found ws n week m

  -- code 0, exactly with the earliest start all of whose minutes are open
  open_at : (opening ws m n).code ≡ 0 → EarliestOpen ws m n (opening ws m n).start
  open_at e =
      either ws m n minute fit
      (λ l is. subst (EarliestOpen ws m n) (sym (ap (λ (s : Start). s.start) is)) (open-from l))
      (λ l is.
      let other = ap (λ (s : Start). s.code) is in
      absurd (omega (arith, code-refused)))
    where
      open-from : earliest_start ws m n < m + week → EarliestOpen ws m n (earliest_start ws m n)
      open-from h =
          record {
            from = found.from;
            within = h;
            opened = each_minute ws n (earliest_start ws m n) (found.opened h);
            before = λ v a b. some-closed ws n v (found.before v a b);
          }

  at_open : (u : ℕ) → EarliestOpen ws m n u → opening ws m n ≡ at_start u
  at_open u a =
      begins-at ws m n minute fit u a.from a.within (stretch_open ws n u a.opened)
      (λ v c d. one-closed ws n v (a.before v c d))

  -- code 34, exactly if there is none
  none_open : (opening ws m n).code ≡ 34 → NoneOpen ws m n
  none_open e v a b =
      either ws m n minute fit
      (λ l is.
      let zero : (opening ws m n).code ≡ 0 = ap (λ (s : Start). s.code) is in
      absurd (omega arith))
      (λ l is. some-closed ws n v (found.before v a (omega arith)))

  open_none : NoneOpen ws m n → opening ws m n ≡ no_start 34
  open_none none = none-begins ws m n minute fit (λ v a b. one-closed ws n v (none v a b))

  -- A length of a week or more begins at once or not at all: at m, exactly where every minute of the week is open.
  pub whole-week : ((t : ℕ) → is_open ws t ≡ true) → opening ws m n ≡ at_start m
  whole-week always = begins-at_once ws m n minute fit (stretch_open ws n m (λ t a b. always t))

  pub week-or-more : week ≤ n → (opening ws m n).code ≡ 0 → ((opening ws m n).start ≡ m) × ((t : ℕ) → is_open ws t ≡ true)
  week-or-more long e =
      let a = open_at e in
      let always = open-round ws (opening ws m n).start (omega (arith, a.within)) (λ t b c. a.opened t b (omega arith)) in
      (ap (λ (s : Start). s.start) (whole-week always), always)

-- A length of 0 begins at m.
pub no_length : (ws : List ℕ) (m : ℕ) → m < week → windows_fit ws ≡ true → opening ws m 0 ≡ at_start m
no_length ws m minute fit = begins-at_once ws m 0 minute fit (stretch_open ws 0 m (λ t a b. absurd (omega arith)))

-- The claims.
pub inputs_refused : InputsRefused
unfolding InputsRefused WindowsFit
inputs_refused ws m n none =
    cases_lt m week
    (λ minute.
    windows_refused ws m n minute
    (by_bool (λ b. b ≡ false) (windows_fit ws) (λ fit. absurd (none minute ((windows_fit_lem ws).0 fit))) (λ _. refl)))
    (minute_refused ws m n)

pub start-answered : StartAnswered
unfolding StartAnswered WindowsFit
start-answered ws m n u minute fits =
    let fit = (windows_fit_lem ws).1 fits in (
      λ is. subst (EarliestOpen ws m n) (ap (λ (s : Start). s.start) is) (open_at ws m n minute fit (ap (λ (s : Start). s.code) is)),
      at_open ws m n minute fit u,
    )

pub none-answered : NoneAnswered
unfolding NoneAnswered WindowsFit
none-answered ws m n minute fits =
    let fit = (windows_fit_lem ws).1 fits in (
      λ is. none_open ws m n minute fit (ap (λ (s : Start). s.code) is ∙ code-refused),
      open_none ws m n minute fit,
    )
