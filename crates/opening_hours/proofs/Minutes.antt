-- Open minutes, counted round the week; stretches of them; and the earliest of some starts.
use mathlib.Core.Path.{◌≡◌, refl, sym, subst, ◌∙◌}
use mathlib.Core.Bool.{true, false, cond, ◌&&◌, and-eq-true_iff, false≢true}
use mathlib.Core.List.{List}
use Prim.Native.Nat.{ℕ, zero, suc, ◌+◌, ◌%◌, ◌≤◌, ◌<◌}
use native.Mathlib.Omega.{arith}
use native.Mathlib.Nat.{mod-lt, mod-eq_of_lt, add-mod_left}
use Rattle.sha256.proofs.Cases.{by_bool, cases_lt}
use Rattle.opening_hours.specs.Opening.{week, in_windows, is_open, open_for, earliest}
use Rattle.opening_hours.specs.Starts.{OneClosed}

module _ (ws : List ℕ) where
  -- a minute of the first week, and one a week later
  pub open_in_week : (t : ℕ) → t < week → is_open ws t ≡ in_windows ws t
  unfolding is_open
  open_in_week t h = rw (mod-eq_of_lt h)

  pub open_week-later : (t : ℕ) → is_open ws (week + t) ≡ is_open ws t
  unfolding is_open
  open_week-later t = rw (add-mod_left week t)

  -- windows that cover the week are always open
  pub always_open : ((t : ℕ) → t < week → in_windows ws t ≡ true) → (t : ℕ) → is_open ws t ≡ true
  unfolding is_open
  always_open h t = h (t % week) (mod-lt t (omega arith))

  -- A stretch is open exactly if each minute of it is.
  pub each_minute : (n s : ℕ) → open_for ws n s ≡ true → (t : ℕ) → s ≤ t → t < s + n → is_open ws t ≡ true
  unfolding open_for
  each_minute zero s e t a b = absurd (omega arith)
  each_minute (suc n) s e t a b =
      let both = (and-eq-true_iff (is_open ws s) (open_for ws n (suc s))).0 e in
      cases_lt s t
      (λ l. each_minute n (suc s) both.1 t (omega arith) (omega arith))
      (λ l.
      let same : s ≡ t = omega arith in
      subst (λ (k : ℕ). is_open ws k ≡ true) same both.0)

  pub stretch_open : (n s : ℕ) → ((t : ℕ) → s ≤ t → t < s + n → is_open ws t ≡ true) → open_for ws n s ≡ true
  unfolding open_for
  stretch_open zero s h = refl
  stretch_open (suc n) s h =
      rw (h s (omega arith) (omega arith)) (stretch_open n (suc s) (λ t a b. h t (omega arith) (omega arith)))

  -- It is not open exactly if one minute of it is closed.
  pub one-closed : (n s : ℕ) → OneClosed ws n s → open_for ws n s ≡ false
  one-closed n s (t, (a, (b, e))) =
      by_bool (λ v. v ≡ false) (open_for ws n s) (λ q. sym (each_minute n s q t a b) ∙ e) (λ q. refl)

  pub some-closed : (n s : ℕ) → open_for ws n s ≡ false → OneClosed ws n s
  unfolding open_for
  some-closed zero s e = absurd (false≢true (sym e))
  some-closed (suc n) s e =
      by_bool (λ v. v && open_for ws n (suc s) ≡ false → OneClosed ws (suc n) s) (is_open ws s)
      (λ q f.
      let r = some-closed n (suc s) f in
      (r.0, (omega (arith, r.1.0), (omega (arith, r.1.1.0), r.1.1.1))))
      (λ q f. (s, (omega arith, (omega arith, q))))
      e

  -- a stretch a week later
  pub stretch_week-later : (n s : ℕ) → open_for ws n (week + s) ≡ open_for ws n s
  unfolding open_for
  stretch_week-later zero s = refl
  stretch_week-later (suc n) s =
      let next : suc (week + s) ≡ week + suc s = omega arith in
      rw (open_week-later s, next, stretch_week-later n (suc s))

  module _ (n : ℕ) where
    -- The first of some starts whose stretch is open, and where none is, the number after the last.
    pub earliest-is : (k s u : ℕ) → s ≤ u → u < s + k → open_for ws n u ≡ true
        → ((v : ℕ) → s ≤ v → v < u → open_for ws n v ≡ false) → earliest ws n s k ≡ u
    unfolding earliest
    earliest-is zero s u a b e none = absurd (omega arith)
    earliest-is (suc k) s u a b e none =
        cases_lt s u
        (λ l. rw (none s (omega arith) l) (earliest-is k (suc s) u l (omega arith) e (λ v c d. none v (omega arith) d)))
        (λ l.
        let same : u ≡ s = omega arith in
        rw (subst (λ (i : ℕ). open_for ws n i ≡ true) same e) (sym same))

    pub earliest-none : (k s : ℕ) → ((v : ℕ) → s ≤ v → v < s + k → open_for ws n v ≡ false) → earliest ws n s k ≡ s + k
    unfolding earliest
    earliest-none zero s none = omega arith
    earliest-none (suc k) s none =
        rw (none s (omega arith) (omega arith)) (earliest-none k (suc s) (λ v c d. none v (omega arith) (omega arith)) ∙ omega arith)

    -- What it is, the other way round: no start before it has an open stretch, and it has one unless it is the number after the last.
    pub record Earliest (k s u : ℕ) : Type 0 where
      pub from : s ≤ u
      pub most : u ≤ s + k
      pub before : (v : ℕ) → s ≤ v → v < u → open_for ws n v ≡ false
      pub opened : u < s + k → open_for ws n u ≡ true

    pub earliest-found : (k s : ℕ) → Earliest k s (earliest ws n s k)
    unfolding earliest
    earliest-found zero s =
        record { from = omega arith; most = omega arith; before = λ v a b. absurd (omega arith); opened = λ h. absurd (omega arith) }
    earliest-found (suc k) s =
        by_bool (λ b. open_for ws n s ≡ b → Earliest (suc k) s (cond b s (earliest ws n (suc s) k))) (open_for ws n s)
        (λ q e. record { from = omega arith; most = omega arith; before = λ v a b. absurd (omega arith); opened = λ h. e })
        (λ q e.
        let r = earliest-found k (suc s) in
        record {
          from = omega (arith, r.from);
          most = omega (arith, r.most);
          before = λ v a b.
              cases_lt s v
              (λ l. r.before v l b)
              (λ l.
              let same : s ≡ v = omega arith in
              subst (λ (i : ℕ). open_for ws n i ≡ false) same e);
          opened = λ h. r.opened (omega arith);
        })
        refl
