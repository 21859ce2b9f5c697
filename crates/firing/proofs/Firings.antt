-- Laws of firings: signs, rounding, total and peak, and what a report says.
use mathlib.Core.Path.{◌≡◌, refl, sym, ap, subst, ◌∙◌}
use mathlib.Core.Bool.{Bool, true, false, cond, ◌&&◌, ◌||◌, and-eq-true_iff, false≢true}
use mathlib.Core.List.{List, [], ◌∷◌, ◌++◌}
use Prim.Native.Nat.{ℕ, zero, suc, ◌+◌, ◌-◌, ◌*◌, ◌≤◌, ◌<◌}
use native.Mathlib.Nat.{add_assoc, le-max_left, le-max_right, le_trans, max-eq_left, max-eq_right}
use native.Mathlib.Omega.{arith}
use lib.Dec.{eqb, ltb}
use lib.IntN.{ℤ, pos, negsuc, nat_abs, sub_ℕ}
use lib.ListN.{length, drop, get_or}
use lib.Signed.{lt_z}
use mir.Syntax.{w16}
use mir.Val.{to_z}
use borrow.Author.Tests.{ltb-true, ltb-false, lt-ltb, le-ltb, eq-eqb, ne_eqb, eqb-true}
use Rattle.sha256.proofs.Cases.{by_bool, cases_lt}
use Rattle.firing.specs.declared.segment.Segment.{Segment}
use Rattle.firing.specs.declared.schedule.Firing.{Firing}
use Rattle.firing.specs.Entry.{strikes, is_schedule, entry_fits, target_of}
use Rattle.firing.specs.Schedule.{twos_complement, segments_in, segment_count, segments, laid_out, change, same_sign, sign_fits}
use Rattle.firing.specs.Schedule.{segment_fits, segments_fit, rounded_up, segment_minutes, total, peak, start, schedule_fits, report_code}
use Rattle.firing.specs.Schedule.{unreported, reported}
use Rattle.firing.specs.Temperatures.{reached}
use Rattle.firing.proofs.Signed.{pos_minus, signed-bits}
use Rattle.firing.proofs.Segments.{keeps_rules, rounded_enough, rounded_least, segment_most}
use Rattle.firing.proofs.Schedules.{layout, code-none}

-- On the board a schedule counts as an insertion.
pub schedule_inserts : (entry : List ℕ) → is_schedule entry ≡ true → target_of entry ≡ 0
unfolding is_schedule target_of strikes
schedule_inserts entry e = rw (eqb-true (get_or entry 0 0) 3 e)

-- Two bytes as a rate: what a signed number of 16 bits with these bits is.
pub rate_bits_lem : (n : ℕ) → n < 65536 → to_z w16 n ≡ twos_complement n
rate_bits_lem = signed-bits

-- The three signs of a number.
by_sign {ℓ} : (P : Bool → Bool → Bool → Type ℓ) → P true false false → P false true false → P false false true
    → (z : ℤ) → P (lt_z z (pos 0)) (lt_z (pos 0) z) (eqb (nat_abs z) 0)
by_sign P below above none (pos zero) = none
by_sign P below above none (pos (suc n)) =
    rw (le-ltb (suc n) 0 (omega arith), lt-ltb 0 (suc n) (omega arith), ne_eqb (suc n) 0 (λ q. omega arith)) above
by_sign P below above none (negsuc n) = rw (ne_eqb (suc n) 0 (λ q. omega arith)) below

-- numbers of the same sign: both are below 0, above it and 0 alike
same_signs : (a b : ℤ) → same_sign a b ≡ true
    → (lt_z a (pos 0) ≡ lt_z b (pos 0)) × (lt_z (pos 0) a ≡ lt_z (pos 0) b) × (eqb (nat_abs a) 0 ≡ eqb (nat_abs b) 0)
unfolding same_sign
same_signs a b =
    by_sign
    (λ x y z. (x && lt_z b (pos 0)) || ((y && lt_z (pos 0) b) || (z && eqb (nat_abs b) 0)) ≡ true
    → (x ≡ lt_z b (pos 0)) × (y ≡ lt_z (pos 0) b) × (z ≡ eqb (nat_abs b) 0))
    (by_sign (λ x y z. x || (false || false) ≡ true → (true ≡ x) × (false ≡ y) × (false ≡ z))
    (λ _. (refl, refl, refl)) (λ e. absurd (false≢true e)) (λ e. absurd (false≢true e)) b)
    (by_sign (λ x y z. false || (y || false) ≡ true → (false ≡ x) × (true ≡ y) × (false ≡ z))
    (λ e. absurd (false≢true e)) (λ _. (refl, refl, refl)) (λ e. absurd (false≢true e)) b)
    (by_sign (λ x y z. false || (false || z) ≡ true → (false ≡ x) × (false ≡ y) × (true ≡ z))
    (λ e. absurd (false≢true e)) (λ e. absurd (false≢true e)) (λ _. (refl, refl, refl)) b)
    a

-- the sign of a difference of two temperatures
pub change_signs : (a b : ℕ)
    → (lt_z (sub_ℕ a b) (pos 0) ≡ ltb a b) × (lt_z (pos 0) (sub_ℕ a b) ≡ ltb b a) × (eqb (nat_abs (sub_ℕ a b)) 0 ≡ eqb a b)
change_signs a b =
    by_bool
    (λ t. (lt_z (cond t (negsuc (b - suc a)) (pos (a - b))) (pos 0) ≡ t)
    × (lt_z (pos 0) (cond t (negsuc (b - suc a)) (pos (a - b))) ≡ ltb b a)
    × (eqb (nat_abs (cond t (negsuc (b - suc a)) (pos (a - b)))) 0 ≡ eqb a b))
    (ltb a b)
    (λ e.
    let h = ltb-true a b e in
    (refl, sym (le-ltb b a (omega arith)), ne_eqb (suc (b - suc a)) 0 (λ q. omega arith) ∙ sym (ne_eqb a b (λ q. omega arith))))
    (λ e.
    let h = ltb-false a b e in (
      le-ltb (a - b) 0 (omega arith),
      same_below (a - b) (ltb b a) (λ i. lt-ltb b a (omega arith)) (λ i. le-ltb b a (omega arith)),
      same_zero (a - b) (eqb a b) (λ i. eq-eqb a b (omega arith)) (λ i. ne_eqb a b (λ q. omega arith)),
    ))
  where
    same_below : (n : ℕ) (t : Bool) → (0 < n → t ≡ true) → (n ≤ 0 → t ≡ false) → ltb 0 n ≡ t
    same_below n t f g = cases_lt 0 n (λ h. lt-ltb 0 n h ∙ sym (f h)) (λ h. le-ltb 0 n h ∙ sym (g h))

    same_zero : (n : ℕ) (t : Bool) → (n ≡ 0 → t ≡ true) → (0 < n → t ≡ false) → eqb n 0 ≡ t
    same_zero n t f g =
        cases_lt 0 n (λ h. ne_eqb n 0 (λ q. omega arith) ∙ sym (g h)) (λ h. let z : n ≡ 0 = omega arith in eq-eqb n 0 z ∙ sym (f z))

-- What the sign rule says: the segment cools exactly if its target is below the temperature before, heats exactly if it is above, and has
-- rate 0 exactly if they are equal.
pub rate_signs : (before : ℕ) (s : Segment) → sign_fits before s ≡ true
    → (lt_z s.rate (pos 0) ≡ ltb s.target before) × (lt_z (pos 0) s.rate ≡ ltb before s.target)
    × (eqb (nat_abs s.rate) 0 ≡ eqb s.target before)
unfolding sign_fits change
rate_signs before s e =
    let d = change_signs s.target before in
    let sign = subst (λ z. same_sign s.rate z ≡ true) (pos_minus s.target before) e in
    let r = same_signs s.rate (sub_ℕ s.target before) sign in
    (r.0 ∙ d.0, r.1 ∙ d.1, r.2 ∙ d.2)

-- The time of a segment but for its hold is the least whole number of minutes in which its rate makes up the difference; with rate 0 there
-- is none.
pub segment_time : (before : ℕ) (s : Segment) (m : ℕ) → (nat_abs s.rate ≡ 0 → ⊥) → segment_minutes before s ≡ m + s.hold
    → (60 * nat_abs (change before s) ≤ m * nat_abs s.rate) × (m * nat_abs s.rate < 60 * nat_abs (change before s) + nat_abs s.rate)
unfolding segment_minutes
segment_time before s m n e =
    let d : ℕ = 60 * nat_abs (change before s) in
    let r : ℕ = nat_abs s.rate in
    let same : cond false s.hold (rounded_up d r + s.hold) ≡ m + s.hold = rw (ne_eqb r 0 n) at e in
    let is : rounded_up d r ≡ m = omega arith in (
      subst (λ (k : ℕ). d ≤ k * r) is (rounded_enough d r (omega arith)),
      subst (λ (k : ℕ). k * r < d + r) is (rounded_least d r (omega arith)),
    )

-- The total is the sum of the segments' times, each from the temperature that those before it reach.
pub total-sum : (before : ℕ) (xs ys : List Segment) → total before (xs ++ ys) ≡ total before xs + total (reached before xs) ys
unfolding total reached
total-sum before [] ys = omega arith
total-sum before (x ∷ xs) ys =
    ap (λ (n : ℕ). segment_minutes before x + n) (total-sum x.target xs ys)
    ∙ sym (add_assoc (segment_minutes before x) (total x.target xs) (total (reached x.target xs) ys))

-- No target is above the peak, and where there is a segment one of them is the peak.
pub peak_highest : (xs : List Segment) (i : ℕ) (d : Segment) → i < length xs → (get_or xs i d).target ≤ peak xs
unfolding peak
peak_highest [] i d h = absurd (omega arith)
peak_highest (x ∷ xs) zero d h = le-max_left x.target (peak xs)
peak_highest (x ∷ xs) (suc i) d h = le_trans (peak_highest xs i d (omega arith)) (le-max_right x.target (peak xs))

pub peak-reached : (x : Segment) (xs : List Segment) (d : Segment)
    → (i : ℕ) × ((i < length (x ∷ xs)) × ((get_or (x ∷ xs) i d).target ≡ peak (x ∷ xs)))
unfolding peak
peak-reached x [] d = (0, (omega arith, sym (max-eq_left (omega arith))))
peak-reached x (y ∷ ys) d =
    let i = peak-reached y ys d in
    cases_lt x.target (peak (y ∷ ys))
    (λ h. (suc i.0, (omega (arith, i.1.0), i.1.1 ∙ sym (max-eq_right (omega arith)))))
    (λ h. (0, (omega arith, sym (max-eq_left h))))

peak_among : (xs : List Segment) (d : Segment) → 0 < length xs → (i : ℕ) × ((i < length xs) × ((get_or xs i d).target ≡ peak xs))
peak_among [] d h = absurd (omega arith)
peak_among (x ∷ xs) d h = peak-reached x xs d

-- No segment lasts longer than 85,799 minutes, so a firing of 16 of them lasts at most 1,372,784. Examples has one that lasts so long.
pub total-most : (before : ℕ) (xs : List Segment) → 20 ≤ before → before ≤ 1350 → segments_fit before xs ≡ true
    → total before xs ≤ 85799 * length xs
unfolding total segments_fit
total-most before [] least most e = omega arith
total-most before (x ∷ xs) least most e =
    let both = (and-eq-true_iff (segment_fits before x) _).0 e in
    let k = keeps_rules before x both.0 in
    let one = segment_most 20 before before x (omega arith) least most k in
    let rest = total-most x.target xs k.warm k.low both.1 in
    omega arith

pub segments-counted : (n : ℕ) (s : List ℕ) → length (segments_in n s) ≡ n
unfolding segments_in
segments-counted zero s = refl
segments-counted (suc n) s = ap suc (segments-counted n (drop 6 s))

module _ (entry : List ℕ) where
  -- a schedule that keeps the rules: code 0, its total and its peak
  pub report_runs : schedule_fits entry ≡ true
      → reported entry ≡ record { code = 0; minutes = total start (segments entry); peak = peak (segments entry) }
  unfolding reported
  report_runs e = rw (code-none entry, e)

  -- any other entry: 19 or 26, and 0 for both
  pub report_refused : schedule_fits entry ≡ false → reported entry ≡ record { code = cond (entry_fits entry) 26 19; minutes = 0; peak = 0 }
  unfolding reported report_code unreported
  report_refused e = rw (code-none entry, e)

  pub report_most : schedule_fits entry ≡ true → (reported entry).minutes ≤ 1372784
  unfolding schedule_fits segments
  report_most e =
      let both = (and-eq-true_iff (laid_out entry) _).0 e in
      let few = (layout entry both.0).few in
      let count = segments-counted (segment_count entry) (drop 2 entry) in
      let most = total-most start (segments entry) (omega arith) (omega arith) both.1 in
      subst (λ (f : Firing). f.minutes ≤ 1372784) (sym (report_runs e)) (omega arith)

  -- its peak is the target of one of its segments, and no target is higher
  pub report_peak : (d : Segment) → schedule_fits entry ≡ true
      → ((i : ℕ) × ((i < length (segments entry)) × ((get_or (segments entry) i d).target ≡ (reported entry).peak)))
      × ((i : ℕ) → i < length (segments entry) → (get_or (segments entry) i d).target ≤ (reported entry).peak)
  unfolding schedule_fits segments
  report_peak d e =
      let some = (layout entry ((and-eq-true_iff (laid_out entry) _).0 e).0).some in
      let count = segments-counted (segment_count entry) (drop 2 entry) in
      rw (report_runs e) (peak_among (segments entry) d (omega arith), λ i h. peak_highest (segments entry) i d h)
