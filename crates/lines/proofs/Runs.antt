-- A loop over a text, by one byte: the bytes at its front that pass a test, and the number that its digits stand for.
use mathlib.Core.Path.{◌≡◌, refl, ◌∙◌, sym}
use mathlib.Core.Bool.{Bool, true, false, cond, ◌&&◌, false≢true}
use mathlib.Core.List.{List, [], ◌∷◌}
use Prim.Native.Nat.{ℕ, zero, suc, ◌+◌, ◌-◌, ◌*◌, ◌%◌, ◌≤◌, ◌<◌, min}
use native.Mathlib.Numerals.{add-one}
use native.Mathlib.Nat.{min-eq_left, min-eq_right, min-le_right}
use native.Mathlib.Omega.{arith}
use lib.Dec.{leb, ltb}
use lib.ListN.{length, drop, get_or, drop_of_length-le, get_or-eq_default}
use lib.Seq.{drop-cons}
use borrow.Author.Tests.{lt-ltb, le-ltb, ltb-true, ltb-false, leb-true}
use Rattle.lines.specs.declared.Digits.{Digits}
use Rattle.lines.specs.Text.{is_digit, run, number, number_from, digits_at}

module _ (t : ℕ → Bool) (s : List ℕ) (i whole : ℕ) (e : whole ≡ i + run t (drop i s)) where
  -- a byte that passes
  pub run_more : i < length s → t (get_or s i 0) ≡ true → whole ≡ i + 1 + run t (drop (i + 1) s)
  unfolding run
  run_more h p = let g : run t (drop i s) ≡ suc (run t (drop (suc i) s)) = rw (drop-cons s i 0 h, p) in rw add-one (omega arith)

  -- a byte that does not
  pub run_stops : i < length s → t (get_or s i 0) ≡ false → i ≡ whole
  unfolding run
  run_stops h p = let g : run t (drop i s) ≡ 0 = rw (drop-cons s i 0 h, p) in omega arith

  -- the end of the text
  pub run_ends : length s ≤ i → i ≡ whole
  unfolding run
  run_ends h = let g : run t (drop i s) ≡ 0 = rw (drop_of_length-le s {i = i} h) in omega arith

-- a digit was there where the place moved on
pub found-is : (at i r : ℕ) → i ≡ at + r → ltb at i ≡ ltb 0 r
found-is at i zero e = le-ltb at i (omega arith)
found-is at i (suc r) e = lt-ltb at i (omega arith) ∙ sym (lt-ltb 0 (suc r) (omega arith))

by_test : (P : Bool → Type 0) (b : Bool) → (b ≡ true → P true) → (b ≡ false → P false) → P b
by_test P true f g = f refl
by_test P false f g = g refl

both_true : (a b : Bool) → (a && b) ≡ true → (a ≡ true) × (b ≡ true)
both_true true b e = (refl, e)
both_true false b e = absurd (false≢true e)

-- more digits stand for no smaller number
number-least : (v : ℕ) (s : List ℕ) → v ≤ number_from v s
unfolding number_from
number-least v [] = omega arith
number-least v (b ∷ s) =
    by_test (λ t. v ≤ cond t (number_from (v * 10 + (b - 48)) s) v) (is_digit b)
    (λ e. omega (arith, number-least (v * 10 + (b - 48)) s)) (λ e. omega arith)

-- the value of a digit, as it is read
digit_value : (b : ℕ) → is_digit b ≡ true → b % 16 % 10 ≡ b - 48
unfolding is_digit
digit_value b e =
    let low : 48 ≤ b = leb-true 48 b (both_true (leb 48 b) (leb b 57) e).0 in
    let high : b ≤ 57 = leb-true b 57 (both_true (leb 48 b) (leb b 57) e).1 in
    omega arith

-- a value that reached the cap stays there
capped : (v : ℕ) (s : List ℕ) → 9999999 ≤ v → min (number_from v s) 9999999 ≡ 9999999
capped v s h = min-eq_right (omega (arith, number-least v s))

module _ (s : List ℕ) (i value whole : ℕ) (small : value ≤ 9999999) (e : whole ≡ min (number_from value (drop i s)) 9999999) where
  -- one digit more
  pub number_more : (next : ℕ) → i < length s → is_digit (get_or s i 0) ≡ true
      → next ≡ cond (ltb 999999 value) 9999999 (value * 10 + get_or s i 0 % 16 % 10)
      → (next ≤ 9999999) × (whole ≡ min (number_from next (drop (i + 1) s)) 9999999)
  unfolding number_from
  number_more next h d en =
      let g : number_from value (drop i s) ≡ number_from (value * 10 + (get_or s i 0 - 48)) (drop (suc i) s) = rw (drop-cons s i 0 h, d) in
      let dv : get_or s i 0 % 16 % 10 ≡ get_or s i 0 - 48 = digit_value (get_or s i 0) d in
      let w : whole ≡ min (number_from (value * 10 + (get_or s i 0 - 48)) (drop (suc i) s)) 9999999 = e ∙ rw g in
      by_test (λ t. ltb 999999 value ≡ t → (next ≤ 9999999) × (whole ≡ min (number_from next (drop (i + 1) s)) 9999999))
      (ltb 999999 value)
      (λ _ t.
      let big : 999999 < value = ltb-true 999999 value t in
      let n : next ≡ 9999999 = en ∙ rw t in
      let longer = capped (value * 10 + (get_or s i 0 - 48)) (drop (suc i) s) (omega arith) in
      (omega arith, w ∙ longer ∙ sym (capped next (drop (i + 1) s) (omega arith))))
      (λ _ t.
      let few : value ≤ 999999 = ltb-false 999999 value t in
      let n : next ≡ value * 10 + (get_or s i 0 - 48) = en ∙ rw (t, dv) in
      (omega arith, rw (add-one, n) w))
      refl

  -- a byte that is no digit
  pub number_stops : i < length s → is_digit (get_or s i 0) ≡ false → value ≡ whole
  unfolding number_from
  number_stops h d =
      let g : number_from value (drop i s) ≡ value = rw (drop-cons s i 0 h, d) in
      sym (e ∙ rw g (min-eq_left small))

  -- the end of the text
  pub number-ends : length s ≤ i → value ≡ whole
  unfolding number_from
  number-ends h =
      let g : number_from value (drop i s) ≡ value = rw (drop_of_length-le s {i = i} h) in
      sym (e ∙ rw g (min-eq_left small))

-- a number that was read, from its three parts
pub digits_are : (text : List ℕ) (at : ℕ) (d : Digits) → d.value ≡ min (number (drop at text)) 9999999
    → d.next ≡ at + run is_digit (drop at text) → d.found ≡ ltb at d.next → d ≡ digits_at text at
unfolding digits_at
digits_are text at d v n f = let g = f ∙ found-is at d.next (run is_digit (drop at text)) n in rw (← v, ← g, ← n)

-- a byte that is not 0 stands within its text
pub byte_there : (s : List ℕ) (i b : ℕ) → b ≡ get_or s i 0 → (b ≡ 0 → ⊥) → i < length s
byte_there s i b e h =
    by_test (λ t. i < length s) (ltb i (length s)) (λ l. ltb-true i (length s) l)
    (λ l. absurd (h (e ∙ get_or-eq_default s 0 (ltb-false i (length s) l))))

-- what a number that was read has at most
pub digits_most : (text : List ℕ) (at : ℕ) (d : Digits) → d ≡ digits_at text at → d.value ≤ 9999999
unfolding digits_at
digits_most text at d e = rw e (min-le_right (number (drop at text)) 9999999)
