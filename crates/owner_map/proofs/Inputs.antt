-- What `input::parse` read is what the definition reads.
use mathlib.Core.Path.{◌≡◌, refl, ◌∙◌, sym, ap}
use mathlib.Core.Bool.{Bool, true, false, ◌&&◌, false≢true}
use mathlib.Core.List.{List}
use Prim.Native.Nat.{ℕ, ◌+◌, ◌-◌, ◌%◌, ◌≤◌, min}
use native.Mathlib.Nat.{min-eq_left, min-eq_right}
use native.Mathlib.Omega.{arith}
use lib.Dec.{leb, ltb, eqb}
use lib.ListN.{length, drop, length-drop}
use lib.Seq.{drop-drop}
use borrow.Author.Tests.{le-leb, lt-leb, eq-eqb, ne_eqb, leb-true}
use Rattle.sha256.proofs.Cases.{cases_lt}
use Rattle.lines.specs.declared.Digits.{Digits}
use Rattle.lines.specs.Text.{is_blank, is_digit, run, past, number, digits_at, after_blanks}
use Rattle.owner_map.specs.declared.input.Asked.{Asked}
use Rattle.owner_map.specs.Input.{in_range, first_part, second_part, last_part, two_numbers, asked}

-- a number that is capped is out of range, as it was
range_capped : (a b : ℕ) → in_range (min a 9999999) (min b 9999999) ≡ in_range a b
unfolding in_range
range_capped a b =
    cases_lt 9999999 a
    (λ h.
    let e : min a 9999999 ≡ 9999999 = min-eq_right (omega arith) in
    rw (e, le-leb 2 a (omega arith), lt-leb a 16 (omega arith)))
    (λ h.
    let e : min a 9999999 ≡ a = min-eq_left h in
    cases_lt 9999999 b
    (λ g.
    let f : min b 9999999 ≡ 9999999 = min-eq_right (omega arith) in
    rw (e, f, le-leb 1 b (omega arith), lt-leb b 1048576 (omega arith)))
    (λ g. rw (e, min-eq_left {n = b} {m = 9999999} g)))

both_true : (a b : Bool) → (a && b) ≡ true → (a ≡ true) × (b ≡ true)
both_true true b e = (refl, e)
both_true false b e = absurd (false≢true e)

pub in_range_lem : (a b : ℕ) → in_range a b ≡ true → (a ≤ 16) × (b ≤ 1048576)
unfolding in_range
in_range_lem a b e =
    let s = both_true (leb 2 a && leb a 16) (leb 1 b && leb b 1048576) e in
    (leb-true a 16 (both_true (leb 2 a) (leb a 16) s.0).1, leb-true b 1048576 (both_true (leb 1 b) (leb b 1048576) s.1).1)

-- what is behind a run of bytes, by its place
past-at : (t : ℕ → Bool) (s : List ℕ) (a b : ℕ) → b ≡ a + run t (drop a s) → drop b s ≡ past t (drop a s)
unfolding past
past-at t s a b e = rw e (sym (drop-drop (run t (drop a s)) a s))

none_left : (n k : ℕ) → leb n k ≡ eqb (n - k) 0
none_left n k =
    cases_lt k n
    (λ h. lt-leb n k h ∙ sym (ne_eqb (n - k) 0 (λ e. omega arith)))
    (λ h. le-leb n k h ∙ sym (eq-eqb (n - k) 0 (omega arith)))

-- A number that was read at a place: its value, whether a digit was there, and the place behind it.
abbrev Read : List ℕ → ℕ → Digits → Type 0
Read s at d =
    (d.value ≡ min (number (drop at s)) 9999999)
    × ((d.found ≡ ltb 0 (run is_digit (drop at s))) × (d.next ≡ at + run is_digit (drop at s)))

read_is : (s : List ℕ) (at : ℕ) (d : Digits) → d ≡ digits_at s at → Read s at d
unfolding digits_at
read_is s at d e = (rw e, (rw e, rw e))

blanks_at : (s : List ℕ) (a b : ℕ) → b ≡ after_blanks s a → drop b s ≡ past is_blank (drop a s)
unfolding after_blanks
blanks_at s a b e = past-at is_blank s a b e

module _ (s : List ℕ) (a c e : ℕ) (x y : Digits)
    (at_first : a ≡ after_blanks s 0) (x-is : x ≡ digits_at s a)
    (at_second : c ≡ after_blanks s x.next) (y-is : y ≡ digits_at s c)
    (at-end : e ≡ after_blanks s y.next) where
  first : Read s a x
  first = read_is s a x x-is

  second : Read s c y
  second = read_is s c y y-is

  first-is : drop a s ≡ first_part s
  unfolding first_part
  first-is = blanks_at s 0 a at_first

  second_is : drop c s ≡ second_part s
  unfolding second_part
  second_is =
      blanks_at s x.next c at_second ∙ ap (past is_blank) (past-at is_digit s a x.next first.1.1 ∙ ap (past is_digit) first-is)

  last-is : drop e s ≡ last_part s
  unfolding last_part
  last-is =
      blanks_at s y.next e at-end ∙ ap (past is_blank) (past-at is_digit s c y.next second.1.1 ∙ ap (past is_digit) second_is)

  numbers_are : ((x.found && y.found) && leb (length s) e) ≡ two_numbers s
  unfolding two_numbers
  numbers_are =
      rw (first.1.0, second.1.0, first-is, second_is, none_left (length s) e, ← length-drop e s, last-is)

  range_is : in_range x.value y.value ≡ in_range (number (first_part s)) (number (second_part s))
  range_is = rw (first.0, second.0, first-is, second_is) (range_capped (number (first_part s)) (number (second_part s)))

  module _ (test : Bool) (t : test ≡ (leb (length s) 4096 && ((x.found && y.found) && leb (length s) e)) && in_range x.value y.value) where
    tested : test ≡ leb (length s) 4096 && two_numbers s && in_range (number (first_part s)) (number (second_part s))
    tested = t ∙ rw (numbers_are, range_is)

    pub refused : test ≡ false → Asked.Refused ≡ asked s
    unfolding asked
    refused fails = rw (← tested, fails)

    pub wanted : test ≡ true → Asked.Table (x.value % 256) y.value ≡ asked s
    unfolding asked
    wanted passes =
        let m : ℕ = number (first_part s) in
        let n : ℕ = number (second_part s) in
        let r = in_range_lem m n (both_true (leb (length s) 4096 && two_numbers s) (in_range m n) (sym tested ∙ passes)).1 in
        let ev : x.value ≡ number (first_part s) = first.0 ∙ rw first-is (min-eq_left (omega (arith, r.0))) in
        let ew : y.value ≡ number (second_part s) = second.0 ∙ rw second_is (min-eq_left (omega (arith, r.1))) in
        let small : x.value % 256 ≡ number (first_part s) = omega (arith, r.0) in
        rw (← tested, passes, small, ew)
