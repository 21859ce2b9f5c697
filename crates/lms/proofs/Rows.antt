-- What a row of Table 1 gives, one argument for all widths: how wide, how many and where its digits are, and that the checksum is whole.
use mathlib.Core.Path.{◌≡◌, ◌∙◌, ap, sym}
use mathlib.Core.List.{List, [], append-nil}
use Prim.Native.Nat.{ℕ, zero, suc, ◌-◌, ◌*◌, ◌/◌, ◌%◌, ◌^◌, ◌≤◌, ◌<◌}
use native.Mathlib.Nat.{mod-eq_of_lt, mul-le-mul, mul-le-mul_left, mul-le-mul_right, le-div_iff_mul-le, mul-one, suc-mul}
use native.Mathlib.Omega.{arith}
use lib.Pow.{pow_mono}
use Rattle.sha256.specs.Bytes.{be, number_at}
use Rattle.sha256.proofs.Cases.{cases_lt}
use Rattle.sha256.proofs.Laws.{number-be}
use Rattle.lms.specs.declared.Ots.{Ots}
use Rattle.lms.specs.Inner.{Row}
use Rattle.lms.specs.Ots.{sum_to, Cksm}

module _ (o : Ots) (row : Row o) where
  pub width_most : o.w ≤ 8
  width_most =
      cases_lt 8 o.w (λ g. let e : 8 % o.w ≡ 8 = mod-eq_of_lt g in absurd (omega (arith, row.w_divides))) (λ g. g)

  pub digits_most : o.p ≤ 272
  digits_most =
      let m : o.p * 1 ≤ o.p * o.w = mul-le-mul_left o.p row.w_some in
      omega (arith, mul-one o.p, row.digits_fill)

  -- each digit is read inside the 34 bytes
  pub digit_inside : (i : ℕ) → i < o.p → i * o.w / 8 < 34
  digit_inside i g =
      let m : suc i * o.w ≤ o.p * o.w = mul-le-mul_right o.w g in
      omega (arith, suc-mul i o.w, row.w_some, row.digits_fill)

  -- the greatest sum is at least 1
  sum-some : 1 * 1 ≤ 256 / o.w * (2 ^ o.w - 1)
  sum-some =
      let a : 1 ≤ 256 / o.w = (le-div_iff_mul-le row.w_some).1 (omega (arith, width_most)) in
      let b : 2 ^ 1 ≤ 2 ^ o.w = pow_mono {i = 1} row.w_some in
      let c : 1 ≤ 2 ^ o.w - 1 = omega arith in
      mul-le-mul a c

  pub ls_most : o.ls < 16
  ls_most =
      let m : 1 * 2 ^ o.ls ≤ 256 / o.w * (2 ^ o.w - 1) * 2 ^ o.ls = mul-le-mul_right (2 ^ o.ls) sum-some in
      cases_lt o.ls 16 (λ g. g)
      (λ g. let b : 2 ^ 16 ≤ 2 ^ o.ls = pow_mono {i = 16} g in absurd (omega (arith, row.sum_fits)))

-- each of i values adds at most 2^w - 1
pub sum-most : (w : ℕ) (S : List ℕ) (i : ℕ) → sum_to w S i ≤ i * (2 ^ w - 1)
unfolding sum_to
sum-most w S zero = omega arith
sum-most w S (suc i) = omega (arith, sum-most w S i, suc-mul i (2 ^ w - 1))

-- the sum, shifted, fits the two bytes of the checksum
pub checksum_fits : (o : Ots) → Row o → (S : List ℕ) → sum_to o.w S (256 / o.w) * 2 ^ o.ls < 65536
checksum_fits o row S =
    let m : sum_to o.w S (256 / o.w) * 2 ^ o.ls ≤ 256 / o.w * (2 ^ o.w - 1) * 2 ^ o.ls =
    mul-le-mul_right (2 ^ o.ls) (sum-most o.w S (256 / o.w)) in
    omega (arith, row.sum_fits)

-- so the code's shift loses nothing
pub checksum_held : (o : Ots) → Row o → (S : List ℕ)
    → sum_to o.w S (256 / o.w) * 2 ^ o.ls % 18446744073709551616 ≡ sum_to o.w S (256 / o.w) * 2 ^ o.ls
checksum_held o row S = omega (arith, checksum_fits o row S)

-- and the checksum has all of it
pub checksum_whole : (o : Ots) → Row o → (S : List ℕ) → number_at 2 (Cksm o S) 0 ≡ sum_to o.w S (256 / o.w) * 2 ^ o.ls
unfolding Cksm
checksum_whole o row S =
    let n : ℕ = sum_to o.w S (256 / o.w) * 2 ^ o.ls in
    ap (λ (s : List ℕ). number_at 2 s 0) (sym (append-nil (be 2 n))) ∙ number-be 2 n [] (checksum_fits o row S)
