-- FIPS 180-4's Ch by three operations: z xor (x and (y xor z)).
use Rattle.std.proofs.Common.{◌≡◌, ℕ, zero, suc, ◌-◌, ◌/◌, ◌%◌, ◌^◌, ◌<◌, sym, refl, ◌∙◌, pow-suc, arith}
use lib.Bits.{bit_and, bit_xor, and_shr, xor_shr, and_mod, xor_mod}
use Rattle.sha256.specs.Word.{Ch, ¬32}

-- both sides, on words of k bits
abbrev by_three : ℕ → ℕ → ℕ → ℕ
by_three x y z = bit_xor z (bit_and x (bit_xor y z))

abbrev by_four : ℕ → ℕ → ℕ → ℕ → ℕ
by_four k x y z = bit_xor (bit_and x y) (bit_and (2 ^ k - 1 - x) z)

on-one_bit : (x y z : ℕ) → x < 2 → y < 2 → z < 2 → by_three x y z ≡ by_four 1 x y z
on-one_bit zero zero zero p q r = refl
on-one_bit zero zero (suc zero) p q r = refl
on-one_bit zero (suc zero) zero p q r = refl
on-one_bit zero (suc zero) (suc zero) p q r = refl
on-one_bit (suc zero) zero zero p q r = refl
on-one_bit (suc zero) zero (suc zero) p q r = refl
on-one_bit (suc zero) (suc zero) zero p q r = refl
on-one_bit (suc zero) (suc zero) (suc zero) p q r = refl
on-one_bit zero zero (suc (suc z)) p q r = absurd (omega arith)
on-one_bit zero (suc zero) (suc (suc z)) p q r = absurd (omega arith)
on-one_bit (suc zero) zero (suc (suc z)) p q r = absurd (omega arith)
on-one_bit (suc zero) (suc zero) (suc (suc z)) p q r = absurd (omega arith)
on-one_bit zero (suc (suc y)) z p q r = absurd (omega arith)
on-one_bit (suc zero) (suc (suc y)) z p q r = absurd (omega arith)
on-one_bit (suc (suc x)) y z p q r = absurd (omega arith)

-- two numbers are equal where their lowest bits and the rest are
bit_and-rest : (a b : ℕ) → a % 2 ≡ b % 2 → a / 2 ≡ b / 2 → a ≡ b
bit_and-rest a b p q = omega arith

-- what is above the lowest bit, of a word and of its complement
half_below : (k x : ℕ) → x < 2 ^ suc k → x / 2 < 2 ^ k
half_below k x p = omega (arith, pow-suc 2 k)

low_complement : (k x : ℕ) → x < 2 ^ suc k → (2 ^ suc k - 1 - x) % 2 ≡ 1 - x % 2
low_complement k x p = omega (arith, pow-suc 2 k)

high_complement : (k x : ℕ) → x < 2 ^ suc k → (2 ^ suc k - 1 - x) / 2 ≡ 2 ^ k - 1 - x / 2
high_complement k x p = omega (arith, pow-suc 2 k)

bit_below : (x : ℕ) → x % 2 < 2
bit_below x = omega arith

on_bits : (k x y z : ℕ) → x < 2 ^ k → y < 2 ^ k → z < 2 ^ k → by_three x y z ≡ by_four k x y z
on_bits zero zero zero zero p q r = refl
on_bits zero zero zero (suc z) p q r = absurd (omega arith)
on_bits zero zero (suc y) z p q r = absurd (omega arith)
on_bits zero (suc x) y z p q r = absurd (omega arith)
on_bits (suc k) x y z p q r =
    let n : ℕ = 2 ^ suc k - 1 - x in
    let low-three : by_three x y z % 2 ≡ by_three (x % 2) (y % 2) (z % 2) =
    xor_mod z (bit_and x (bit_xor y z)) 1 ∙ rw (and_mod x (bit_xor y z) 1, xor_mod y z 1) in
    let high-three : by_three x y z / 2 ≡ by_three (x / 2) (y / 2) (z / 2) =
    xor_shr z (bit_and x (bit_xor y z)) 1 ∙ rw (and_shr x (bit_xor y z) 1, xor_shr y z 1) in
    let low-four : by_four (suc k) x y z % 2 ≡ by_four 1 (x % 2) (y % 2) (z % 2) =
    xor_mod (bit_and x y) (bit_and n z) 1 ∙ rw (and_mod x y 1, and_mod n z 1, low_complement k x p) in
    let high-four : by_four (suc k) x y z / 2 ≡ by_four k (x / 2) (y / 2) (z / 2) =
    xor_shr (bit_and x y) (bit_and n z) 1 ∙ rw (and_shr x y 1, and_shr n z 1, high_complement k x p) in
    bit_and-rest (by_three x y z) (by_four (suc k) x y z)
    (low-three ∙ on-one_bit (x % 2) (y % 2) (z % 2) (bit_below x) (bit_below y) (bit_below z) ∙ sym low-four)
    (high-three
    ∙ on_bits k (x / 2) (y / 2) (z / 2) (half_below k x p) (half_below k y q) (half_below k z r)
    ∙ sym high-four)

pub ch_by_three : (x y z : ℕ) → x < 2 ^ 32 → y < 2 ^ 32 → z < 2 ^ 32 → by_three x y z ≡ Ch x y z
unfolding Ch ¬32
ch_by_three x y z p q r = on_bits 32 x y z p q r
