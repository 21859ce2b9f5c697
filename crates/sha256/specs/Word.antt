-- FIPS 180-4, sections 2.2.2, 3.2 and 4.1.2: operations on words of 32 bits.
use Rattle.std.specs.Prelude.{ℕ, ◌-◌, ◌*◌, ◌/◌, ◌%◌, ◌^◌, bit_and, bit_or, bit_xor}

-- Section 2.2.2: the complement of a word.
unfoldable pub ¬32 : ℕ → ℕ
¬32 x = 2 ^ 32 - 1 - x

-- Section 2.2.2: x << n, the bits that leave the word dropped.
unfoldable pub SHL : ℕ → ℕ → ℕ
SHL n x = x * 2 ^ n % 2 ^ 32

-- Section 3.2: SHR^n(x) = x >> n.
unfoldable pub SHR : ℕ → ℕ → ℕ
SHR n x = x / 2 ^ n

-- Section 3.2: ROTR^n(x) = (x >> n) or (x << 32 - n).
unfoldable pub ROTR : ℕ → ℕ → ℕ
ROTR n x = bit_or (SHR n x) (SHL (32 - n) x)

-- Equation 4.2.
unfoldable pub Ch : ℕ → ℕ → ℕ → ℕ
Ch x y z = bit_xor (bit_and x y) (bit_and (¬32 x) z)

-- Equation 4.3.
unfoldable pub Maj : ℕ → ℕ → ℕ → ℕ
Maj x y z = bit_xor (bit_xor (bit_and x y) (bit_and x z)) (bit_and y z)

-- Equation 4.4.
unfoldable pub Σ0 : ℕ → ℕ
Σ0 x = bit_xor (bit_xor (ROTR 2 x) (ROTR 13 x)) (ROTR 22 x)

-- Equation 4.5.
unfoldable pub Σ1 : ℕ → ℕ
Σ1 x = bit_xor (bit_xor (ROTR 6 x) (ROTR 11 x)) (ROTR 25 x)

-- Equation 4.6.
unfoldable pub σ0 : ℕ → ℕ
σ0 x = bit_xor (bit_xor (ROTR 7 x) (ROTR 18 x)) (SHR 3 x)

-- Equation 4.7.
unfoldable pub σ1 : ℕ → ℕ
σ1 x = bit_xor (bit_xor (ROTR 17 x) (ROTR 19 x)) (SHR 10 x)
