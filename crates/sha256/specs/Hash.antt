-- FIPS 180-4, sections 5.1.1, 5.2.1 and 6.2: padding, blocks, and the hash of a message of bytes.
-- FIPS speaks of messages shorter than 2^64 bits. For a message of 2^61 bytes or more, where FIPS is silent,
-- the definition here writes the length in bits modulo 2^64.
use Rattle.std.specs.Prelude.{ℕ, zero, suc, ◌-◌, ◌*◌, ◌/◌, ◌%◌, List, [], ◌∷◌, ◌++◌, length, drop, replicate}
use Rattle.sha256.specs.Bytes.{be, number_at}
use Rattle.sha256.specs.Constants.{H0}
use Rattle.sha256.specs.Block.{compress}

-- Section 5.1.1: the bytes of zeros in the padding of n bytes, the least k with n + 1 + k ≡ 56 modulo 64.
unfoldable pub zeros : ℕ → ℕ
zeros n = (119 - n % 64) % 64

-- Section 5.1.1: what is appended to a message of n bytes: a bit 1 and zero bits, then the length in bits in eight bytes.
unfoldable pub padding : ℕ → List ℕ
padding n = 128 ∷ replicate (zeros n) 0 ++ be 8 (8 * n)

unfoldable pub pad : List ℕ → List ℕ
pad m = m ++ padding (length m)

-- Section 5.2.1: the first n words of bytes s, four bytes each.
unfoldable pub words : ℕ → List ℕ → List ℕ
words zero s = []
words (suc t) s = words t s ++ (number_at 4 s (4 * t) ∷ [])

-- Section 5.2.1: the sixteen words of block i + 1 of a padded message.
unfoldable pub block : ℕ → List ℕ → List ℕ
block i m = words 16 (drop (64 * i) m)

-- Section 6.2.2: the hash value H^(i) after the first i blocks.
unfoldable pub hash_value : ℕ → List ℕ → List ℕ
hash_value zero m = H0
hash_value (suc i) m = compress (hash_value i m) (block i m)

-- The bytes of words, the highest byte of each first.
unfoldable pub bytes : List ℕ → List ℕ
bytes [] = []
bytes (x ∷ xs) = be 4 x ++ bytes xs

-- Section 6.2.2, last step: H_0 to H_7 after the last block N, joined.
unfoldable pub sha256 : List ℕ → List ℕ
sha256 m = bytes (hash_value (length (pad m) / 64) (pad m))
