-- Bytes and big-endian numbers, for the hash and for every message above it.
use Rattle.std.specs.Prelude.{ℕ, zero, suc, ◌+◌, ◌*◌, ◌/◌, ◌%◌, ◌^◌, Bool, true, false, cond, ◌&&◌, List, [], ◌∷◌, ◌++◌, length, take, drop, ◌==◌, nat_le, slice_index}

-- The k bytes of n, the highest first. Of a number that needs more than k bytes, its k lowest.
unfoldable pub be : ℕ → ℕ → List ℕ
be zero n = []
be (suc k) n = n / 256 ^ k % 256 ∷ be k n

-- The number that the k bytes of s from place i on stand for, the highest first. A byte past the end counts as 0.
unfoldable pub number_at : ℕ → List ℕ → ℕ → ℕ
number_at zero s i = 0
number_at (suc k) s i = slice_index s i * 256 ^ k + number_at k s (suc i)

-- d with src at place `at`; the other bytes keep their contents. Where src does not fit whole, nothing is written.
unfoldable pub written : List ℕ → ℕ → List ℕ → List ℕ
written d at src = cond (nat_le (at + length src) (length d)) (take at d ++ src ++ drop (at + length src) d) d

-- Whether two lists of bytes are the same.
unfoldable pub eqs : List ℕ → List ℕ → Bool
eqs [] [] = true
eqs [] (y ∷ ys) = false
eqs (x ∷ xs) [] = false
eqs (x ∷ xs) (y ∷ ys) = x == y && eqs xs ys
