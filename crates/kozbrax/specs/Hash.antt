-- A hash of 32 bytes into a lent buffer. (`written` leaves a buffer in which it does not fit as it was, and the bytes past it.)
use Rattle.std.specs.Prelude.{cond, List, ℕ, ltb, length}

-- Document 01, code 21: a lent buffer is too short, here below the 32 bytes of a hash. Else 0.
unfoldable pub hash_code : List ℕ → ℕ
hash_code out = cond (ltb (length out) 32) 21 0
