-- What the crates above know of SHA-256, whose definition stays shut to them: a hash has 32 bytes, each below 256.
use Rattle.std.proofs.Common.{◌≡◌, ℕ, zero, suc, ◌/◌, ◌<◌, List, length, get_or, refl, ◌∙◌, arith}
use Rattle.sha256.specs.Constants.{H0}
use Rattle.sha256.specs.Block.{sums, compress}
use Rattle.sha256.specs.Hash.{pad, hash_value, sha256}
use Rattle.sha256.proofs.Words.{bytes-length, bytes_below}

hash_value-length : (i : ℕ) (m : List ℕ) → length (hash_value i m) ≡ 8
unfolding hash_value H0 compress sums
hash_value-length zero m = refl
hash_value-length (suc i) m = refl

pub sha256-length : (m : List ℕ) → length (sha256 m) ≡ 32
unfolding sha256
sha256-length m =
    bytes-length (hash_value (length (pad m) / 64) (pad m)) ∙ omega (arith, hash_value-length (length (pad m) / 64) (pad m))

pub sha256-bytes : (m : List ℕ) (i : ℕ) → get_or (sha256 m) i 0 < 256
unfolding sha256
sha256-bytes m i = bytes_below (hash_value (length (pad m) / 64) (pad m)) i
