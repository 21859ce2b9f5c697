-- Users' keys in one slice: the list of public keys in the first 3,640 bytes, then the trees of users 1, 2 and 3.
use Rattle.std.specs.Prelude.{List, ℕ, ◌+◌, ◌*◌, ◌%◌, replicate}
use Rattle.lines.specs.Memory.{zeros}
use Rattle.sha256.specs.Bytes.{written}
use Rattle.lms.specs.Types.{LMOTS_SHA256_N32_W4, LMS_SHA256_M32_H10}
use Rattle.lms.specs.Calls.{generated, public_key_written}

-- How many users stand before user 1, 2 or 3.
unfoldable pub before : ℕ → ℕ
before a = (a + 2) % 3

-- Where the tree of user a stands.
unfoldable pub tree_at : ℕ → ℕ
tree_at a = 3640 + 65504 * before a

-- Where the place of user a stands, where places of 16,384 bytes begin a slice.
unfoldable pub place_at : ℕ → ℕ
place_at a = 16384 * before a

-- The key of user a: its seed is the number 32 times, its identifier the number 16 times.
unfoldable pub tree_of : ℕ → List ℕ
tree_of a = generated LMOTS_SHA256_N32_W4 LMS_SHA256_M32_H10 (replicate 16 a) (replicate 32 a) (zeros 65504)

unfoldable pub public_of : ℕ → List ℕ
public_of a = public_key_written LMOTS_SHA256_N32_W4 LMS_SHA256_M32_H10 (replicate 16 a) (tree_of a) (zeros 56)

-- The slice with the key of user a in its places.
unfoldable pub keys_with : ℕ → List ℕ → List ℕ
keys_with a keys = written (written keys (56 * before a) (public_of a)) (tree_at a) (tree_of a)
