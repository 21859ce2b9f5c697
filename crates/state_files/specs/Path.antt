-- The path of a file in a folder, as it is laid into a buffer.
use Rattle.std.specs.Prelude.{ℕ, ◌+◌, Bool, cond, ◌&&◌, List, [], ◌∷◌, ◌++◌, length, nat_le}
use Rattle.sha256.specs.Bytes.{written}

-- The folder, a slash, 47, and the file's name.
unfoldable pub path : List ℕ → List ℕ → List ℕ
path folder name = folder ++ (47 ∷ []) ++ name

-- A folder's name has at most 4,000 bytes and a file's 64, and a buffer has room for both.
unfoldable pub has_path : List ℕ → List ℕ → List ℕ → Bool
has_path folder name out =
    nat_le (length folder) 4000 && nat_le (length name) 64 && nat_le (length folder + 1 + length name) (length out)

-- The path's length, and what the buffer holds: 0, which names no file, and nothing is laid, where a name is too long.
unfoldable pub path_length : List ℕ → List ℕ → List ℕ → ℕ
path_length folder name out = cond (has_path folder name out) (length folder + 1 + length name) 0

unfoldable pub path_laid : List ℕ → List ℕ → List ℕ → List ℕ
path_laid folder name out = cond (has_path folder name out) (written out 0 (path folder name)) out
