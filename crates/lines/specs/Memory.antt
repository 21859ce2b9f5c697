-- The memory that programs begin with.
use Rattle.std.specs.Prelude.{List, ℕ, replicate}

-- So many zero bytes. It stays shut, so that no proof computes with the list.
unfoldable pub zeros : ℕ → List ℕ
zeros n = replicate n 0
