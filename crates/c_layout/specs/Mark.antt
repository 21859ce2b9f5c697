-- How a mark is laid.
use Rattle.std.specs.Prelude.{Bool, cond, ℕ}

-- A mark is a byte: 1 for yes, 0 for no.
unfoldable pub mark_of : Bool → ℕ
mark_of b = cond b 1 0
