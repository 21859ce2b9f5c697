-- How long a script may be.
use Rattle.std.specs.Prelude.{Bool, List, ℕ, ltb, length}

-- docs/STUDIO.md: "A script has at most 65,536 bytes."
unfoldable pub too_long : List ℕ → Bool
too_long text = ltb 65536 (length text)
