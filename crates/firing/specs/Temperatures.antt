-- A word for the laws of firings (proofs/Firings).
use Rattle.std.specs.Prelude.{List, [], ◌∷◌, ℕ}
use Rattle.firing.specs.declared.segment.Segment.{Segment}

-- The temperature after segments, where the one before them is given.
unfoldable pub reached : ℕ → List Segment → ℕ
reached before [] = before
reached before (s ∷ rest) = reached s.target rest
