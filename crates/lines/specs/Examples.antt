-- Computed examples: where the first line of a text ends.
use Rattle.std.specs.Prelude.{◌≡◌, refl, [], ◌∷◌}
use Rattle.lines.specs.Text.{is_other, run, line_feed, ends_with_return, line_length}

-- "a" and LF; "a", CR and LF; LF alone; CR and LF alone. At the end of a text: "a"; "a" and CR, which no LF follows; nothing.
line_ends : (line_length (97 ∷ 10 ∷ []) ≡ 1) × (line_length (97 ∷ 13 ∷ 10 ∷ []) ≡ 1) × (line_length (10 ∷ []) ≡ 0)
    × (line_length (13 ∷ 10 ∷ []) ≡ 0) × (line_length (97 ∷ []) ≡ 1) × (line_length (97 ∷ 13 ∷ []) ≡ 2) × (line_length [] ≡ 0)
unfolding is_other run line_feed ends_with_return line_length
line_ends = (refl, refl, refl, refl, refl, refl, refl)
