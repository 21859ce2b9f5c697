-- The numbers of a line: decimal digits that a blank or the line's end follows.
use Rattle.std.specs.Prelude.{Bool, true, false, cond, not, ◌&&◌, List, [], ◌∷◌, ℕ, leb, drop}
use Rattle.lines.specs.Text.{is_blank, digits_at, after_blanks}
use Rattle.lines.specs.declared.Digits.{Digits}
use Rattle.script.specs.declared.number.Range.{Range}

-- Whether a number can end before these bytes: they are none, or a blank is the first.
unfoldable pub ends_before : List ℕ → Bool
ends_before [] = true
ends_before (b ∷ s) = is_blank b

-- The number at a place. It counts as missing where neither a blank nor the line's end follows it.
unfoldable pub whole_number : List ℕ → ℕ → Digits
whole_number line at =
    let d = digits_at line at in
    cond (ends_before (drop d.next line)) d (record { value = 0; found = false; next = d.next })

-- The number after the blanks at a place.
unfoldable pub next_number : List ℕ → ℕ → Digits
next_number line at = whole_number line (after_blanks line at)

-- Whether a number is there, in a range.
unfoldable pub is_within : Digits → Range → Bool
is_within d range = d.found && (leb range.least d.value && leb d.value range.most)

-- The numbers that two bytes hold.
unfoldable pub two_bytes : Range
two_bytes = record { least = 0; most = 65535 }

-- Whether number k of a line is wrong, of which its command takes so many.
unfoldable pub is_wrong : ℕ → ℕ → Digits → Range → Bool
is_wrong k numbers d range = leb k numbers && not (is_within d range)
