-- Text as programs read it: which bytes are blanks and digits, how many of them a text begins with, and decimal numbers.
use Rattle.std.specs.Prelude.{Bool, cond, not, ◌&&◌, ◌||◌, List, [], ◌∷◌, ℕ, suc, ◌+◌, ◌-◌, ◌*◌, min, leb, ltb, eqb, length, drop, get_or}
use Rattle.lines.specs.declared.Digits.{Digits}

-- A space, a tab or a byte of a line end.
unfoldable pub is_blank : ℕ → Bool
is_blank b = eqb b 32 || eqb b 9 || eqb b 10 || eqb b 13

unfoldable pub is_digit : ℕ → Bool
is_digit b = leb 48 b && leb b 57

unfoldable pub is_other : ℕ → ℕ → Bool
is_other x b = not (eqb b x)

-- How many bytes that pass the test t stand at the front of s.
unfoldable pub run : (ℕ → Bool) → List ℕ → ℕ
run t [] = 0
run t (b ∷ s) = cond (t b) (suc (run t s)) 0

-- What stands behind them.
unfoldable pub past : (ℕ → Bool) → List ℕ → List ℕ
past t s = drop (run t s) s

-- Where the LF of the first line of s stands, or the length of s where there is none.
unfoldable pub line_feed : List ℕ → ℕ
line_feed s = run (is_other 10) s

-- Whether the first line of s ends with CR and LF: there is an LF, and a CR stands before it.
unfoldable pub ends_with_return : List ℕ → Bool
ends_with_return s = ltb (line_feed s) (length s) && eqb (get_or s (line_feed s - 1) 0) 13

-- How many bytes the first line of s has without its line end, which is LF, or CR and LF, or at the end of s nothing.
unfoldable pub line_length : List ℕ → ℕ
line_length s = cond (ends_with_return s) (line_feed s - 1) (line_feed s)

-- The number that the digits at the front of s stand for, behind digits that stand for v.
unfoldable pub number_from : ℕ → List ℕ → ℕ
number_from v [] = v
number_from v (b ∷ s) = cond (is_digit b) (number_from (v * 10 + (b - 48)) s) v

-- The number that the digits at the front of s stand for, 0 where there are none.
unfoldable pub number : List ℕ → ℕ
number s = number_from 0 s

-- The decimal number at a place of a text: its value, at most 9,999,999, whether a digit is there, and the place behind it.
unfoldable pub digits_at : List ℕ → ℕ → Digits
digits_at text at =
    let s = drop at text in record { value = min (number s) 9999999; found = ltb 0 (run is_digit s); next = at + run is_digit s }

-- The first place from `at` on that is no blank.
unfoldable pub after_blanks : List ℕ → ℕ → ℕ
after_blanks text at = at + run is_blank (drop at text)
