-- What an input of the program `paths` asks for.
use Rattle.std.specs.Prelude.{Bool, cond, ◌&&◌, List, ℕ, leb, ltb, eqb, length}
use Rattle.lines.specs.Text.{is_blank, is_digit, run, past, number}
use Rattle.owner_map.specs.declared.input.Asked.{Asked}

-- 2 to 16 servers, and a last position from 1 to 1,048,576.
unfoldable pub in_range : ℕ → ℕ → Bool
in_range n last = leb 2 n && leb n 16 && (leb 1 last && leb last 1048576)

-- A text from its first number on, from its second number on, and behind its second number, without the blanks in front of each.
unfoldable pub first_part : List ℕ → List ℕ
first_part text = past is_blank text

unfoldable pub second_part : List ℕ → List ℕ
second_part text = past is_blank (past is_digit (first_part text))

unfoldable pub last_part : List ℕ → List ℕ
last_part text = past is_blank (past is_digit (second_part text))

-- Exactly two decimal numbers, with blanks around and between them.
unfoldable pub two_numbers : List ℕ → Bool
two_numbers text =
    ltb 0 (run is_digit (first_part text)) && ltb 0 (run is_digit (second_part text)) && eqb (length (last_part text)) 0

-- At most 4,096 bytes that are two numbers in range ask for a table. Any other input is refused.
unfoldable pub asked : List ℕ → Asked
asked text =
    cond
    (leb (length text) 4096 && two_numbers text && in_range (number (first_part text)) (number (second_part text)))
    (Asked.Table (number (first_part text)) (number (second_part text)))
    Asked.Refused
