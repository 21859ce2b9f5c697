-- The numbers that a text lists with blanks between them. One below 0 stands for its two's complement in four bytes.
use Rattle.std.specs.Prelude.{cond, List, [], ◌∷◌, ℕ, zero, suc, ◌+◌, ◌-◌, ◌%◌, ◌^◌, leb, eqb, length, drop, get_or}
use Rattle.lines.specs.Text.{is_other, run, digits_at, after_blanks}
use Rattle.lines.specs.declared.Digits.{Digits}

-- A number below 0, of which these are the digits.
unfoldable pub negated : Digits → Digits
negated d = record { value = (2 ^ 32 - d.value) % 2 ^ 32; found = d.found; next = d.next }

-- The number at a place; 45 is the minus sign.
unfoldable pub signed_at : List ℕ → ℕ → Digits
signed_at text at = cond (eqb (get_or text at 0) 45) (negated (digits_at text (at + 1))) (digits_at text at)

-- What follows the word or the number that a text begins with: it ends at a space, 32.
unfoldable pub after : List ℕ → List ℕ
after text = drop 1 (drop (run (is_other 32) text) text)

-- The numbers from a place on, at most k.
unfoldable pub numbers_at : List ℕ → ℕ → ℕ → List ℕ
numbers_at text at zero = []
numbers_at text at (suc k) =
    cond (leb (length text) at) []
    ((signed_at text at).value ∷ numbers_at text (after_blanks text (signed_at text at).next) k)

-- The numbers of a text, at most k.
unfoldable pub numbers_in : List ℕ → ℕ → List ℕ
numbers_in text k = numbers_at text (after_blanks text 0) k
