-- Hexadecimal digits as bytes: two digits to a byte, the higher first.
use Rattle.std.specs.Prelude.{cond, ◌&&◌, List, [], ◌∷◌, ◌++◌, ℕ, zero, suc, ◌+◌, ◌-◌, ◌*◌, leb, get_or}

-- The value of a digit 0 to 9 or a to f; 0 for any other byte.
unfoldable pub digit_value : ℕ → ℕ
digit_value f = cond (leb 48 f && leb f 57) (f - 48) (cond (leb 97 f && leb f 102) (f - 87) 0)

-- The first n bytes that digits stand for.
unfoldable pub decoded : ℕ → List ℕ → List ℕ
decoded zero s = []
decoded (suc i) s = decoded i s ++ ((digit_value (get_or s (2 * i) 0) * 16 + digit_value (get_or s (2 * i + 1) 0)) ∷ [])
