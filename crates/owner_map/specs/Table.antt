-- The table of paths as document 01 prints it, byte for byte.
use Rattle.std.specs.Prelude.{cond, List, [], ◌∷◌, ◌++◌, ℕ, zero, suc, ◌+◌, ◌-◌, ◌/◌, ◌%◌, ltb, length}
use Rattle.tree.specs.Level.{lg}
use Rattle.tree.specs.Label.{label, owner, wait}

-- The decimal digits of n as text, the highest first. At most f digits.
unfoldable pub digits_in : ℕ → ℕ → List ℕ
digits_in zero n = []
digits_in (suc f) n = cond (ltb n 10) ((48 + n) ∷ []) (digits_in f (n / 10) ++ ((48 + n % 10) ∷ []))

-- All of them: a number is below ten to the power of itself and one.
unfoldable pub decimal : ℕ → List ℕ
decimal n = digits_in (suc n) n

-- A number, and the byte behind it.
unfoldable pub cell : ℕ → ℕ → List ℕ
cell n end = decimal n ++ (end ∷ [])

-- Document 01: "columns are position, first label, owner of leaf, owner of digest, Q." Blanks between them, and a line end.
unfoldable pub row : ℕ → ℕ → List ℕ
row n p =
    cell p 32 ++ cell (label p 0) 32 ++ cell (owner n p 0) 32 ++ cell (owner n p (lg p)) 32 ++ cell (wait p n) 10

-- The rows of the k positions behind p.
unfoldable pub rows : ℕ → ℕ → ℕ → List ℕ
rows n p zero = []
rows n p (suc k) = rows n p k ++ row n (p + suc k)

-- `p first leaf root wait` and a line end.
unfoldable pub head_line : List ℕ
head_line =
    112 ∷ 32 ∷ 102 ∷ 105 ∷ 114 ∷ 115 ∷ 116 ∷ 32 ∷ 108 ∷ 101 ∷ 97 ∷ 102 ∷ 32
    ∷ 114 ∷ 111 ∷ 111 ∷ 116 ∷ 32 ∷ 119 ∷ 97 ∷ 105 ∷ 116 ∷ 10 ∷ []

-- The table of n servers up to a last position.
unfoldable pub table : ℕ → ℕ → List ℕ
table n last = head_line ++ rows n 0 last

-- How many of the k rows behind p are laid into so many bytes of room. A row is laid where 105 bytes are free, which no row exceeds: five
-- numbers of at most 20 digits, and a byte behind each.
unfoldable pub fitting : ℕ → ℕ → ℕ → ℕ → ℕ
fitting n p zero room = 0
fitting n p (suc k) room = cond (ltb room 105) 0 (suc (fitting n (suc p) k (room - length (row n (suc p)))))

-- A piece of the table: the rows behind p, up to a last position, that are laid into so many bytes of room.
unfoldable pub piece : ℕ → ℕ → ℕ → ℕ → List ℕ
piece n p last room = rows n p (fitting n p (last - p) room)
