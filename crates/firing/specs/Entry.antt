-- The shapes of entries. Document 01, 'User': "Entry: byte 1 and text inserts"; the others are below.
use Rattle.std.specs.Prelude.{Bool, cond, ◌&&◌, ◌||◌, List, ℕ, eqb, leb, length, get_or}
use Rattle.sha256.specs.Bytes.{number_at}

-- Document 01: "byte 2 and a position (4 bytes, exactly 5 in all) strikes"
unfoldable pub strikes : List ℕ → Bool
strikes entry = eqb (get_or entry 0 0) 2 && eqb (length entry) 5

-- Document 02, d: "Entries with first byte 3 hold a firing."
unfoldable pub is_schedule : List ℕ → Bool
is_schedule entry = eqb (get_or entry 0 0) 3

-- 19's shape: "entry length 0 or over 1,024, bad first byte or strike length"
unfoldable pub entry_fits : List ℕ → Bool
entry_fits entry = leb 1 (length entry) && (leb (length entry) 1024 && (eqb (get_or entry 0 0) 1 || (strikes entry || is_schedule entry)))

-- The position that an entry strikes, which is what the board's list of targets has for it: "0 for an insertion". Document 02, d: "On the
-- board such an entry counts as an insertion."
unfoldable pub target_of : List ℕ → ℕ
target_of entry = cond (strikes entry) (number_at 4 entry 1) 0
