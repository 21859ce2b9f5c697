-- A line of a file of cases: up to 16 numbers with a space between them, counted from 0, a bar before number 10.
use Rattle.std.specs.Prelude.{cond, ◌||◌, ◌&&◌, List, [], ◌∷◌, ℕ, ◌+◌, ◌-◌, ◌*◌, ◌%◌, leb, ltb, eqb, get_or, set}
use Rattle.sha256.specs.Bytes.{written}
use Rattle.lines.specs.Memory.{zeros}

-- Which number is read after the byte b: a space, 32, goes on to the next, and a bar, 124, to the one before the changes.
unfoldable pub number_after : ℕ → ℕ → ℕ
number_after k b = cond (eqb b 124) 9 (cond (eqb b 32) ((k % 16 + 1) % 16) (k % 16))

-- A number with one more digit, where b is one; at most nine digits are kept.
unfoldable pub longer : ℕ → ℕ → ℕ
longer v b = cond (eqb b 32 || eqb b 124) v (v % 100000000 * 10 + b % 16 % 10)

-- The numbers f with what the rest of a text says, number k being read.
unfoldable pub numbers_from : List ℕ → ℕ → List ℕ → List ℕ
numbers_from [] k f = f
numbers_from (b ∷ s) k f =
    let n = number_after k b in numbers_from s n (set f n (longer (get_or f n 0) b))

-- The numbers of a text, 0 for those that it has not.
unfoldable pub numbers_of : List ℕ → List ℕ
numbers_of text = numbers_from text 0 (zeros 16)

-- The settings with one of them changed; a change of what is no setting does nothing.
unfoldable pub changed_once : List ℕ → ℕ → ℕ → List ℕ
changed_once s what value = cond (ltb what 12) (set s what value) s

-- The settings with the three changes of a line: numbers 10 to 15, each a pair of what is changed and its value.
unfoldable pub changed : List ℕ → List ℕ → List ℕ
changed s f =
    changed_once (changed_once (changed_once s (get_or f 10 0) (get_or f 11 0)) (get_or f 12 0) (get_or f 13 0)) (get_or f 14 0) (get_or f 15 0)

-- d with one byte changed, where the change is one of the 2,900 from `first` on: that many bytes after the skipped ones.
unfoldable pub patched : List ℕ → ℕ → ℕ → ℕ → ℕ → List ℕ
patched d first skip what value =
    cond (leb first what && ltb (what - first) 2900) (written d (what - first + skip) (value % 256 ∷ [])) d
