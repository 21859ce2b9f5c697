-- The value of a digit, and one turn of the decoding loop.
use mathlib.Core.Path.{◌≡◌, refl, ◌∙◌, sym}
use mathlib.Core.Bool.{Bool, true, false, ◌&&◌}
use mathlib.Core.List.{List, [], ◌∷◌, ◌++◌, append_assoc}
use Prim.Native.Nat.{ℕ, zero, suc, ◌+◌, ◌*◌, ◌≤◌, ◌<◌}
use native.Mathlib.Numerals.{add-one}
use native.Mathlib.Omega.{arith}
use lib.Dec.{leb}
use lib.ListN.{length, drop, get_or, set, length-append}
use lib.Seq.{drop-cons, set_at}
use borrow.Author.Tests.{leb-true}
use Rattle.lines.specs.Hexadecimal.{digit_value, decoded}

-- a number that is in a range
and-true : (a b : Bool) → a && b ≡ true → (a ≡ true) × (b ≡ true)
and-true true b e = (refl, e)
and-true false b e = let z : ◌≡◌ {A = ℕ} 0 1 = cc in absurd (omega arith)

pub within : (least most n : ℕ) → leb least n && leb n most ≡ true → (least ≤ n) × (n ≤ most)
within least most n e = let t = and-true (leb least n) (leb n most) e in (leb-true least n t.0, leb-true n most t.1)

decoded-length : (n : ℕ) (s : List ℕ) → length (decoded n s) ≡ n
unfolding decoded
decoded-length zero s = refl
decoded-length (suc n) s = length-append (decoded n s) _ ∙ omega (arith, decoded-length n s)

pub decoded_more : (s out old : List ℕ) (i x y : ℕ) → i < length old → out ≡ decoded i s ++ drop i old
    → x ≡ digit_value (get_or s (2 * i) 0) → y ≡ digit_value (get_or s (2 * i + 1) 0)
    → set out i (x * 16 + y) ≡ decoded (i + 1) s ++ drop (i + 1) old
unfolding decoded
decoded_more s out old i x y h e ex ey =
    rw (e, drop-cons old i 0 h, add-one)
    (set_at (decoded i s) (get_or old i 0) (drop (suc i) old) (x * 16 + y) i (decoded-length i s)
    ∙ rw (ex, ey) (sym (append_assoc (decoded i s) (_ ∷ []) (drop (suc i) old))))
