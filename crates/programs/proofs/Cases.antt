-- The loop over the bytes of a line of a file of cases.
use mathlib.Core.Path.{◌≡◌, ◌∙◌}
use mathlib.Core.List.{List}
use Prim.Native.Nat.{ℕ, ◌+◌, ◌≤◌, ◌<◌}
use native.Mathlib.Numerals.{add-one}
use lib.ListN.{length, drop, get_or, set, drop_of_length-le}
use lib.Seq.{drop-cons}
use Rattle.programs.specs.Case.{number_after, longer, numbers_from}

module _ (text f whole : List ℕ) (i k : ℕ) (e : whole ≡ numbers_from (drop i text) k f) where
  pub byte_read : (n v : ℕ) → i < length text → n ≡ number_after k (get_or text i 0) → v ≡ longer (get_or f n 0) (get_or text i 0)
      → whole ≡ numbers_from (drop (i + 1) text) n (set f n v)
  unfolding numbers_from
  byte_read n v h a b = e ∙ rw (add-one, drop-cons text i 0 h, b, a)

  pub all_read : length text ≤ i → f ≡ whole
  unfolding numbers_from
  all_read h = rw (e, drop_of_length-le text {i = i} h)
