-- Parts of joined strings.
use mathlib.Core.Path.{◌≡◌, refl, ◌∙◌}
use mathlib.Core.List.{List, ◌++◌, append_assoc}
use mathlib.Core.Logic.{⊎_elim}
use Prim.Native.Nat.{ℕ, zero, suc, ◌+◌, ◌*◌, ◌≤◌, ◌<◌}
use native.Mathlib.Nat.{eq-or-lt_of_le}
use native.Mathlib.Numerals.{add-one}
use native.Mathlib.Omega.{arith}
use lib.ListN.{length, take, drop, length-append}
use lib.Seq.{take_at, drop_at}
use Rattle.lms.specs.Types.{cat}

pub cat_more : (S : ℕ → List ℕ) (i : ℕ) → cat S (i + 1) ≡ cat S i ++ S i
unfolding cat
cat_more S i = rw add-one

pub cat_equal : (S R : ℕ → List ℕ) (n : ℕ) → ((i : ℕ) → i < n → S i ≡ R i) → cat S n ≡ cat R n
unfolding cat
cat_equal S R zero e = refl
cat_equal S R (suc n) e = rw (cat_equal S R n (λ i g. e i (omega arith)), e n (omega arith))

-- strings of 32 bytes, joined
module _ (S : ℕ → List ℕ) (N : ℕ) (l : (i : ℕ) → i < N → length (S i) ≡ 32) where
  pub cat-length : (n : ℕ) → n ≤ N → length (cat S n) ≡ 32 * n
  unfolding cat
  cat-length zero h = refl
  cat-length (suc n) h = length-append (cat S n) (S n) ∙ omega (arith, cat-length n (omega arith), l n (omega arith))

  -- the string at i, whatever follows
  pub cat_part : (n i : ℕ) (rest : List ℕ) → n ≤ N → i < n → take 32 (drop (32 * i) (cat S n ++ rest)) ≡ S i
  unfolding cat
  cat_part zero i rest h g = absurd (omega arith)
  cat_part (suc n) i rest h g =
      let le : i ≤ n = omega arith in
      ⊎_elim
      (λ (e : i ≡ n).
      let k : length (cat S n) ≡ 32 * i = cat-length n (omega arith) ∙ (rw e) in
      rw (append_assoc, drop_at (cat S n) (S n ++ rest) (32 * i) k, take_at (S n) rest 32 (l n (omega arith)), e))
      (λ (q : i < n). rw append_assoc (cat_part n i (S n ++ rest) (omega arith) q))
      (eq-or-lt_of_le le)
