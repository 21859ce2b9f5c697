-- What the range tests of the exports tell.
use mathlib.Core.Path.{◌≡◌, ◌∙◌, sym}
use mathlib.Core.Bool.{Bool, true, ◌&&◌}
use mathlib.Core.List.{List}
use Prim.Native.Nat.{ℕ, zero, suc, ◌+◌, ◌*◌, ◌/◌, ◌%◌, ◌≤◌, ◌<◌}
use native.Mathlib.Nat.{mul-le-mul_right}
use native.Mathlib.Omega.{arith}
use lib.Dec.{eqb, leb}
use lib.ListN.{length}
use borrow.Author.Tests.{leb-true}
use Rattle.tree.specs.Level.{lg}
use Rattle.tree.specs.Label.{label}
use Rattle.tree.proofs.Levels.{lg_below}
use Rattle.tree.proofs.Labels.{nodes-closed}
use Rattle.tree.proofs.Cases.{and-true}
use Rattle.kozbrax.specs.Tree.{is_position, is_count, leaves_fit}

-- what tests that are passed tell
within-told : (least most n : ℕ) → (leb least n && leb n most) ≡ true → (least ≤ n) × (n ≤ most)
within-told least most n e = let t = and-true (leb least n) (leb n most) e in (leb-true least n t.0, leb-true n most t.1)

pub position-told : (p : ℕ) → is_position p ≡ true → (1 ≤ p) × (p ≤ 1048576)
unfolding is_position
position-told p e = within-told 1 1048576 p e

pub count-told : (n : ℕ) → is_count n ≡ true → (2 ≤ n) × (n ≤ 16)
unfolding is_count
count-told n e = within-told 2 16 n e

-- the labels of a log fit 32 bits
pub label_small : (p : ℕ) → 1 ≤ p → p ≤ 1048576 → label p 0 < 4294967296
unfolding label
label_small zero a h = absurd (omega arith)
label_small (suc n) a h =
    let k : lg n ≤ 20 = lg_below n 20 (omega arith) in
    let m : (lg n + 1) * n ≤ 21 * n = mul-le-mul_right n (omega arith) in
    omega (arith, nodes-closed n)

-- the leaves of a digest
pub leaves-told : (s : List ℕ) → leaves_fit s ≡ true → length s / 32 ≤ 1048576
unfolding leaves_fit
leaves-told s e = (position-told (length s / 32) (and-true (eqb (length s % 32) 0) _ e).1).1

-- a test that is passed
pub passed : {a b : Bool} → a ≡ b → a ≡ true → b ≡ true
passed {a} {b} e n = sym e ∙ n
