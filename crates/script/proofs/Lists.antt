-- A turn of the loop over what a line lists.
use mathlib.Core.Path.{◌≡◌, ◌∙◌, sym}
use mathlib.Core.Bool.{Bool, true, false}
use mathlib.Core.List.{List}
use Prim.Native.Nat.{ℕ, suc, ◌+◌, ◌-◌, ◌≤◌, ◌<◌}
use native.Mathlib.Omega.{arith}
use lib.ListN.{length}
use borrow.Author.Tests.{le-leb, lt-leb}
use Rattle.script.specs.declared.Fault.{Fault}
use Rattle.script.specs.declared.list.Item.{Item}
use Rattle.script.specs.Listed.{item_at, is_fault, list_fault}

-- `count` of at most `most` were right, and the next is at a place.
module _ (minutes : Bool) (text : List ℕ) (most count at : ℕ) (whole : Fault) (e : whole ≡ list_fault minutes (most - count) text at)
    (more : count < most) (item : Item) (i : item ≡ item_at minutes text at) where
  next_one : whole ≡ list_fault minutes (suc (most - (count + 1))) text at
  next_one = let n : suc (most - (count + 1)) ≡ most - count = omega arith in e ∙ rw n

  pub is_wrong_lem : is_fault item.fault ≡ true → item.fault ≡ whole
  unfolding list_fault
  is_wrong_lem w = sym (next_one ∙ rw (← i, w))

  module _ (right : is_fault item.fault ≡ false) where
    pub is_last : length text ≤ item.next → Fault.Nothing ≡ whole
    unfolding list_fault
    is_last h = sym (next_one ∙ rw (← i, right, le-leb (length text) item.next h))

    pub is_followed : item.next < length text → whole ≡ list_fault minutes (most - (count + 1)) text item.next
    unfolding list_fault
    is_followed h = next_one ∙ rw (← i, right, lt-leb (length text) item.next h)
