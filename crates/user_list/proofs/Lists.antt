-- What holds of the user list.
use mathlib.Core.Path.{◌≡◌, refl, sym}
use mathlib.Core.Bool.{true}
use mathlib.Core.List.{List}
use Prim.Native.Nat.{ℕ, ◌*◌, ◌/◌, ◌%◌, ◌≤◌}
use native.Mathlib.Omega.{arith}
use lib.Dec.{eqb, leb}
use lib.ListN.{length}
use borrow.Author.Tests.{leb-true, le-leb, lt-leb}
use Rattle.user_list.specs.Users.{user_count, is_listed, list_fits, group_fits, signature_length, tree_length, signature_count}
use Rattle.user_list.specs.Users.{longest_signature, longest_tree}
use Rattle.lms.specs.Tree.{tree_size}
use Rattle.lms.specs.Signature.{signature_size}
use Rattle.tree.proofs.Cases.{and-true, by_leb}

-- a group that passes has 2 to 16 servers and at most 64 users
pub record GroupInRange (servers : ℕ) (users : List ℕ) : Type 0 where
  pub two : 2 ≤ servers
  pub sixteen : servers ≤ 16
  pub few : user_count users ≤ 64

pub group-fits : (servers : ℕ) (users : List ℕ) → group_fits servers users ≡ true → GroupInRange servers users
unfolding group_fits list_fits
group-fits servers users e =
    let a = and-true (leb 2 servers) _ e in
    let b = and-true (leb servers 16) _ a.1 in
    let c = and-true (eqb (length users % 56) 0) _ b.1 in
    let d = and-true (leb 1 (user_count users)) _ c.1 in
    record { two = leb-true 2 servers a.0; sixteen = leb-true servers 16 b.0; few = leb-true (user_count users) 64 d.1 }

-- a listed number is one of 1 to the count
pub listed : (users : List ℕ) (a : ℕ) → is_listed users a ≡ true → (1 ≤ a) × (a ≤ user_count users)
unfolding is_listed
listed users a e =
    let x = and-true (leb 1 a) _ e in
    (leb-true 1 a x.0, leb-true a (user_count users) x.1)

-- a listed number, by the length that the keys up to it take
pub listed_by_length : (n a : ℕ) → leb (56 * a) n ≡ leb a (n / 56)
listed_by_length n a =
    by_leb (λ t. t ≡ leb a (n / 56)) (56 * a) n
    (λ h. sym (le-leb a (n / 56) (omega arith)))
    (λ h. sym (lt-leb a (n / 56) (omega arith)))

-- every key is of one type, so all signatures are of one length, and all keys have one length and make as many; none is longer
pub one-length : (users : List ℕ) (a : ℕ) → signature_length users a ≡ longest_signature
unfolding signature_length signature_size
one-length users a = refl

pub one-tree : (users : List ℕ) (a : ℕ) → tree_length users a ≡ longest_tree
unfolding tree_length tree_size
one-tree users a = refl

pub one-count : (users : List ℕ) (a : ℕ) → signature_count users a ≡ 1024
unfolding signature_count
one-count users a = refl

pub signature-most : (users : List ℕ) (a : ℕ) → signature_length users a ≤ longest_signature
unfolding signature_length signature_size
signature-most users a = omega arith
