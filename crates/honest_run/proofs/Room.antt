-- The records of an open write by the numbers of their requests: the kind, node and size of each, and the room that is left for them.
use mathlib.Core.Path.{◌≡◌, refl, ap, sym, ◌∙◌}
use mathlib.Core.Bool.{true}
use mathlib.Core.List.{◌++◌}
use Prim.Native.Nat.{ℕ, zero, suc, ◌+◌, ◌-◌, ◌≤◌, ◌<◌}
use native.Mathlib.Nat.{add-zero, add-suc}
use native.Mathlib.Omega.{arith}
use lib.ListN.{length, length-append}
use borrow.Author.Tests.{eq-eqb, ne_eqb, le-leb, lt-leb, lt-ltb, le-ltb}
use Rattle.tree.specs.Level.{lg, is_full, highest_full}
use Rattle.tree.specs.Label.{owner}
use Rattle.tree.proofs.Cases.{cases_eq}
use Rattle.tree.proofs.Levels.{full_iff}
use Rattle.user_list.proofs.Lists.{one-length}
use Rattle.store.specs.Shape.{level_fits, node_fits}
use Rattle.user_write.specs.Write.{commit_number, write_kind, write_level}
use Rattle.honest_run.specs.Network.{HonestSetup, public_to}
use Rattle.whole_run.specs.Runs.{Server}
use Rattle.honest_run.specs.Claim.{body_size, stored_to}
use Rattle.honest_run.proofs.Invariant.{Item, digest_of, body_of, PutKind, number_of, RoomLeft, SignedOk, body_at}
use Rattle.honest_run.proofs.Log.{hash_size, digest_size}
use Rattle.honest_run.proofs.Records.{node_in_log, full_within}

-- Request j of the open write, where it is a put or the Commit.
pub record PutAt (c : HonestSetup) (L : ℕ → Item) (w j : ℕ) : Type 0 where
  pub kind : ℕ
  pub level : ℕ
  pub kind-is : write_kind (suc w) j ≡ kind
  pub level_is : write_level (suc w) j ≡ level
  pub put : PutKind kind
  pub node : node_fits kind (suc w) level ≡ true
  pub number : number_of kind (suc w) level ≡ j
  pub commit : kind ≡ 8 → j ≡ commit_number (suc w)
  pub body_is : body_at L w j ≡ body_of L kind (suc w) level
  pub size_is : (j ≡ commit_number (suc w) → SignedOk c L w) → length (body_of L kind (suc w) level) ≡ body_size (suc w) (length (L w).entry) j

module _ (c : HonestSetup) (L : ℕ → Item) (w j : ℕ) (within : w < 1048576) (behind : lg (suc w) < j) (last : j ≤ commit_number (suc w)) where
  -- position w + 1 is at place w
  place : suc w - 1 ≡ w
  place = omega arith

  -- the entry
  put_entry : j ≡ lg (suc w) + 1 → PutAt c L w j
  unfolding write_kind write_level node_fits level_fits commit_number body_size
  put_entry e =
      let a = lt-leb j (lg (suc w)) behind in
      let b = eq-eqb j (lg (suc w) + 1) e in
      let d = lt-ltb j (lg (suc w) + 1 + highest_full (suc w) + 1) (omega arith) in
      let z : j - (lg (suc w) + 1) ≡ 0 = omega arith in
      record {
        kind = 6;
        level = 0;
        kind-is = rw (a, b);
        level_is = rw (a, d) z;
        put = (omega arith, omega arith);
        node = rw (node_in_log (suc w) 0 (omega arith) (omega arith) (omega arith));
        number = omega arith;
        commit = λ q. absurd (omega arith);
        body_is = rw (a, b) (ap (λ (i : ℕ). (L i).entry) (sym place));
        size_is = λ _. rw (b, place);
      }

  -- a full node above it
  put_node : (j ≡ lg (suc w) + 1 → ⊥) → j < commit_number (suc w) → PutAt c L w j
  unfolding write_kind write_level node_fits level_fits commit_number body_size
  put_node n h =
      let a = lt-leb j (lg (suc w)) behind in
      let b = ne_eqb j (lg (suc w) + 1) n in
      let d = lt-ltb j (lg (suc w) + 1 + highest_full (suc w) + 1) h in
      let l : ℕ = j - (lg (suc w) + 1) in
      let full : is_full (suc w) l ≡ true = full_iff (suc w) l (omega arith) ∙ le-leb l (highest_full (suc w)) (omega arith) in
      record {
        kind = 7;
        level = l;
        kind-is = rw (a, b, d);
        level_is = rw (a, d);
        put = (omega arith, omega arith);
        node = rw (node_in_log (suc w) l (omega arith) (omega arith) (full_within (suc w) l (omega arith) full), full) (le-leb 1 l (omega arith));
        number = omega arith;
        commit = λ q. absurd (omega arith);
        body_is = rw (a, b, d);
        size_is = λ _. rw (b, d) (hash_size L (suc w) l);
      }

  -- the Commit
  put_commit : j ≡ commit_number (suc w) → PutAt c L w j
  unfolding write_kind write_level node_fits level_fits commit_number body_size
  put_commit e =
      let a = lt-leb j (lg (suc w)) behind in
      let b = ne_eqb j (lg (suc w) + 1) (λ q. omega arith) in
      let d = le-ltb j (lg (suc w) + 1 + highest_full (suc w) + 1) (omega arith) in
      record {
        kind = 8;
        level = lg (suc w);
        kind-is = rw (a, b, d);
        level_is = rw (a, d);
        put = (omega arith, omega arith);
        node = rw (node_in_log (suc w) (lg (suc w)) (omega arith) (omega arith) (omega arith)) (eq-eqb (lg (suc w)) (lg (suc w)) refl);
        number = sym e;
        commit = λ _. e;
        body_is = rw (a, b, d) (ap (λ (i : ℕ). digest_of L (suc w) ++ (L i).signature) (sym place));
        size_is = λ signed. rw (b, d, place)
            (length-append (digest_of L (suc w)) (L w).signature ∙ omega (arith, digest_size L (suc w), (signed e).size, one-length (public_to c c.count) (L w).author));
      }

  -- a request behind the Reserves is one of these
  pub put_at : PutAt c L w j
  put_at =
      cases_eq j (lg (suc w) + 1) put_entry
      (λ n. cases_eq j (commit_number (suc w)) put_commit (λ m. put_node n (omega arith)))

-- what requests store on a server does not fall,
stored_rises : (n p size s i k : ℕ) → stored_to n p size s i ≤ stored_to n p size s (i + k)
unfolding stored_to
stored_rises n p size s i zero = rw (add-zero i) (omega arith)
stored_rises n p size s i (suc k) = let h = stored_rises n p size s i k in rw (add-suc i k) (omega arith)

-- whatever the two counts are
pub stored_more : (n p size s i k : ℕ) → i ≤ k → stored_to n p size s i ≤ stored_to n p size s k
stored_more n p size s i k a = let e : i + (k - i) ≡ k = omega arith in rw e at (stored_rises n p size s i (k - i))

-- and rises by the record of each put or Commit that it owns
pub stored-own : (n p size s j : ℕ) → lg p < j → owner n p (write_level p j) ≡ s
    → stored_to n p size s (suc j) ≡ stored_to n p size s j + (12 + body_size p size j)
unfolding stored_to
stored-own n p size s j a o = rw (lt-ltb (lg p) j a, eq-eqb (owner n p (write_level p j)) s o)

-- A request more leaves room where the server is the same.
pub room-stays : (c : HonestSetup) (L : ℕ → Item) (w g s : ℕ) (x : Server) → RoomLeft c L w g s x → RoomLeft c L w (suc g) s x
room-stays c L w g s x room =
    let h = stored_more c.servers (suc w) (length (L w).entry) s g (suc g) (omega arith) in
    omega arith
