-- Every request of an honest write, first or again, is accepted by its owner, and what holds of all servers holds after it.
use mathlib.Core.Path.{◌≡◌, refl, ap, sym, ◌∙◌, subst}
use mathlib.Core.List.{List, []}
use Prim.Native.Nat.{ℕ, suc, ◌+◌, ◌≤◌, ◌<◌, max}
use native.Mathlib.Omega.{arith}
use lib.ListN.{length}
use borrow.Author.Tests.{le-leb}
use Rattle.tree.specs.Level.{lg}
use Rattle.tree.specs.Label.{owner}
use Rattle.tree.specs.Message.{answer}
use Rattle.tree.proofs.Cases.{cases_le, cases_eq}
use Rattle.tree.proofs.Labels.{owner_range}
use Rattle.user.specs.declared.ask.Want.{Want}
use Rattle.user.specs.Asking.{of_node}
use Rattle.user_write.specs.Write.{commit_number, write_kind, write_level, write_want}
use Rattle.honest_run.specs.Network.{HonestSetup, InRange, answer_bytes}
use Rattle.whole_run.specs.Runs.{Server, server_after, set}
use Rattle.honest_run.specs.Claim.{stored_to}
use Rattle.honest_run.proofs.Invariant.{Item, digest_of, body_of, number_of, ServerOk, RoomLeft, SignedOk, ItemOk, serving, body_at, PutRight}
use Rattle.honest_run.proofs.Frames.{by_set}
use Rattle.honest_run.proofs.Reserves.{reserve_elsewhere, reserve-given, reserve-again, next-left, reserve-next}
use Rattle.honest_run.proofs.Stores.{put_elsewhere, put_again, put_again-given, put_next, put_next-given, put_next-used, put_next-length}
use Rattle.honest_run.proofs.Room.{PutAt, put_at, stored_more, stored-own, room-stays}

-- A request of the open write with this body is accepted, and then g requests have arrived.
record Accepted (c : HonestSetup) (L : ℕ → Item) (w g : ℕ) (x : ℕ → Server) (want : Want) (body : List ℕ) : Type 0 where
  pub given : answer_bytes (serving c (L w).author want.server (x want.server) want body) ≡ answer want.kind want.server (suc w) want.level 0 []
  pub all_ok : (s : ℕ) → 1 ≤ s → s ≤ c.servers
      → ServerOk c L w g s (set x want.server (server_after (serving c (L w).author want.server (x want.server) want body)) s)
  pub room : (s : ℕ) → 1 ≤ s → s ≤ c.servers
      → RoomLeft c L w g s (set x want.server (server_after (serving c (L w).author want.server (x want.server) want body)) s)

module _ (c : HonestSetup) (range : InRange c) (L : ℕ → Item) (w g : ℕ) (x : ℕ → Server)
    (within : w < 1048576) (item : ItemOk c L w)
    (good : (s : ℕ) → 1 ≤ s → s ≤ c.servers → ServerOk c L w g s (x s))
    (free : (s : ℕ) → 1 ≤ s → s ≤ c.servers → RoomLeft c L w g s (x s)) where
  -- the request of a kind for level l of the open write
  abbrev asking : ℕ → ℕ → Want
  asking kind l = record { kind = kind; server = owner c.servers (suc w) l; position = suc w; level = l }

  -- its owner is one of the servers
  in_range_lem : (l : ℕ) → (1 ≤ owner c.servers (suc w) l) × (owner c.servers (suc w) l ≤ c.servers)
  in_range_lem l = let t = range.two in owner_range c.servers (suc w) l (omega arith)

  -- a request that changes nothing
  unchanged : (want : Want) (body : List ℕ)
      → answer_bytes (serving c (L w).author want.server (x want.server) want body) ≡ answer want.kind want.server (suc w) want.level 0 []
      → server_after (serving c (L w).author want.server (x want.server) want body) ≡ x want.server
      → Accepted c L w g x want body
  unchanged want body given same =
      record {
        given = given;
        all_ok = λ s a b. by_set (λ i y. 1 ≤ i → i ≤ c.servers → ServerOk c L w g i y) x want.server _ s
            (λ p q. subst (λ (y : Server). ServerOk c L w g want.server y) (sym same) (good want.server p q)) (λ _. good s) a b;
        room = λ s a b. by_set (λ i y. 1 ≤ i → i ≤ c.servers → RoomLeft c L w g i y) x want.server _ s
            (λ p q. subst (λ (y : Server). RoomLeft c L w g want.server y) (sym same) (free want.server p q)) (λ _. free s) a b;
      }

  -- a Reserve
  module _ (j : ℕ) (level : j ≤ lg (suc w)) where
    abbrev s : ℕ
    s = owner c.servers (suc w) j

    -- it is answered with code 0
    given-reserve : answer_bytes (serving c (L w).author s (x s) (asking 5 j) (digest_of L (suc w))) ≡ answer 5 s (suc w) j 0 []
    given-reserve =
        let r = in_range_lem j in
        reserve-given c range L w g s r.0 r.1 (x s) (good s r.0 r.1) within item j level refl

    -- one that has arrived already changes nothing
    reserved-again : j < g → Accepted c L w g x (asking 5 j) (digest_of L (suc w))
    reserved-again b =
        let r = in_range_lem j in
        unchanged (asking 5 j) (digest_of L (suc w)) given-reserve
        (reserve-again c range L w g s r.0 r.1 (x s) (good s r.0 r.1) within item j level refl b)

    -- the next one becomes its owner's head
    reserved-next : j ≡ g → Accepted c L w (suc g) x (asking 5 j) (digest_of L (suc w))
    reserved-next e =
        let r = in_range_lem j in
        let ok = good s r.0 r.1 in
        record {
          given = given-reserve;
          all_ok = λ t a b. by_set (λ i y. 1 ≤ i → i ≤ c.servers → ServerOk c L w (suc g) i y) x s _ t
              (λ p q. reserve-next c range L w g s r.0 r.1 (x s) ok within item j level refl e)
              (λ n p q. reserve_elsewhere c range L w g t p q (x t) (good t p q) (omega arith)
              (λ o. n (sym o ∙ ap (owner c.servers (suc w)) (sym e)))) a b;
          room = λ t a b. by_set (λ i y. 1 ≤ i → i ≤ c.servers → RoomLeft c L w (suc g) i y) x s _ t
              (λ p q. subst (λ (y : Server). RoomLeft c L w (suc g) s y)
              (sym (next-left c range L w g s r.0 r.1 (x s) ok within item j level refl e)) (room-stays c L w g s (x s) (free s p q)))
              (λ _ p q. room-stays c L w g t (x t) (free t p q)) a b;
        }

  -- a put or the Commit
  module _ (j : ℕ) (request : PutAt c L w j) (come : j ≤ g) (behind : lg (suc w) < j) (last : j ≤ commit_number (suc w))
      (signed : j ≡ commit_number (suc w) → SignedOk c L w) where
    abbrev kind : ℕ
    kind = request.kind

    abbrev l : ℕ
    l = request.level

    abbrev to : ℕ
    to = owner c.servers (suc w) l

    abbrev body : List ℕ
    body = body_of L kind (suc w) l

    -- it is one of those arrived, or the next
    arrived : number_of kind (suc w) l ≤ g
    arrived = let t = request.number in omega arith

    -- one that has arrived already changes nothing
    put_before : j < g → Accepted c L w g x (asking kind l) body
    put_before b =
        let r = in_range_lem l in
        let ok = good to r.0 r.1 in
        let n : number_of kind (suc w) l < g = let t = request.number in omega arith in
        let s8 : kind ≡ 8 → SignedOk c L w = λ e. signed (request.commit e) in
        unchanged (asking kind l) body
        (put_again-given c range L w g to r.0 r.1 (x to) ok within item kind l request.put request.node refl s8 arrived n)
        (put_again c range L w g to r.0 r.1 (x to) ok within item kind l request.put request.node refl s8 arrived n)

    -- the bytes that it stores
    takes : stored_to c.servers (suc w) (length (L w).entry) to (suc j) ≡ stored_to c.servers (suc w) (length (L w).entry) to j + (12 + length body)
    takes =
        stored-own c.servers (suc w) (length (L w).entry) to j behind (ap (owner c.servers (suc w)) request.level_is)
        ∙ ap (λ (n : ℕ). stored_to c.servers (suc w) (length (L w).entry) to j + (12 + n)) (sym (request.size_is signed))

    -- the same, by the count of those arrived
    takes-next : j ≡ g
        → stored_to c.servers (suc w) (length (L w).entry) to (suc g) ≡ stored_to c.servers (suc w) (length (L w).entry) to g + (12 + length body)
    takes-next e =
        let stores : ℕ → ℕ = stored_to c.servers (suc w) (length (L w).entry) to in
        sym (ap (λ (i : ℕ). stores (suc i)) e) ∙ takes ∙ ap (λ (i : ℕ). stores i + (12 + length body)) e

    -- there is room for it
    enough : j ≡ g → (x to).used + (12 + length body) ≤ length (x to).store
    enough e =
        let r = in_range_lem l in
        let f = free to r.0 r.1 in
        let t = takes-next e in
        let m = stored_more c.servers (suc w) (length (L w).entry) to (suc g) (suc (commit_number (suc w))) (omega arith) in
        omega arith

    -- the next one is stored by its owner
    put_now : j ≡ g → Accepted c L w (suc g) x (asking kind l) body
    put_now e =
        let r = in_range_lem l in
        let ok = good to r.0 r.1 in
        let n : number_of kind (suc w) l ≡ g = request.number ∙ e in
        let s8 : kind ≡ 8 → SignedOk c L w = λ q. signed (request.commit q) in
        let used = put_next-used c range L w g to r.0 r.1 (x to) ok within item kind l request.put request.node refl s8 arrived n (enough e) in
        let size = put_next-length c range L w g to r.0 r.1 (x to) ok within item kind l request.put request.node refl s8 arrived n (enough e) in
        let more = takes-next e in
        record {
          given =
              put_next-given c range L w g to r.0 r.1 (x to) ok within item kind l request.put request.node refl s8 arrived n (enough e);
          all_ok = λ t a b. by_set (λ i y. 1 ≤ i → i ≤ c.servers → ServerOk c L w (suc g) i y) x to _ t
              (λ p q.
              put_next c range L w g to r.0 r.1 (x to) ok within item kind l request.put request.node refl s8 arrived n (enough e))
              (λ m p q. put_elsewhere c L w g t (x t) (good t p q) kind l request.put request.node n (λ o. m (sym o))) a b;
          room = λ t a b. by_set (λ i y. 1 ≤ i → i ≤ c.servers → RoomLeft c L w (suc g) i y) x to _ t
              (λ p q. let f = free to p q in omega arith)
              (λ _ p q. room-stays c L w g t (x t) (free t p q)) a b;
        }

-- the first requests are Reserves
reserve-kind : (p j : ℕ) → j ≤ lg p → write_kind p j ≡ 5
unfolding write_kind
reserve-kind p j a = rw (le-leb j (lg p) a)

-- one for each level
reserve_level : (p j : ℕ) → j ≤ lg p → write_level p j ≡ j
unfolding write_level
reserve_level p j a = rw (le-leb j (lg p) a)

-- from the request's kind, level and body to its number
put_right_by : (c : HonestSetup) (L : ℕ → Item) (w g j : ℕ) (x : ℕ → Server) (now kind l : ℕ) (body : List ℕ) → write_kind (suc w) j ≡ kind
    → write_level (suc w) j ≡ l → body_at L w j ≡ body → now ≡ max g (suc j)
    → Accepted c L w now x (record { kind = kind; server = owner c.servers (suc w) l; position = suc w; level = l }) body
    → PutRight c L w g j x
unfolding write_want of_node
put_right_by c L w g j x now kind l body ek el eb en a =
    let same : write_want c.servers (suc w) j ≡ record { kind = kind; server = owner c.servers (suc w) l; position = suc w; level = l } =
    rw (ek, el) in
    let b : Accepted c L w now x (write_want c.servers (suc w) j) body = subst (λ (y : Want). Accepted c L w now x y body) (sym same) a in
    let d : Accepted c L w now x (write_want c.servers (suc w) j) (body_at L w j) =
    subst (λ (y : List ℕ). Accepted c L w now x (write_want c.servers (suc w) j) y) (sym eb) b in
    let f : Accepted c L w (max g (suc j)) x (write_want c.servers (suc w) j) (body_at L w j) =
    subst (λ (y : ℕ). Accepted c L w y x (write_want c.servers (suc w) j) (body_at L w j)) en d in
    record { given = f.given; all_ok = f.all_ok; room = f.room }

-- Every request of the open write that is one of those arrived, or the next, is accepted.
pub put_right : (c : HonestSetup) → InRange c → (L : ℕ → Item) (w g j : ℕ) (x : ℕ → Server)
    → w < 1048576 → ItemOk c L w → j ≤ g → j ≤ commit_number (suc w) → (j ≡ commit_number (suc w) → SignedOk c L w)
    → ((s : ℕ) → 1 ≤ s → s ≤ c.servers → ServerOk c L w g s (x s))
    → ((s : ℕ) → 1 ≤ s → s ≤ c.servers → RoomLeft c L w g s (x s))
    → PutRight c L w g j x
put_right c range L w g j x within item come last signed good free =
    cases_le j (lg (suc w))
    (λ level.
    let k : write_kind (suc w) j ≡ 5 = reserve-kind (suc w) j level in
    let l : write_level (suc w) j ≡ j = reserve_level (suc w) j level in
    let b : body_at L w j ≡ digest_of L (suc w) = rw (le-leb j (lg (suc w)) level) in
    cases_eq j g
    (λ e. put_right_by c L w g j x (suc g) 5 j (digest_of L (suc w)) k l b (omega arith) (reserved-next c range L w g x within item good free j level e))
    (λ n. put_right_by c L w g j x g 5 j (digest_of L (suc w)) k l b (omega arith) (reserved-again c range L w g x within item good free j level (omega arith))))
    (λ behind.
    let r = put_at c L w j within behind last in
    cases_eq j g
    (λ e. put_right_by c L w g j x (suc g) _ _ _ r.kind-is r.level_is r.body_is (omega arith)
    (put_now c range L w g x within item good free j r come behind last signed e))
    (λ n. put_right_by c L w g j x g _ _ _ r.kind-is r.level_is r.body_is (omega arith)
    (put_before c range L w g x within item good free j r come behind last signed (omega arith))))
