-- Document 02, e: a give-up brings every server's head back. Where no write is open, the heads of an honest run are decided by the log alone.
use mathlib.Core.Path.{◌≡◌, sym, ◌∙◌, subst}
use mathlib.Core.Bool.{false}
use mathlib.Core.List.{List}
use Prim.Native.Nat.{ℕ, suc, ◌-◌, ◌≤◌, ◌<◌}
use native.Mathlib.Omega.{arith}
use Rattle.tree.proofs.Cases.{not_both}
use Rattle.server.proofs.After.{head_level}
use Rattle.whole_run.specs.Runs.{Server}
use Rattle.honest_run.specs.Network.{HonestSetup, InRange, public_to, Network, Written}
use Rattle.honest_run.specs.Claim.{Alone, SameHeads}
use Rattle.honest_run.proofs.Invariant.{Item, ServerOk, Good}
use Rattle.honest_run.proofs.Heads.{one-head, one_place}
use Rattle.honest_run.proofs.Served.{head_in_log}
use Rattle.honest_run.proofs.Servers.{SameBelow, head-position, held_same}
use Rattle.honest_run.proofs.Moves.{every_server}
use Rattle.honest_run.proofs.Calls.{Holds}

-- a server's head, where no request has arrived
module _ (c : HonestSetup) (range : InRange c) (L M : ℕ → Item) (w s : ℕ) (last : s ≤ c.servers) (x y : Server) (ok : ServerOk c L w 0 s x)
    (also : ServerOk c M w 0 s y) (same : SameBelow L M w) where
  place : (x.head.position ≡ y.head.position) × (x.head.level ≡ y.head.level)
  place =
      let users = public_to c c.count in
      one_place x.head.position x.head.level y.head.position y.head.level (head_level users x.head ok.ready.head)
      (head_level users y.head also.ready.head) (head_in_log users x.head ok.ready.head).0
      (head_in_log users y.head also.ready.head).0
      (one-head c.servers s _ _ _ (omega (arith, range.two)) last ok.head also.head)

  same_head : (x.head.position ≡ y.head.position) × (x.head.level ≡ y.head.level)
      × (0 < x.head.position → (x.head.author ≡ y.head.author) × (x.head.digest ≡ y.head.digest))
  same_head = (
    place.0,
    place.1,
    λ some.
        let p : ℕ = x.head.position - 1 in
        let here : x.head.position ≡ suc p = omega arith in
        let a = ok.holds p here in
        let b = also.holds p (sym place.0 ∙ here) in
        let h = held_same L M w p same (omega (arith, head-position c L w s x ok)) in
        (a.0 ∙ h.0 ∙ sym b.0, a.1 ∙ h.1 ∙ sym b.1),
  )

-- all servers, where no write is open
pub heads_same : (c : HonestSetup) → InRange c → (L M : ℕ → Item) (w v g h : ℕ) (b f : ℕ → List ℕ) (x y : Network) (log : List Written)
    → Good c L w g b x → Good c M v h f y → ((a : ℕ) → (x.users a).state.kept.opened ≡ false) → ((a : ℕ) → (y.users a).state.kept.opened ≡ false)
    → Holds L w log → Holds M v log → SameHeads c x y
unfolding SameHeads Alone
heads_same c range L M w v g h b f x y log good also shut closed holds held s one last =
    let count : v ≡ w = held.count ∙ sym holds.count in
    let first : ServerOk c L w 0 s (x.servers s) =
    subst (λ n. ServerOk c L w n s (x.servers s)) (good.free shut)
    (every_server c L w g 0 b x good (λ a _. shut a) (λ o. not_both _ o (shut 0)) s one last) in
    let second : ServerOk c M v 0 s (y.servers s) =
    subst (λ n. ServerOk c M v n s (y.servers s)) (also.free closed)
    (every_server c M v h 0 f y also (λ a _. closed a) (λ o. not_both _ o (closed 0)) s one last) in
    same_head c range L M w s last (x.servers s) (y.servers s) first (subst (λ n. ServerOk c M n 0 s (y.servers s)) count second)
    (λ i k. (holds.author i k ∙ sym (held.author i (omega arith)), holds.entry i k ∙ sym (held.entry i (omega arith))))
