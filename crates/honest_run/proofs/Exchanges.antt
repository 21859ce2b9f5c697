-- A request of an honest run arrives, and its answer is taken in: the network then, by the user's own step.
use mathlib.Core.Path.{◌≡◌, refl, ap, sym, ◌∙◌}
use mathlib.Core.List.{List, []}
use Prim.Native.Nat.{ℕ, suc}
use Rattle.tree.specs.Message as Message
use Rattle.server.specs.Serve.{ServeOutcome}
use Rattle.user.specs.declared.ask.Want.{Want}
use Rattle.user.specs.declared.call.StepResult.{StepResult}
use Rattle.user.specs.Outcome.{Outcome}
use Rattle.user_write.specs.Write.{write_want, write_kind, write_level}
use Rattle.user_calls.specs.Calls.{Call, taken, stepped}
use Rattle.whole_run.specs.World.{Sent, User, after, user_step}
use Rattle.whole_run.specs.Runs.{server_after, set}
use Rattle.whole_run.proofs.Refusals.{accepted-step}
use Rattle.honest_run.specs.Network.{HonestSetup, settings_in, Network, reply, answer_bytes, arrives, steps, comes_back}
use Rattle.honest_run.proofs.Invariant.{Item, body_at, serving, PullRight, putting, servers_after, PutRight}
use Rattle.honest_run.proofs.Frames.{by_set, sent_for, reply-is}
use Rattle.honest_run.proofs.Moves.{with_user}

-- the network after one request and its answer
abbrev pub exchanged : HonestSetup → Network → ℕ → Network
exchanged c x a = steps c (arrives c x a) a (comes_back c x a)

-- what the answer's step hands back
abbrev pub handed_by : HonestSetup → Network → ℕ → StepResult
handed_by c x a = (user_step (settings_in c a) (x.users a) (comes_back c x a)).step

-- what call k of user a makes of the answer y
abbrev pub taken_by : HonestSetup → Network → ℕ → Call → List ℕ → Outcome Call
taken_by c x a k y = taken (settings_in c a) (x.users a).state (x.users a).lent k y

-- the network where that is o
abbrev pub leaving : HonestSetup → Network → ℕ → Outcome Call → Network
leaving c x a o = with_user x a (after (x.users a) o) (arrives c x a).servers

-- the answer leaves o
pub record Exchanges (c : HonestSetup) (x : Network) (a : ℕ) (o : Outcome Call) : Type 0 where
  pub next : exchanged c x a ≡ leaving c x a o
  pub hands : handed_by c x a ≡ o.step

-- so does the answer y to call k, where it is not refused
pub exchange_is : (c : HonestSetup) (x : Network) (a : ℕ) (y : List ℕ) (k : Call) (o : Outcome Call) → (x.users a).call ≡ k
    → answer_bytes (reply c x (x.users a).sent) ≡ y → taken_by c x a k y ≡ o → o.step.code ≡ 0 → Exchanges c x a o
unfolding steps arrives comes_back user_step stepped
exchange_is c x a y k o is back left code =
    let all : taken_by c x a (x.users a).call (answer_bytes (reply c x (x.users a).sent)) ≡ o =
    ap (taken_by c x a (x.users a).call) back ∙ ap (λ (z : Call). taken_by c x a z y) is ∙ left in
    let passed = ap (λ (z : Outcome Call). z.step.code) all ∙ code in
    record {
      next =
          ap (λ (u : User). with_user x a u (arrives c x a).servers) (accepted-step (settings_in c a) (x.users a) (comes_back c x a) passed)
          ∙ ap (leaving c x a) all;
      hands = ap (λ (z : Outcome Call). z.step) all;
    }

-- a pull that is answered rightly
module _ (c : HonestSetup) (L : ℕ → Item) (w g a : ℕ) (x : Network) (want : Want) (right : PullRight c L w g a (x.servers want.server) want)
    (sent : (x.users a).sent ≡ sent_for c a want []) where
  -- its answer comes back
  pub pull_comes : answer_bytes (reply c x (x.users a).sent) ≡ Message.answer want.kind want.server want.position want.level 0 right.body
  pull_comes = ap answer_bytes (reply-is c x a want [] (x.users a).sent sent) ∙ right.given

  -- leaves every server as it was
  pub pull_keeps : (s : ℕ) → (arrives c x a).servers s ≡ x.servers s
  unfolding arrives
  pull_keeps s =
      ap (λ (q : Sent). set x.servers q.server (server_after (reply c x q)) s) sent
      ∙ by_set (λ k z. z ≡ x.servers k) x.servers want.server (server_after (reply c x (sent_for c a want []))) s
      (ap server_after (reply-is c x a want [] (sent_for c a want []) refl) ∙ right.same) (λ n. refl)

-- a request of an open write that is accepted
module _ (c : HonestSetup) (L : ℕ → Item) (w g j : ℕ) (x : Network) (right : PutRight c L w g j x.servers) (a : ℕ) (own : (L w).author ≡ a)
    (sent : (x.users a).sent ≡ sent_for c a (write_want c.servers (suc w) j) (body_at L w j)) where
  put_reply : reply c x (x.users a).sent ≡ putting c L w j x.servers
  put_reply =
      let want = write_want c.servers (suc w) j in
      reply-is c x a want (body_at L w j) (x.users a).sent sent
      ∙ ap (λ k. serving c k want.server (x.servers want.server) want (body_at L w j)) (sym own)

  -- its acceptance comes back
  pub put_comes : answer_bytes (reply c x (x.users a).sent)
      ≡ Message.answer (write_kind (suc w) j) (write_want c.servers (suc w) j).server (suc w) (write_level (suc w) j) 0 []
  put_comes = ap answer_bytes put_reply ∙ right.given

  -- its owner's state changes, and no other's
  pub put_leaves : (s : ℕ) → (arrives c x a).servers s ≡ servers_after c L w j x.servers s
  unfolding arrives
  put_leaves s =
      ap (λ (l : ServeOutcome). set x.servers (x.users a).sent.server (server_after l) s) put_reply
      ∙ ap (λ (q : Sent). set x.servers q.server (server_after (putting c L w j x.servers)) s) sent
