-- An answer to an Update of an honest run, a call of its own or a Write's: it is right, it is taken, and the Update goes on or has arrived.
use mathlib.Core.Path.{◌≡◌, refl, sym, ◌∙◌, subst}
use mathlib.Core.Bool.{true, false}
use mathlib.Core.List.{List, []}
use Prim.Native.Nat.{ℕ, suc, ◌≤◌, ◌<◌}
use native.Mathlib.Omega.{arith}
use lib.ListN.{length}
use borrow.Author.Tests.{eq-eqb, ne_eqb}
use Rattle.tree.proofs.Cases.{cases_eq, not_both}
use Rattle.tree.proofs.Labels.{owner_range}
use Rattle.user.specs.declared.ask.Want.{Want}
use Rattle.user.specs.Outcome.{State, Lent, with_hashes}
use Rattle.user_update.specs.declared.call.Update.{Update}
use Rattle.user_update.specs.Update.{update_ended, update_want, update_next, update_hashes, update_goes, update_taken, update_answers}
use Rattle.user_update.proofs.UpdateRules.{next-answers, by_goes, ended_with, going_on}
use Rattle.user_calls.specs.Calls.{Input}
use Rattle.honest_run.specs.Network.{HonestSetup, InRange, settings_in, Network, reply, answer_bytes, arrives, Run}
use Rattle.honest_run.specs.Claim.{ValidMemory}
use Rattle.honest_run.proofs.Invariant.{Item, Good, RightBody, CanAsk, UpdateOk, PullRight}
use Rattle.honest_run.proofs.Frames.{sent_for_lem, handed_out}
use Rattle.honest_run.proofs.Pulls.{pull_right}
use Rattle.honest_run.proofs.Answers.{Fit, answer_to}
use Rattle.honest_run.proofs.Updates.{ended_is, update-asks, Arrived, update-ends}
use Rattle.honest_run.proofs.UpdateSteps.{update_right, update-hashes_size}
use Rattle.honest_run.proofs.Exchanges.{pull_comes, pull_keeps}
use Rattle.honest_run.proofs.Calls.{Updates, begun_by, OnWay}
use Rattle.honest_run.proofs.Starts.{fit_user}

-- what may be asked is asked of one of the servers
pub can_server : (c : HonestSetup) → InRange c → (w : ℕ) (want : Want) → CanAsk c w want → (1 ≤ want.server) × (want.server ≤ c.servers)
can_server c range w want can =
    cases_eq want.kind 1
    (λ e. let s = can.status e in (s.2, s.3))
    (λ n.
    let f = can.first_kind in
    let k : 2 ≤ want.kind = omega (arith, n) in
    subst (λ s. (1 ≤ s) × (s ≤ c.servers)) (sym (can.owned k)) (owner_range c.servers want.position want.level (omega (arith, range.two))))

-- a pull of a user in an honest run
pub pull_in : (c : HonestSetup) → InRange c → (L : ℕ → Item) (w g a : ℕ) (b : ℕ → List ℕ) (x : Network) → 1 ≤ a → a ≤ c.count
    → (good : Good c L w g b x) (want : Want) → CanAsk c w want → PullRight c L w (good.servers_ok.shown want.server) a (x.servers want.server) want
pull_in c range L w g a b x one last good want can =
    let s = can_server c range w want can in
    pull_right c range L w (good.servers_ok.shown want.server) good.within good.items (x.servers want.server) a one last want can
    (good.servers_ok.each want.server s.0 s.1)

-- What the answer to Update u of user a brings: the Update then, its hashes, and how it goes on.
pub record Answered (c : HonestSetup) (L : ℕ → Item) (w g a : ℕ) (x : Network) (σ : State) (m : Lent) (u : Update) : Type 0 where
  pub given : List ℕ
  pub next : Update
  pub hashes : List ℕ
  pub comes : answer_bytes (reply c x (x.users a).sent) ≡ given
  pub keeps : (s : ℕ) → (arrives c x a).servers s ≡ x.servers s
  pub answers : next.answers ≡ suc u.answers
  pub on_way : UpdateOk c.servers σ.kept.version w L next hashes
  pub sized : length hashes ≡ 1248
  pub asks_next_lem : next.answers < update_answers c.servers σ.kept.version w
      → update_taken (settings_in c a) σ m u given ≡ going_on (settings_in c a) σ (with_hashes m hashes) next
  pub updates : next.answers < update_answers c.servers σ.kept.version w
      → Updates c L w g a σ hashes (handed_out c a (update_want c.servers σ.kept.version next) [] m.request) next
  pub ends_now : next.answers ≡ update_answers c.servers σ.kept.version w
      → update_taken (settings_in c a) σ m u given ≡ ended_with σ (with_hashes m hashes) next
  pub arrives_there : next.answers ≡ update_answers c.servers σ.kept.version w → Arrived w L σ.kept next hashes

-- an Update goes on or ends by how many answers it has had
module _ (c : HonestSetup) (L : ℕ → Item) (w a : ℕ) (σ : State) (m : Lent) (u : Update)
    (way : UpdateOk c.servers σ.kept.version w L u m.hashes) where
  abbrev n : ℕ
  n = update_answers c.servers σ.kept.version w

  waits_so : u.answers < n → update_ended c.servers σ.kept.version u ≡ false
  waits_so more =
      ended_is c.servers σ.kept.version w L u m.hashes way (omega arith) ∙ ne_eqb u.answers n (λ e. omega arith)

  asks_so : u.answers < n → update_goes (settings_in c a) σ m u ≡ going_on (settings_in c a) σ m u
  asks_so more =
      by_goes (settings_in c a) σ m u (λ l. l ≡ going_on (settings_in c a) σ m u) (λ e. not_both _ e (waits_so more)) (λ _. refl)

  ended_so : u.answers ≡ n → update_ended c.servers σ.kept.version u ≡ true
  ended_so all = ended_is c.servers σ.kept.version w L u m.hashes way (omega arith) ∙ eq-eqb u.answers n all

  ends_so : u.answers ≡ n → update_goes (settings_in c a) σ m u ≡ ended_with σ m u
  ends_so all = by_goes (settings_in c a) σ m u (λ l. l ≡ ended_with σ m u) (λ _. refl) (λ e. not_both _ (ended_so all) e)

-- a right answer comes, and is taken
module _ (c : HonestSetup) (range : InRange c) (r : Run Network) (a : ℕ) (i : Input) (left : ℕ) (x : Network) (one : 1 ≤ a) (last : a ≤ c.count)
    (o : OnWay c r a i left x) (u : Update) (memory : ValidMemory (x.users a).lent)
    (ups : Updates c o.log o.w o.g a (x.users a).state (x.users a).lent.hashes (x.users a).sent u) where
  abbrev σ : State
  σ = (x.users a).state

  abbrev m : Lent
  m = (x.users a).lent

  abbrev want : Want
  want = update_want c.servers σ.kept.version u

  fit : Fit c o.log o.w a σ.kept
  fit = fit_user c range o.log o.w o.g a (begun_by r a i) x one last o.good

  -- how many requests of an open write its server is left with: none
  abbrev shown : ℕ
  shown = o.good.servers_ok.shown want.server

  none-shown : shown ≡ 0
  none-shown = omega (arith, o.good.servers_ok.few want.server, ups.none_open)

  pull : PullRight c o.log o.w shown a (x.servers want.server) want
  pull =
      pull_in c range o.log o.w o.g a (begun_by r a i) x one last o.good want
      (update-asks c σ.kept.version o.w o.log u m.hashes ups.on_way fit.low ups.waits)

  abbrev next : Update
  next = update_next c.servers u pull.body

  abbrev collected : Lent
  collected = with_hashes m (update_hashes c.servers u pull.body m.hashes)

  right : (update_taken (settings_in c a) σ m u (answer_to want pull.body) ≡ update_goes (settings_in c a) σ collected next)
      × UpdateOk c.servers σ.kept.version o.w o.log next collected.hashes
  right =
      update_right c o.log o.w a σ m u pull.body fit ups.on_way memory.hashes ups.waits
      (subst (λ h. RightBody c o.log o.w h want pull.body) none-shown pull.right) ups.shut memory.request

  pub answered : Answered c o.log o.w o.g a x (x.users a).state (x.users a).lent u
  answered =
      record {
        given = answer_to want pull.body;
        next = next;
        hashes = collected.hashes;
        comes = pull_comes c o.log o.w shown a x want pull ups.asks_next_lem;
        keeps = pull_keeps c o.log o.w shown a x want pull ups.asks_next_lem;
        answers = next-answers c.servers u pull.body;
        on_way = right.1;
        sized = update-hashes_size c.servers u pull.body m.hashes ∙ memory.hashes;
        asks_next_lem = λ more. right.0 ∙ asks_so c o.log o.w a σ collected next right.1 more;
        updates =
            λ more.
            record {
              none_open = ups.none_open;
              shut = ups.shut;
              on_way = right.1;
              waits = waits_so c o.log o.w a σ collected next right.1 more;
              asks_next_lem = sent_for_lem c range a (update_want c.servers σ.kept.version next) [] m.request (omega (arith, memory.request));
            };
        ends_now = λ all. right.0 ∙ ends_so c o.log o.w a σ collected next right.1 all;
        arrives_there =
            λ all.
            update-ends c.servers o.w o.log σ.kept next collected.hashes right.1 fit.low
            (ended_so c o.log o.w a σ collected next right.1 all);
      }
