-- The next request of an open write of an honest run goes out: what is handed out, and that the call is on its way with it.
use mathlib.Core.Path.{◌≡◌, refl, ap, sym, ◌∙◌, subst}
use mathlib.Core.List.{List}
use mathlib.Core.Bool.{true, false}
use Prim.Native.Nat.{ℕ, suc, ◌+◌, ◌≤◌, ◌<◌}
use native.Mathlib.Omega.{arith}
use lib.ListN.{length}
use Rattle.tree.proofs.Cases.{not_both}
use Rattle.user_list.specs.Users.{longest_signature}
use Rattle.user_list.proofs.Lists.{one-length}
use Rattle.user.specs.Outcome.{State, Lent, Outcome, handing_out}
use Rattle.user.specs.Asking.{asking}
use Rattle.user_write.specs.declared.call.Write.{Write}
use Rattle.user_write.specs.Write.{commit_number, write_want, write_answers, write_asks}
use Rattle.user_calls.specs.Calls.{Call, writing, start_write, as_call}
use Rattle.whole_run.specs.World.{User, returned, new_reads, after}
use Rattle.whole_run.specs.Runs.{Server}
use Rattle.honest_run.specs.Network.{HonestSetup, InRange, Network, settings_in, Run, arrives}
use Rattle.honest_run.proofs.Invariant.{OpenOk, Item, digest_of, ServerOk, RoomLeft, body_at}
use Rattle.honest_run.proofs.Log.{same_digest, items_stay, same_texts}
use Rattle.honest_run.proofs.Frames.{sent_for_lem}
use Rattle.honest_run.proofs.Bodies.{body-small}
use Rattle.honest_run.proofs.Writes.{asks_right}
use Rattle.honest_run.proofs.Moves.{Leaves, all_reached, none-given_up}
use Rattle.honest_run.proofs.Exchanges.{taken_by}
use Rattle.honest_run.proofs.Calls.{WriteMemory, memory-hands-out, begun-entry, begun_by, WriteCall, CallOk, OnWay}
use Rattle.honest_run.proofs.Steps.{goes_on_lem, GoesOn}

-- an open write of place w that is to hand out its request number call .answers, left answers being to come
pub record AsksOpen (c : HonestSetup) (L : ℕ → Item) (w g a left : ℕ) (entry : List ℕ) (σ : State) (m : Lent) (call : Write) : Type 0 where
  pub memory : WriteMemory c a entry m call
  pub ok : OpenOk c L w g a entry σ
  pub going : call.opened ≡ true
  pub opened : σ.kept.opened ≡ true
  pub arrived : call.answers ≤ g
  pub few : call.answers ≤ commit_number (suc w)
  pub unbegun : σ.kept.progress.begun ≡ false
  pub handed : σ.kept.progress.put ≡ false → suc call.answers ≤ σ.kept.progress.levels
  pub ready : call.answers ≡ commit_number (suc w) → σ.kept.signed ≡ true
  pub count : call.answers + left ≡ write_answers (suc w)

-- what is handed out
abbrev pub asks_next : HonestSetup → (ℕ → Item) → ℕ → ℕ → State → Lent → Write → Outcome Write
asks_next c L w a σ m call =
    handing_out (settings_in c a) (write_want c.servers (suc w) call.answers) (body_at L w call.answers) σ m call

module _ (c : HonestSetup) (range : InRange c) (L : ℕ → Item) (w g a left : ℕ) (entry : List ℕ) (σ : State) (m : Lent) (call : Write)
    (asks : AsksOpen c L w g a left entry σ m call) where
  pub asks_next_lem : write_asks (settings_in c a) σ m call ≡ asks_next c L w a σ m call
  asks_next_lem =
      asks_right (settings_in c a) L w σ m call asks.ok.version asks.ok.path_ok (asks.memory.held ∙ sym asks.ok.entry)
      (λ e. (asks.ok.signed (asks.ready e)).0) asks.few

  body-fits : 26 + length (body_at L w call.answers) ≤ length m.request
  body-fits =
      let y = body-small L w call.answers asks.ok.item.short (λ e. (asks.ok.signed (asks.ready e)).1.size ∙ one-length _ _) asks.few in
      omega (arith, asks.memory.valid.request)

  -- the Write of a user that hands it out
  pub asks-call : (u : User) (y : ℕ → Server) → WriteCall c L w g a left entry (after u (as_call writing (asks_next c L w a σ m call))) y
  unfolding after asking returned
  asks-call u y =
      record {
        call = call;
        is = refl;
        memory = memory-hands-out c a entry m call _ asks.memory;
        before = λ t. not_both call.opened asks.going t;
        open_call =
            λ _.
            record {
              opened = asks.opened;
              arrived = asks.arrived;
              few = asks.few;
              signed = asks.ready;
              unbegun = asks.unbegun;
              handed = asks.handed;
              sent = sent_for_lem c range a (write_want c.servers (suc w) call.answers) (body_at L w call.answers) m.request body-fits;
              count = asks.count;
            };
      }

-- a Write that has had an answer, and is open then with what σ keeps, in the log M of whose open write h requests have arrived
module _ (c : HonestSetup) (range : InRange c) (r : Run Network) (a : ℕ) (m : Lent) (entry randomizer : List ℕ) (left : ℕ) (x : Network)
    (o : OnWay c r a (start_write m entry randomizer) (suc left) x) (M : ℕ → Item) (h : ℕ) (σ : State)
    (old : (i : ℕ) → i < o.w → o.log i ≡ M i) where
  -- what the step leaves
  pub open_leaves : OpenOk c M o.w h a entry σ → σ.kept.opened ≡ true → σ.kept.progress.begun ≡ false → σ.kept.number ≤ 1024
      → (0 < o.w → σ.kept.digest ≡ digest_of o.log o.w) → length σ.path ≡ 672 → length σ.signature ≡ longest_signature
      → ((s : ℕ) → 1 ≤ s → s ≤ c.servers → ServerOk c M o.w h s ((arrives c x a).servers s))
      → ((s : ℕ) → 1 ≤ s → s ≤ c.servers → RoomLeft c M o.w h s ((arrives c x a).servers s)) → h ≤ suc (commit_number (suc o.w))
      → Leaves c M o.w h a (begun_by r a (start_write m entry randomizer) a) σ (arrives c x a).servers
  open_leaves ok opened unbegun number digest-is path_size signature_size servers room fits =
      record {
        servers = all_reached c M o.w h (arrives c x a).servers servers;
        shown = λ _. none-given_up c.servers h σ.kept unbegun (ok.progress.unbegun unbegun);
        own =
            record {
              low = omega (arith, ok.version);
              number = number;
              digest_ok =
                  subst (λ v. 0 < v → σ.kept.digest ≡ digest_of M v) (sym ok.version)
                  (λ z. digest-is z ∙ same_digest o.log M o.w z (same_texts o.log M o.w old));
              path_size = path_size;
              signature_size = signature_size;
              open_ok = λ _. subst (λ (e : List ℕ). OpenOk c M o.w h a e σ) (sym (begun-entry r a m entry randomizer)) ok;
            };
        room = λ _. room;
        shut = λ t. not_both σ.kept.opened opened t;
        fits = fits;
        items = items_stay c o.log M o.w old o.good.items;
        within = o.good.within;
      }

  -- the next request goes out
  pub open_goes-on : (n : Lent) (call : Write) (k : Call) (y : List ℕ) → AsksOpen c M o.w h a left entry σ n call
      → Leaves c M o.w h a (begun_by r a (start_write m entry randomizer) a) σ (arrives c x a).servers
      → taken_by c x a k y ≡ as_call writing (write_asks (settings_in c a) σ n call) → GoesOn c r a (start_write m entry randomizer) left x k y
  unfolding CallOk asking after new_reads
  open_goes-on n call k y asks leaves is =
      record {
        outcome = as_call writing (asks_next c M o.w a σ n call);
        is = is ∙ ap (as_call writing) (asks_next_lem c range M o.w h a left entry σ n call asks);
        code = refl;
        ended = refl;
        on_way =
            goes_on_lem c r a (start_write m entry randomizer) left x o M h (as_call writing (asks_next c M o.w a σ n call)) old leaves refl
            (asks-call c range M o.w h a left entry σ n call asks (x.users a) (arrives c x a).servers);
      }
