-- One induction over the list of steps: what holds of every user, of what was signed and of H's head, after every list.
use mathlib.Core.Path.{◌≡◌, refl, sym, subst}
use mathlib.Core.Bool.{false, cond}
use mathlib.Core.List.Memᴰ
use mathlib.Core.List.{List, [], ◌∷◌, ◌++◌, Memᴰ}
use mathlib.Core.Logic.{inl, inr}
use Prim.Native.Nat.{ℕ}
use native.Mathlib.Omega.{arith}
use lib.Dec.{eqb}
use lib.ListN.{take}
use Rattle.tree.proofs.Cases.{by_eqb, not_both}
use Rattle.server.specs.Serve.{served}
use Rattle.user_calls.specs.Calls.{Input}
use Rattle.whole_run.specs.World.{settings_for, Event, hashed, signed, accepted, handed_out, answered, User, user_step, dropped}
use Rattle.whole_run.specs.Runs.{World, Step, user, drops, server, NewWorld, new_user, new_server, set, with_user, with_server, server_events, step, run, server_after}
use Rattle.fork_bound.specs.Fair.{Premises, FairStep, Fair, InTime, as_messages}
use Rattle.fork_bound.proofs.Noted.{Whole, Within, within-left, within_right, Every, every_none, every_cons, every_cond}
use Rattle.fork_bound.proofs.Histories.{Signed}
use Rattle.fork_bound.proofs.States.{UserOk, Behind}
use Rattle.fork_bound.proofs.Events.{step_event}
use Rattle.fork_bound.proofs.UserSteps.{step_ok, step-behind}
use Rattle.fork_bound.proofs.Taken.{Guarded, guarded_later}
use Rattle.fork_bound.proofs.Guards.{guard_step}
use Rattle.fork_bound.proofs.Heads.{Logged, HeadOk, logged_first, logged_later, logged_server}

-- a server's events are its answers
abbrev pub IsAnswer : ℕ → Event → Type 0
IsAnswer s (hashed t) = ⊥
IsAnswer s (signed a t) = ⊥
IsAnswer s (accepted a t) = ⊥
IsAnswer s (handed_out a t q) = ⊥
IsAnswer s (answered t q x) = t ≡ s

pub only_answers : (s : ℕ) (q : List ℕ) (n : ℕ) (buffer : List ℕ) → Every (IsAnswer s) (server_events s q n buffer)
unfolding server_events
only_answers s q n buffer =
    let e = answered s q (take n buffer) in
    every_cond (IsAnswer s) (eqb n 0) [] (e ∷ []) (λ _. every_none (IsAnswer s)) (λ _. every_cons (IsAnswer s) e [] refl (every_none (IsAnswer s)))

module _ (W : Whole) where
  abbrev H : ℕ
  H = W.follows

  abbrev fairness : Premises
  fairness = as_messages W.follows W.account

  -- The invariant of the world: every user keeps what holds of it, each signature has a history behind it and, at H, its Reserves, and H's
  -- head is past all that H accepted.
  pub record Holds (w : World) : Type 0 where
    pub users : (a : ℕ) → UserOk W a (w.users a)
    pub signatures : (a : ℕ) (t : List ℕ) → Memᴰ (signed a t) w.log → Signed W a t
    pub guards : (a : ℕ) → Guarded W w.log a (w.users a)
    pub head : HeadOk W (w.servers W.follows).head w.log

  -- what is noted of a step of user a: requests and signatures of its own
  abbrev OfUser : ℕ → Event → Type 0
  OfUser a (hashed t) = Unit {0}
  OfUser a (signed b t) = (b ≡ a) × Signed W b t
  OfUser a (accepted b t) = Unit {0}
  OfUser a (handed_out b s q) = b ≡ a
  OfUser a (answered s q x) = ⊥

  of_user : (a : ℕ) (u : User) → UserOk W a u → (i : Input) → Every (OfUser a) (user_step (settings_for W.group a) u i).events
  of_user a u ok i e m =
      let x = step_event (settings_for W.group a) u i e m in
      elim x.1 [ inl y ↦ subst (OfUser a) (sym y) refl | inr y ↦ behind e (step-behind W a u ok i x.0 e y) ]
    where
      behind : (e : Event) → Behind W a e → OfUser a e
      behind (hashed t) b = tt
      behind (signed c t) b = b
      behind (accepted c t) b = tt
      behind (handed_out c s q) b = absurd b
      behind (answered s q x) b = b

  -- a user after a step of its own
  holds_user : (w : World) (a : ℕ) (u : User) (es : List Event) → Holds w → UserOk W a u → Guarded W (es ++ w.log) a u → Every (OfUser a) es
      → Holds (with_user w a u es)
  unfolding with_user
  holds_user w a u es h ok guard own =
      record {
        users = λ b. by_eqb (λ t. UserOk W b (cond t u (w.users b))) b a (λ e. rw e ok) (λ _. h.users b);
        signatures = λ b t m. elim (Memᴰ.append_cases es m) [ inl x ↦ (own (signed b t) x).1 | inr y ↦ h.signatures b t y ];
        guards = λ b. by_eqb (λ t. Guarded W (es ++ w.log) b (cond t u (w.users b))) b a (λ e. rw e guard)
            (λ n. guarded_later W es w.log b (w.users b) (λ s r m. n (own (handed_out b s r) m))
            (λ t m. elim (Memᴰ.append_cases es m) [ inl x ↦ absurd (n (own (signed b t) x).0) | inr y ↦ y ]) (h.guards b));
        head = logged_later H W.account _ es w.log (λ q x m. own (answered H q x) m) h.head;
      }

  -- H after a call of server s
  head-after : (w : World) (s : ℕ) (q buffer : List ℕ) → FairStep W.group H fairness w (server s q buffer) → HeadOk W (w.servers H).head w.log
      → let o = served (settings_for W.group s) (w.servers s).head (w.servers s).store (w.servers s).used q buffer in
      HeadOk W (set w.servers s (server_after o) H).head (server_events s q o.out.answered o.answer ++ w.log)
  unfolding server_after FairStep as_messages
  head-after w s q buffer fair k =
      let b = w.servers s in
      let o = served (settings_for W.group s) b.head b.store b.used q buffer in
      let es = server_events s q o.out.answered o.answer in
      by_eqb (λ t. HeadOk W (cond t (server_after o) (w.servers H)).head (es ++ w.log)) H s
      (λ e. subst (λ j. Logged j W.account o.out.head (es ++ w.log)) (sym e)
      (logged_server s W.account b.head w.log (settings_for W.group s) b.store b.used q buffer
      (subst (λ j. Logged j W.account (w.servers j).head w.log) e k)
      (λ nine z. subst (λ j. InTime j W.account w.log q) e (fair (sym e) nine z))))
      (λ n. logged_later H W.account _ es w.log (λ r x m. n (only_answers s q _ _ (answered H r x) m)) k)

  holds_server : (w : World) (s : ℕ) (q buffer : List ℕ) → FairStep W.group H fairness w (server s q buffer) → Holds w
      → let l = served (settings_for W.group s) (w.servers s).head (w.servers s).store (w.servers s).used q buffer in
      Holds (with_server w s (server_after l) (server_events s q l.out.answered l.answer))
  unfolding with_server
  holds_server w s q buffer fair h =
      let b = w.servers s in
      let o = served (settings_for W.group s) b.head b.store b.used q buffer in
      let es = server_events s q o.out.answered o.answer in
      let only = only_answers s q o.out.answered o.answer in
      let old : (a : ℕ) (t : List ℕ) → Memᴰ (signed a t) (es ++ w.log) → Memᴰ (signed a t) w.log =
      λ a t m. elim (Memᴰ.append_cases es m) [ inl x ↦ absurd (only (signed a t) x) | inr y ↦ y ] in
      record {
        users = h.users;
        signatures = λ a t m. h.signatures a t (old a t m);
        guards = λ a. guarded_later W es w.log a (w.users a) (λ t r m. only (handed_out a t r) m) (old a) (h.guards a);
        head = head-after w s q buffer fair h.head;
      }

  dropped_ok : (a : ℕ) (u : User) → UserOk W a u → UserOk W a (dropped u)
  unfolding dropped
  dropped_ok a u ok = record { seen = ok.seen; state = ok.state; call = tt; out = λ e. absurd (omega arith) }

  dropped_guarded : (log : List Event) (a : ℕ) (u : User) → Guarded W log a u → Guarded W log a (dropped u)
  unfolding dropped
  dropped_guarded log a u k = record { signs = k.signs; call = tt }

  new_ok : (b : NewWorld) (a : ℕ) → UserOk W a (new_user (b.users a))
  unfolding new_user
  new_ok b a =
      record {
        seen = refl;
        state = record {
          small = omega arith;
          room = (b.users a).path_size;
          sized = (b.users a).signature_size;
          kept = λ z. absurd (omega arith);
          open_write = λ o. not_both false o refl;
          reads = λ K r m. absurd (Memᴰ.not-nil m);
        };
        call = tt;
        out = λ e. absurd (omega arith);
      }

  new_guarded : (b : NewWorld) (a : ℕ) → Guarded W [] a (new_user (b.users a))
  unfolding new_user
  new_guarded b a = record { signs = λ t m. absurd (Memᴰ.not-nil m); call = tt }

  pub all_hold : (b : NewWorld) (xs : List Step) → Fair W.group H fairness (run W.group b) xs → Within W (run W.group b xs).log
      → Holds (run W.group b xs)
  unfolding run new_server step with_user with_server Fair FairStep
  all_hold b [] fair f =
      record {
        users = new_ok b;
        signatures = λ a t m. absurd (Memᴰ.not-nil m);
        guards = new_guarded b;
        head = logged_first H W.account (b.servers H);
      }
  all_hold b (user a i ∷ xs) fair f =
      let w = run W.group b xs in
      let u = w.users a in
      let t = user_step (settings_for W.group a) u i in
      let h = all_hold b xs fair.1 (within_right W t.events w.log f) in
      let ok = h.users a in
      let new = step_ok W a u ok i fair.0.0 (within-left W t.events w.log f) in
      holds_user w a t.user t.events h new (guard_step W a u ok w.log i fair.0.1 (h.guards a) new) (of_user a u ok i)
  all_hold b (drops a ∷ xs) fair f =
      let w = run W.group b xs in
      let h = all_hold b xs fair.1 f in
      holds_user w a (dropped (w.users a)) [] h (dropped_ok a (w.users a) (h.users a)) (dropped_guarded w.log a (w.users a) (h.guards a))
      (every_none (OfUser a))
  all_hold b (server s q buffer ∷ xs) fair f =
      let w = run W.group b xs in
      holds_server w s q buffer fair.0 (all_hold b xs fair.1 (within_right W (server_events s q _ _) w.log f))
