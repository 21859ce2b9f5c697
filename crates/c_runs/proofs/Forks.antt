-- Every list of calls of the exported functions is a list of document 01's steps; so the fork bound holds of it.
use mathlib.Core.Path.{◌≡◌, refl, sym, ◌∙◌, ap, ap₂, subst, fun_ext}
use mathlib.Core.Bool.{cond}
use mathlib.Core.List.{List, [], ◌∷◌, ◌++◌}
use Prim.Native.Nat.{ℕ}
use lib.Dec.{eqb}
use Rattle.tree.proofs.Cases.{by_eqb}
use Rattle.server.specs.declared.Head.{Head}
use Rattle.server.specs.Serve.{served}
use Rattle.c_layout.specs.Server.{head_of, result_of, server_answered}
use Rattle.whole_run.specs.World.{Setup, settings_for, Event, User, user_step, dropped}
use Rattle.whole_run.specs.Runs.{Server, server_after, server_events, World, Step, user, drops, server, new_server, NewWorld, with_user, with_server, step, run}
use Rattle.fork_bound.specs.Fair.{Premises, FairStep, Fair, as_messages}
use Rattle.fork_bound.specs.Claim.{BoundHolds, ForkBound}
use Rattle.fork_bound.proofs.Fork.{fork_bound}
use Rattle.c_runs.specs.Bytes.{UserBytes, user_of, user_called, call_dropped, server_bytes_after, new_server_bytes}
use Rattle.c_runs.specs.Runs.{ByteWorld, server_of, world_of, call_step, byte_run}
use Rattle.c_runs.specs.Claim.{ByteForkBound}
use Rattle.c_runs.proofs.Users.{Laid, user_same, user-laid}
use Rattle.c_runs.proofs.Servers.{HeadSmall, head_small, head_same}
use Rattle.c_runs.proofs.Zeros.{zero_user, zero_server, user-zero, head-zero, head-zero-small, laid-zero, user-dropped, laid-dropped}

-- a world of users that step alike but for what is done to user a
pub users-set : {A B : Type 0} (f : A → B) (x : ℕ → A) (a : ℕ) (y : A) (z : B) → f y ≡ z
    → ◌≡◌ {A = ℕ → B} (λ b. f (cond (eqb b a) y (x b))) (λ b. cond (eqb b a) z (f (x b)))
users-set f x a y z e = fun_ext (λ b. by_eqb (λ t. f (cond t y (x b)) ≡ cond t z (f (x b))) b a (λ _. e) (λ _. refl))

-- what holds of the bytes between calls
record Holds (g : Setup) (w : ByteWorld) : Type 0 where
  users : (a : ℕ) → Laid (settings_for g a) (w.users a)
  heads : (s : ℕ) → HeadSmall (head_of (w.servers s).head)

-- a world with the servers as the bytes have them
abbrev beside : ByteWorld → List Event → (ℕ → User) → World
beside w log us = record { users = us; servers = λ s. server_of (w.servers s); log = log }

module _ (g : Setup) (H : ℕ) (p : Premises) (w : ByteWorld) (h : Holds g w) where
  -- The world that the bytes stand for after a call is the world after the step.
  step_same : (x : Step) → FairStep g H p (world_of w) x → world_of (call_step g w x) ≡ step g (world_of w) x
  unfolding world_of call_step step with_user with_server server_after user_step FairStep server_of server_bytes_after server_answered result_of
  step_same (user a i) f =
      let s = settings_for g a in
      let u = w.users a in
      ap (beside w ((user_step s (user_of u) i).events ++ w.log))
      (users-set user_of w.users a (user_called s u i) (user_step s (user_of u) i).user
      (user_same s u (h.users a) i f.0))
  step_same (drops a) f =
      ap (beside w w.log) (users-set user_of w.users a (call_dropped (w.users a)) (dropped (user_of (w.users a))) (user-dropped (w.users a)))
  step_same (server s q buffer) f =
      let b = w.servers s in
      let o = server_answered g.servers s g.log g.users b.head b.store b.used q buffer in
      let l = served (settings_for g s) (head_of b.head) b.store b.used q buffer in
      let log = server_events s q l.out.answered l.answer ++ w.log in
      let users : ℕ → User = λ a. user_of (w.users a) in
      ap (λ (k : ℕ → Server). record { users = users; servers = k; log = log })
      (users-set server_of w.servers s (server_bytes_after o) (server_after l)
      (rw (head_same g.servers s g.log g.users b.head b.store b.used q buffer (h.heads s))))

  -- What holds of the bytes stays so.
  users-on : (a : ℕ) (u : UserBytes) → Laid (settings_for g a) u → (b : ℕ) → Laid (settings_for g b) (cond (eqb b a) u (w.users b))
  users-on a u l b = by_eqb (λ t. Laid (settings_for g b) (cond t u (w.users b))) b a (λ e. rw e l) (λ _. h.users b)

  step_holds : (x : Step) → FairStep g H p (world_of w) x → Holds g (call_step g w x)
  unfolding world_of call_step with_user with_server FairStep server_bytes_after
  step_holds (user a i) f =
      let u = w.users a in
      let l = user-laid (settings_for g a) u (h.users a) i f.0 in
      record { users = users-on a (user_called (settings_for g a) u i) l; heads = h.heads }
  step_holds (drops a) f =
      record { users = users-on a (call_dropped (w.users a)) (laid-dropped (settings_for g a) (w.users a) (h.users a)); heads = h.heads }
  step_holds (server s q buffer) f =
      let b = w.servers s in
      let o = server_answered g.servers s g.log g.users b.head b.store b.used q buffer in
      let small =
      subst HeadSmall (sym (head_same g.servers s g.log g.users b.head b.store b.used q buffer (h.heads s)))
      (head_small (settings_for g s) (head_of b.head) b.store b.used q buffer (h.heads s)) in
      record {
        users = h.users;
        heads = λ t. by_eqb (λ e. HeadSmall (head_of (cond e (server_bytes_after o) (w.servers t)).head)) t s (λ _. small) (λ _. h.heads t);
      }

-- the new world that the zero bytes stand for
abbrev pub zero_world : NewWorld → NewWorld
zero_world b = record { users = zero_user b; servers = zero_server b }

module _ (g : Setup) (H : ℕ) (p : Premises) (b : NewWorld) where
  abbrev stood : List Step → World
  stood xs = world_of (byte_run g b xs)

  zero_same : stood [] ≡ run g (zero_world b) []
  unfolding world_of server_of byte_run run new_server new_server_bytes
  zero_same =
      ap₂ (λ (us : ℕ → User) (ks : ℕ → Head). record { users = us; servers = λ s. record { head = ks s; store = (b.servers s).store; used = 0 }; log = [] })
      (fun_ext (λ a. user-zero b a)) (fun_ext (λ s. head-zero b s))

  all_hold : (xs : List Step) → Fair g H p stood xs → Holds g (byte_run g b xs)
  unfolding byte_run Fair
  all_hold [] f = record { users = λ a. laid-zero (settings_for g a) b a; heads = head-zero-small b }
  all_hold (x ∷ xs) f = step_holds g H p (byte_run g b xs) (all_hold xs f.1) x f.0

  -- A list of calls of the exported functions is a run.
  pub run_same : (xs : List Step) → Fair g H p stood xs → stood xs ≡ run g (zero_world b) xs
  unfolding byte_run run Fair
  run_same [] f = zero_same
  run_same (x ∷ xs) f =
      step_same g H p (byte_run g b xs) (all_hold xs f.1) x f.0 ∙ ap (λ (w : World). step g w x) (run_same xs f.1)

  fair_same : (xs : List Step) → Fair g H p stood xs → Fair g H p (run g (zero_world b)) xs
  unfolding Fair
  fair_same [] f = tt
  fair_same (x ∷ xs) f = (subst (λ (w : World). FairStep g H p w x) (run_same xs f.1) f.0, fair_same xs f.1)

-- So the fork bound holds of it.
pub byte_fork_bound : ByteForkBound
unfolding ByteForkBound ForkBound
byte_fork_bound g named H one within account b xs fair =
    let p = as_messages H account in
    subst (BoundHolds g) (sym (run_same g H p b xs fair)) (fork_bound g named H one within account (zero_world b) xs (fair_same g H p b xs fair))
