-- Every honest list of calls of the exported functions is an honest run; so no valid call is refused, and each does what it is for.
use mathlib.Core.Path.{◌≡◌, refl, sym, ◌∙◌, ap, ap₂, subst, fun_ext}
use mathlib.Core.Logic.{◌⊎◌, inl, inr, ⊎_elim}
use mathlib.Core.Bool.{Bool, false, cond, ◌&&◌}
use mathlib.Core.List.{List, [], ◌∷◌, ◌++◌}
use Prim.Native.Nat.{ℕ, zero, suc}
use lib.Dec.{eqb}
use borrow.Author.Tests.{ne_eqb}
use Rattle.tree.proofs.Cases.{by_bool, by_eqb, cases_eq}
use Rattle.user.specs.declared.call.Kept.{Kept}
use Rattle.user.specs.declared.call.StepResult.{StepResult}
use Rattle.user_calls.specs.Calls.{Input, start_update, start_write, start_read, start_give_up, answer}
use Rattle.server.specs.declared.Head.{Head}
use Rattle.c_layout.specs.Server.{head_of, result_of, server_answered}
use Rattle.whole_run.specs.World.{Sent, User, returned, user_step}
use Rattle.whole_run.specs.Runs.{Server, new_server, NewWorld, server_after, Sized}
use Rattle.honest_run.specs.Network.{HonestSetup, settings_in, public_to, Network, reply, answer_bytes, arrives, steps, comes_back}
use Rattle.honest_run.specs.Network.{in_records, network_after, handed, Act, calls, Run, wrote, do_act, new_network, run_of, run_seen}
use Rattle.honest_run.specs.Claim.{ValidInput, ValidCall, count_of, AllValid, NotRefused, Serves, SameHeads, BringsBack, CallsServe, HonestRun, Valid, Refused}
use Rattle.honest_run.proofs.Theorem.{honest_run}
use Rattle.c_runs.specs.Bytes.{UserBytes, user_of, step_of, called, user_called, server_bytes_after, new_server_bytes}
use Rattle.c_runs.specs.Runs.{ByteNetwork, server_of, network_of, reply_bytes, byte_arrives, byte_answer, byte_steps, in_bytes, zero_network}
use Rattle.c_runs.specs.Claim.{AllSized, ByteHonestRun}
use Rattle.c_runs.proofs.Users.{Laid, user_same, user-laid, step_same, refusal_same}
use Rattle.c_runs.proofs.Servers.{HeadSmall, head_small, head_same}
use Rattle.c_runs.proofs.Zeros.{user-zero, head-zero, head-zero-small, laid-zero}
use Rattle.c_runs.proofs.Forks.{users-set, zero_world}
use Rattle.honest_run.proofs.Frames.{run_from}

-- what holds of the bytes between calls
record Holds (c : HonestSetup) (w : ByteNetwork) : Type 0 where
  users : (a : ℕ) → Laid (settings_in c a) (w.users a)
  heads : (s : ℕ) → HeadSmall (head_of (w.servers s).head)

-- a call of a user's function
module _ (c : HonestSetup) (w : ByteNetwork) (h : Holds c w) (a : ℕ) (i : Input) (sized : Sized i) where
  steps_same : network_of (byte_steps c w a i) ≡ steps c (network_of w) a i
  unfolding network_of byte_steps steps
  steps_same =
      let s = settings_in c a in
      ap (λ (us : ℕ → User). record { users = us; servers = λ k. server_of (w.servers k) })
      (users-set user_of w.users a (user_called s (w.users a) i) (user_step s (user_of (w.users a)) i).user
      (user_same s (w.users a) (h.users a) i sized))

  steps-hold : Holds c (byte_steps c w a i)
  unfolding byte_steps
  steps-hold =
      let l = user-laid (settings_in c a) (w.users a) (h.users a) i sized in
      record {
        users = λ b. by_eqb (λ t. Laid (settings_in c b) (cond t (user_called (settings_in c a) (w.users a) i) (w.users b))) b a (λ e. rw e l) (λ _. h.users b);
        heads = h.heads;
      }

-- a request that arrives
module _ (c : HonestSetup) (w : ByteNetwork) (h : Holds c w) where
  reply_same : (x : Sent) → server_of (server_bytes_after (reply_bytes c w x)) ≡ server_after (reply c (network_of w) x)
  unfolding network_of server_of server_bytes_after reply_bytes server_answered result_of reply server_after
  reply_same x =
      let k = w.servers x.server in
      rw (head_same c.servers x.server c.log (public_to c c.count) k.head k.store k.used x.bytes (c.answers x.server) (h.heads x.server))

  arrives_same : (a : ℕ) → network_of (byte_arrives c w a) ≡ arrives c (network_of w) a
  unfolding network_of byte_arrives arrives user_of
  arrives_same a =
      let x = (w.users a).sent in
      ap (λ (ss : ℕ → Server). record { users = λ b. user_of (w.users b); servers = ss })
      (users-set server_of w.servers x.server (server_bytes_after (reply_bytes c w x)) (server_after (reply c (network_of w) x)) (reply_same x))

  answer_same : (a : ℕ) → byte_answer c w a ≡ comes_back c (network_of w) a
  unfolding byte_answer comes_back network_of user_of server_of reply_bytes server_answered result_of reply answer_bytes
  answer_same a = refl

  arrives-hold : (a : ℕ) → Holds c (byte_arrives c w a)
  unfolding byte_arrives server_bytes_after reply_bytes
  arrives-hold a =
      let x = (w.users a).sent in
      let k = w.servers x.server in
      let small =
      subst HeadSmall
      (sym (head_same c.servers x.server c.log (public_to c c.count) k.head k.store k.used x.bytes (c.answers x.server) (h.heads x.server)))
      (head_small (settings_in c x.server) (head_of k.head) k.store k.used x.bytes (c.answers x.server) (h.heads x.server)) in
      record {
        users = h.users;
        heads = λ s. by_eqb (λ t. HeadSmall (head_of (cond t (server_bytes_after (reply_bytes c w x)) (w.servers s)).head)) s x.server (λ _. small) (λ _. h.heads s);
      }

-- the answer that comes back is an answer
back_sized : (c : HonestSetup) (w : ByteNetwork) (a : ℕ) → Sized (byte_answer c w a)
unfolding byte_answer
back_sized c w a = tt

-- A whole call, after each of its answers.
module _ (c : HonestSetup) (w : ByteNetwork) (h : Holds c w) (a : ℕ) (i : Input) (sized : Sized i) where
  abbrev byte_after : ℕ → ByteNetwork
  byte_after k = network_after (in_bytes c) w a i k

  abbrev meant_after : ℕ → Network
  meant_after k = network_after (in_records c) (network_of w) a i k

  after_holds : (k : ℕ) → Holds c (byte_after k)
  unfolding network_after
  after_holds zero = steps-hold c w h a i sized
  after_holds (suc k) =
      let v = byte_after k in
      steps-hold c (byte_arrives c v a) (arrives-hold c v (after_holds k) a) a (byte_answer c v a) (back_sized c v a)

  after_same : (k : ℕ) → network_of (byte_after k) ≡ meant_after k
  unfolding network_after
  after_same zero = steps_same c w h a i sized
  after_same (suc k) =
      let v = byte_after k in
      let hv = after_holds k in
      steps_same c (byte_arrives c v a) (arrives-hold c v hv a) a (byte_answer c v a) (back_sized c v a)
      ∙ ap₂ (λ (n : Network) (j : Input). steps c n a j) (arrives_same c v hv a) (answer_same c v hv a)
      ∙ ap (λ (n : Network). steps c (arrives c n a) a (comes_back c n a)) (after_same k)

  -- what a step hands back, and what its function gives: the same, or both are refusals
  abbrev SameOrRefused : StepResult → StepResult → Type 0
  SameOrRefused x y = (y ≡ x) ⊎ ((x.code ≡ 0 → ⊥) × (y.code ≡ 0 → ⊥))

  given_same : (u : UserBytes) → Laid (settings_in c a) u → (j : Input) → Sized j
      → SameOrRefused (user_step (settings_in c a) (user_of u) j).step (step_of (called (settings_in c a) u j).result)
  unfolding step_of
  given_same u l j z =
      let s = settings_in c a in
      cases_eq (user_step s (user_of u) j).step.code 0 (λ e. inl (step_same s u l j z e)) (λ n. inr (n, refusal_same s u l j n))

  handed_same : (k : ℕ) → SameOrRefused (handed (in_records c) (network_of w) a i k) (handed (in_bytes c) w a i k)
  unfolding handed network_of
  handed_same zero = given_same (w.users a) (h.users a) i sized
  handed_same (suc k) =
      let v = byte_after k in
      let given = step_of (called (settings_in c a) (v.users a) (byte_answer c v a)).result in
      subst (λ (n : Network). SameOrRefused (user_step (settings_in c a) (n.users a) (comes_back c n a)).step given) (after_same k)
      (subst (λ (j : Input). SameOrRefused (user_step (settings_in c a) (user_of (v.users a)) j).step given)
      (answer_same c v (after_holds k) a) (given_same (v.users a) ((after_holds k).users a) (byte_answer c v a) (back_sized c v a)))

  -- a step with code 0
  handed-zero : (k : ℕ) → (handed (in_records c) (network_of w) a i k).code ≡ 0 → handed (in_bytes c) w a i k ≡ handed (in_records c) (network_of w) a i k
  handed-zero k z = ⊎_elim (λ e. e) (λ n. absurd (n.0 z)) (handed_same k)

  code_same : (k : ℕ) → eqb (handed (in_bytes c) w a i k).code 0 ≡ eqb (handed (in_records c) (network_of w) a i k).code 0
  code_same k =
      ⊎_elim (λ e. ap (λ (x : StepResult). eqb x.code 0) e)
      (λ n. ne_eqb (handed (in_bytes c) w a i k).code 0 n.1 ∙ sym (ne_eqb (handed (in_records c) (network_of w) a i k).code 0 n.0)) (handed_same k)

-- a refused step writes nothing
wrote_nothing : (a : ℕ) (i : Input) (x : StepResult) → (x.code ≡ 0 → ⊥) → wrote a i x ≡ []
unfolding wrote returned
wrote_nothing a i x n =
    let e : x.ended && eqb x.code 0 ≡ false = rw (ne_eqb x.code 0 n) (by_bool (λ t. t && false ≡ false) x.ended (λ _. refl) (λ _. refl)) in
    rw e

-- A call in the list.
module _ (c : HonestSetup) (r : Run ByteNetwork) (h : Holds c r.network) (a : ℕ) (i : Input) (sized : Sized i) (k : ℕ) (late : Bool) where
  abbrev w : ByteNetwork
  w = r.network

  abbrev seen : Run ByteNetwork → Run Network
  seen = run_seen (in_bytes c)

  wrote_same : wrote a i (handed (in_bytes c) w a i k) ≡ wrote a i (handed (in_records c) (network_of w) a i k)
  wrote_same =
      ⊎_elim (λ e. ap (wrote a i) e)
      (λ n. wrote_nothing a i (handed (in_bytes c) w a i k) n.1 ∙ sym (wrote_nothing a i (handed (in_records c) (network_of w) a i k) n.0))
      (handed_same c w h a i sized k)

  network_same : network_of (cond late (byte_arrives c (byte_after c w h a i sized k) a) (byte_after c w h a i sized k))
      ≡ cond late (arrives c (meant_after c w h a i sized k) a) (meant_after c w h a i sized k)
  network_same =
      let v = byte_after c w h a i sized k in
      let m = meant_after c w h a i sized k in
      let e = after_same c w h a i sized k in
      by_bool (λ t. network_of (cond t (byte_arrives c v a) v) ≡ cond t (arrives c m a) m) late
      (λ _. arrives_same c v (after_holds c w h a i sized k) a ∙ ap (λ (n : Network). arrives c n a) e) (λ _. e)

  act_same : seen (do_act (in_bytes c) r (calls a i k late)) ≡ do_act (in_records c) (seen r) (calls a i k late)
  unfolding do_act
  act_same = rw (network_same, wrote_same, code_same c w h a i sized 0)

  act_holds : Holds c (do_act (in_bytes c) r (calls a i k late)).network
  unfolding do_act
  act_holds =
      let v = byte_after c w h a i sized k in
      let hv = after_holds c w h a i sized k in
      by_bool (λ t. Holds c (cond t (byte_arrives c v a) v)) late (λ _. arrives-hold c v hv a) (λ _. hv)

module _ (c : HonestSetup) (b : NewWorld) where
  abbrev calls_run : List Act → Run ByteNetwork
  calls_run xs = run_of (in_bytes c) (zero_network b) xs

  abbrev stood : List Act → Run Network
  stood xs = run_seen (in_bytes c) (calls_run xs)

  zero_same : stood [] ≡ run_from c (zero_world b) []
  unfolding run_of zero_network new_server new_network network_of server_of new_server_bytes
  zero_same =
      ap₂ (λ (us : ℕ → User) (hs : ℕ → Head). record {
        network = record { users = us; servers = λ s. record { head = hs s; store = (b.servers s).store; used = 0 } };
        log = [];
        begun = λ a. [];
      })
      (fun_ext (λ a. user-zero b a)) (fun_ext (λ s. head-zero b s))

  all_hold : (xs : List Act) → AllSized xs → Holds c (calls_run xs).network
  unfolding run_of AllSized zero_network
  all_hold [] z = record { users = λ a. laid-zero (settings_in c a) b a; heads = λ s. head-zero-small b s }
  all_hold (calls a i k late ∷ xs) z = act_holds c (calls_run xs) (all_hold xs z.1) a i z.0 k late

  -- An honest list of calls of the exported functions is an honest run.
  pub run_same : (xs : List Act) → AllSized xs → stood xs ≡ run_from c (zero_world b) xs
  unfolding run_of AllSized
  run_same [] z = zero_same
  run_same (calls a i k late ∷ xs) z =
      act_same c (calls_run xs) (all_hold xs z.1) a i z.0 k late
      ∙ ap (λ (r : Run Network). do_act (in_records c) r (calls a i k late)) (run_same xs z.1)

  valid_same : (xs : List Act) → AllSized xs → AllValid c stood xs → AllValid c (run_from c (zero_world b)) xs
  unfolding AllValid AllSized
  valid_same [] z v = tt
  valid_same (calls a i k late ∷ xs) z v =
      (subst (λ (r : Run Network). Valid c r (calls a i k late) ⊎ Refused c r (calls a i k late)) (run_same xs z.1) v.0, valid_same xs z.1 v.1)

-- the later part of a sized list, and the earlier one
sized-before : (zs ys : List Act) → AllSized (zs ++ ys) → AllSized ys
unfolding AllSized
sized-before [] ys z = z
sized-before (calls a i k late ∷ zs) ys z = sized-before zs ys z.1

-- what a give-up brings back, at each earlier place of the list
module _ (c : HonestSetup) (b : NewWorld) (xs : List Act) (sized : AllSized xs) (x : Network) where
  brings_same : (i : Input) → BringsBack c (run_from c (zero_world b)) xs x i → BringsBack c (stood c b) xs x i
  unfolding BringsBack
  brings_same (start_update m) f = tt
  brings_same (start_write m entry randomizer) f = tt
  brings_same (start_read m i) f = tt
  brings_same (start_give_up m) f = λ ys zs e logs none.
      let r = run_same c b ys (sized-before zs ys (subst AllSized e sized)) in
      let whole = run_same c b xs sized in
      subst (λ (q : Run Network). SameHeads c x q.network) (sym r)
      (f ys zs e (ap (λ (q : Run Network). q.log) (sym r) ∙ logs ∙ ap (λ (q : Run Network). q.log) whole)
      (λ a. ap (λ (q : Run Network). (q.network.users a).state.kept.opened) (sym r) ∙ none a))
  brings_same (answer y) f = tt

-- a valid call's randomizer has 32 bytes
valid_sized : (c : HonestSetup) (r : Run Network) (a : ℕ) (k : Kept) (i : Input) → ValidInput c r a k i → Sized i
unfolding ValidInput
valid_sized c r a k (start_update m) v = tt
valid_sized c r a k (start_write m entry randomizer) v = v.random
valid_sized c r a k (start_read m i) v = tt
valid_sized c r a k (start_give_up m) v = tt
valid_sized c r a k (answer y) v = absurd v

-- So the honest run holds of it.
pub byte_honest_run : ByteHonestRun
unfolding ByteHonestRun HonestRun CallsServe NotRefused network_of
byte_honest_run c range b xs sized all a i valid =
    let r = calls_run c b xs in
    let h = all_hold c b xs sized in
    let size = valid_sized c _ a _ i valid.input in
    let e = run_same c b xs sized in
    let n = count_of c (stood c b xs) a i in
    let Runs : Run Network → Type 0 = λ q.
    let after = network_after (in_records c) q.network a i (count_of c q a i) in
    NotRefused (count_of c q a i) (handed (in_records c) q.network a i) × Serves q a (after.users a) i × BringsBack c (run_from c (zero_world b)) xs after i in
    let all_runs : Runs (stood c b xs) =
    subst Runs (sym e) (honest_run c range (zero_world b) xs (valid_same c b xs sized all) a i (subst (λ (q : Run Network). ValidCall c q a i) e valid)) in (
      λ k within.
          let step = all_runs.0 k within in
          subst (λ (x : StepResult). (x.code ≡ 0) × (x.ended ≡ eqb k n)) (sym (handed-zero c r.network h a i size k step.0)) step,
      subst (λ (w : Network). Serves (stood c b xs) a (w.users a) i) (sym (after_same c r.network h a i size n)) all_runs.1,
      subst (λ (w : Network). BringsBack c (stood c b) xs w i) (sym (after_same c r.network h a i size n)) (brings_same c b xs sized _ i all_runs.2),
    )
