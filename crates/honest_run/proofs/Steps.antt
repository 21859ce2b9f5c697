-- A step of a call of an honest run, from what it leaves of its user and of the servers: the call goes on, or is over.
use mathlib.Core.Path.{◌≡◌, refl, ap, sym, ◌∙◌, subst, ap₂}
use mathlib.Core.Bool.{true, false}
use mathlib.Core.List.{List, ◌++◌, [], ◌∷◌}
use Prim.Native.Nat.{ℕ, suc, ◌≤◌, ◌<◌}
use native.Mathlib.Omega.{arith}
use lib.ListN.{get_or, length-append, get_or-append, length}
use lib.Seq.{get_or-append_seam}
use borrow.Author.Tests.{eq-eqb, ne_eqb}
use Rattle.tree.specs.Expr.{entry_text}
use Rattle.tree.specs.Tree.{digest}
use Rattle.tree.proofs.Cases.{cases_eq}
use Rattle.user.specs.declared.call.StepResult.{StepResult}
use Rattle.user.specs.Outcome.{State, Outcome}
use Rattle.user_calls.specs.Calls.{Call, Input}
use Rattle.whole_run.specs.World.{User, after}
use Rattle.whole_run.specs.Runs.{Server}
use Rattle.honest_run.specs.Network.{HonestSetup, Network, arrives, Run, wrote, Written, answer_bytes, reply}
use Rattle.honest_run.specs.Claim.{Alone, Serves, written_at, text_at}
use Rattle.honest_run.proofs.Invariant.{Item, Good, digest_of}
use Rattle.honest_run.proofs.Log.{same_digest, same_texts}
use Rattle.honest_run.proofs.Frames.{set_same}
use Rattle.honest_run.proofs.Moves.{with_user, still_alone, Leaves, good_next, leaves_same, good_same}
use Rattle.honest_run.proofs.Exchanges.{exchanged, taken_by, leaving, exchange_is}
use Rattle.honest_run.proofs.Calls.{CallOk, Holds, begun_by, OnWay, Over, Stepped, Late}

-- a log with the same first w items holds what was written
holds_same : (L M : ℕ → Item) (w : ℕ) (log : List Written) → ((j : ℕ) → j < w → L j ≡ M j) → Holds L w log → Holds M w log
holds_same L M w log old holds =
    record {
      count = holds.count;
      author = λ j h. ap (λ (y : Item). y.author) (sym (old j h)) ∙ holds.author j h;
      entry = λ j h. ap (λ (y : Item). y.entry) (sym (old j h)) ∙ holds.entry j h;
    }

-- a log with one more entry
pub holds_more : (L : ℕ → Item) (w : ℕ) (log : List Written) (y : Written) → Holds L w log → (L w).author ≡ y.author → (L w).entry ≡ y.entry
    → Holds L (suc w) (log ++ (y ∷ []))
unfolding written_at
holds_more L w log y holds author entry =
    let n = holds.count in
    let none : Written = record { author = 0; entry = [] } in
    let new : (i : ℕ) → i ≡ w → get_or (log ++ (y ∷ [])) i none ≡ y = λ i e. rw (e, n) (get_or-append_seam log y [] none) in
    let same : (i : ℕ) → i < w → get_or (log ++ (y ∷ [])) i none ≡ get_or log i none = λ i h. get_or-append log (y ∷ []) none i (omega arith) in
    record {
      count = omega (arith, length-append log (y ∷ []));
      author =
          λ i h.
          cases_eq i w (λ e. ap (λ k. (L k).author) e ∙ author ∙ ap (λ (z : Written). z.author) (sym (new i e)))
          (λ q. holds.author i (omega (arith, q)) ∙ ap (λ (z : Written). z.author) (sym (same i (omega (arith, q)))));
      entry =
          λ i h.
          cases_eq i w (λ e. ap (λ k. (L k).entry) e ∙ entry ∙ ap (λ (z : Written). z.entry) (sym (new i e)))
          (λ q. holds.entry i (omega (arith, q)) ∙ ap (λ (z : Written). z.entry) (sym (same i (omega (arith, q)))));
    }

-- the digest of what the servers hold is that of what was written
pub log-digest : (L : ℕ → Item) (w : ℕ) (log : List Written) → Holds L w log → 0 < w → digest_of L w ≡ digest (text_at log) (length log)
unfolding text_at
log-digest L w log holds z =
    let M : ℕ → Item = λ i. record { author = (written_at log i).author; entry = (written_at log i).entry; signature = [] } in
    same_digest L M w z (λ i h. ap₂ entry_text (holds.author i h) (holds.entry i h)) ∙ ap (digest (text_at log)) holds.count

-- the call goes on with user u and servers y, in the log M, of whose open write h requests have arrived
pub on_way_from : (c : HonestSetup) (r : Run Network) (a : ℕ) (i : Input) (L M : ℕ → Item) (w g h left : ℕ) (b : ℕ → List ℕ) (x : Network) (u : User) (y : ℕ → Server)
    → Good c L w g b x → Alone x a → Holds L w r.log → (x.users a).reads ≡ (r.network.users a).reads → ((j : ℕ) → j < w → L j ≡ M j)
    → Leaves c M w h a (begun_by r a i a) u.state y → u.reads ≡ (x.users a).reads → CallOk c M w h a left u y i → OnWay c r a i left (with_user x a u y)
on_way_from c r a i L M w g h left b x u y good alone holds reads old leaves same call =
    record {
      log = M;
      w = w;
      g = h;
      good =
          good_next c L M w w g h a b (begun_by r a i) x good alone (omega arith) (same_texts L M w old) u y
          leaves;
      holds = holds_same L M w r.log old holds;
      alone = still_alone x a u y alone;
      reads = ap (λ (z : User). z.reads) (set_same x.users a u) ∙ same ∙ reads;
      call = subst (λ (z : User). CallOk c M w h a left z y i) (sym (set_same x.users a u)) call;
    }

-- what the answer y to call k leaves, where the call goes on
pub record GoesOn (c : HonestSetup) (r : Run Network) (a : ℕ) (i : Input) (left : ℕ) (x : Network) (k : Call) (y : List ℕ) : Type 0 where
  pub outcome : Outcome Call
  pub is : taken_by c x a k y ≡ outcome
  pub code : outcome.step.code ≡ 0
  pub ended : outcome.step.ended ≡ false
  pub on_way : OnWay c r a i left (leaving c x a outcome)

-- and where the call is over
pub record Ends (c : HonestSetup) (r : Run Network) (a : ℕ) (i : Input) (x : Network) (k : Call) (y : List ℕ) : Type 0 where
  pub outcome : Outcome Call
  pub is : taken_by c x a k y ≡ outcome
  pub code : outcome.step.code ≡ 0
  pub ended : outcome.step.ended ≡ true
  pub over : Over c r a i outcome.step (leaving c x a outcome)

-- the call goes on where answers are to come, and is over where none is
pub step-taken : (c : HonestSetup) (r : Run Network) (a : ℕ) (i : Input) (left : ℕ) (x : Network) (k : Call) (y : List ℕ) → (x.users a).call ≡ k
    → answer_bytes (reply c x (x.users a).sent) ≡ y → (0 < left → GoesOn c r a i left x k y) → (left ≡ 0 → Ends c r a i x k y)
    → Stepped c r a i left x
step-taken c r a i left x k y called comes on ends =
    cases_eq left 0
    (λ e.
    let o = ends e in
    let swap = exchange_is c x a y k o.outcome called comes o.is o.code in
    record {
      code = ap (λ (s : StepResult). s.code) swap.hands ∙ o.code;
      ended = ap (λ (s : StepResult). s.ended) swap.hands ∙ o.ended ∙ sym (eq-eqb left 0 e);
      goes_on_lem = λ more. absurd (omega arith);
      over =
          λ _.
          subst (λ (s : StepResult). Over c r a i s (exchanged c x a)) (sym swap.hands)
          (subst (Over c r a i o.outcome.step) (sym swap.next) o.over);
    })
    (λ n.
    let o = on (omega (arith, n)) in
    let swap = exchange_is c x a y k o.outcome called comes o.is o.code in
    record {
      code = ap (λ (s : StepResult). s.code) swap.hands ∙ o.code;
      ended = ap (λ (s : StepResult). s.ended) swap.hands ∙ o.ended ∙ sym (ne_eqb left 0 n);
      goes_on_lem = λ _. subst (OnWay c r a i left) (sym swap.next) o.on_way;
      over = λ e. absurd (n e);
    })

-- an answer to a call on its way
module _ (c : HonestSetup) (r : Run Network) (a : ℕ) (i : Input) (left : ℕ) (x : Network) (o : OnWay c r a i (suc left) x) where
  -- the call goes on with what z leaves, and the log M
  pub goes_on_lem : (M : ℕ → Item) (h : ℕ) (z : Outcome Call) → ((j : ℕ) → j < o.w → o.log j ≡ M j)
      → Leaves c M o.w h a (begun_by r a i a) z.state (arrives c x a).servers → (after (x.users a) z).reads ≡ (x.users a).reads
      → CallOk c M o.w h a left (after (x.users a) z) (arrives c x a).servers i → OnWay c r a i left (leaving c x a z)
  unfolding after
  goes_on_lem M h z =
      on_way_from c r a i o.log M o.w o.g h left (begun_by r a i) x (after (x.users a) z) (arrives c x a).servers o.good o.alone
      o.holds o.reads

  -- the call is over, and v entries are committed
  pub is-over : (v h : ℕ) (z : Outcome Call) → o.w ≤ v → Leaves c o.log v h a (begun_by r a i a) z.state (arrives c x a).servers
      → Holds o.log v (r.log ++ wrote a i z.step) → (after (x.users a) z).sent.server ≡ 0 → Serves r a (after (x.users a) z) i
      → Over c r a i z.step (leaving c x a z)
  unfolding after
  is-over v h z up leaves holds out serves =
      let u : User = after (x.users a) z in
      record {
        log = o.log;
        w = v;
        g = h;
        good =
            good_next c o.log o.log o.w v o.g h a (begun_by r a i) (begun_by r a i) x o.good o.alone up (λ j k. refl) u
            (arrives c x a).servers leaves;
        holds = holds;
        alone = still_alone x a u (arrives c x a).servers o.alone;
        none_out = ap (λ (y : User). y.sent.server) (set_same x.users a u) ∙ out;
        serves = subst (λ (y : User). Serves r a y i) (sym (set_same x.users a u)) serves;
      }

  -- its request was a pull
  module _ (keeps : (s : ℕ) → (arrives c x a).servers s ≡ x.servers s) where
    -- a user that keeps what it kept
    pub pull_leaves : (σ : State) → σ ≡ (x.users a).state → Leaves c o.log o.w o.g a (begun_by r a i a) σ (arrives c x a).servers
    pull_leaves σ same =
        leaves_same c o.log o.w o.g a (begun_by r a i) x o.good o.alone σ (arrives c x a).servers (begun_by r a i a) same
        (λ _. refl) (λ s _. keeps s)

    -- it asks on
    pub pull_goes-on : (z : Outcome Call) → z.state ≡ (x.users a).state → (after (x.users a) z).reads ≡ (x.users a).reads
        → CallOk c o.log o.w o.g a left (after (x.users a) z) (arrives c x a).servers i → OnWay c r a i left (leaving c x a z)
    pull_goes-on z same = goes_on_lem o.log o.g z (λ j h. refl) (pull_leaves z.state same)

    -- a pull whose answer is lost has changed nothing
    pub pull_late : Late c o.log o.w (begun_by r a i) (arrives c x a)
    unfolding arrives
    pull_late =
        record {
          g = o.g;
          good =
              good_same c o.log o.w o.g (begun_by r a i) (begun_by r a i) x (arrives c x a) o.good (λ j. refl) (λ s _. keeps s) (λ j _. refl);
        }
