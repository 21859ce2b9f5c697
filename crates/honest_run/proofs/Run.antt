-- The honest run: from its calls' starts, steps and late requests to every list of calls.
use mathlib.Core.Path.{◌≡◌, refl, ap, sym, ◌∙◌, subst}
use mathlib.Core.Logic.{◌⊎◌, inl, inr}
use mathlib.Core.Bool.{Bool, false, cond}
use mathlib.Core.List.{List, [], ◌∷◌, ◌++◌, append-nil}
use Prim.Native.Nat.{ℕ, zero, suc, ◌-◌, ◌≤◌, ◌<◌}
use native.Mathlib.Omega.{arith}
use lib.Dec.{eqb}
use borrow.Author.Tests.{eq-eqb, ne_eqb}
use Rattle.sha256.proofs.Cases.{by_bool}
use Rattle.tree.proofs.Cases.{cases_le, cases_eq}
use Rattle.user.specs.declared.call.StepResult.{StepResult}
use Rattle.user.specs.Outcome.{Lent}
use Rattle.user_calls.specs.Calls.{Input, start_update, start_write, start_read, start_give_up, answer}
use Rattle.whole_run.specs.World.{returned}
use Rattle.whole_run.specs.Runs.{NewWorld}
use Rattle.honest_run.specs.Network.{HonestSetup, InRange, Network, arrives, network_after, handed, Act, calls, Written, Run, entries_of, wrote, do_act, run_of, in_records}
use Rattle.honest_run.specs.Claim.{Alone, ValidCall, count_of, Valid, Refused, AllValid, NotRefused, Reaches, Serves, BringsBack}
use Rattle.honest_run.proofs.Invariant.{Good}
use Rattle.honest_run.proofs.Calls.{Holds, begun_by, Between, OnWay, Over, Started, Stepped, Late}
use Rattle.honest_run.proofs.Frames.{run_from}
use Rattle.honest_run.proofs.BroughtBack.{heads_same}

-- nothing is written by a step that does not end its call
pub wrote_nothing : (a : ℕ) (i : Input) (z : StepResult) → z.ended ≡ false → wrote a i z ≡ []
unfolding wrote returned
wrote_nothing a i z e = rw e

-- a give-up writes nothing
pub given_up_writes : (log : List Written) (a : ℕ) (m : Lent) (z : StepResult) → log ++ wrote a (start_give_up m) z ≡ log
unfolding wrote entries_of
given_up_writes log a m z =
    ap (λ (y : List Written). log ++ y) (by_bool (λ t. cond {A = List Written} t [] [] ≡ []) (returned z) (λ _. refl) (λ _. refl)) ∙ append-nil log

module _ (c : HonestSetup) (range : InRange c)
    (start : (r : Run Network) (a : ℕ) (i : Input) → Between c r → ValidCall c r a i → Started c r a i (count_of c r a i))
    (step : (r : Run Network) (a : ℕ) (i : Input) (left : ℕ) (x : Network) → ValidCall c r a i → OnWay c r a i (suc left) x → Stepped c r a i left x)
    (late : (r : Run Network) (a : ℕ) (i : Input) (left : ℕ) (x : Network) → ValidCall c r a i → (o : OnWay c r a i (suc left) x)
    → Late c o.log o.w (begun_by r a i) (arrives c x a))
    (late_over : (r : Run Network) (a : ℕ) (i : Input) (z : StepResult) (x : Network) (o : Over c r a i z x)
    → Good c o.log o.w o.g (begun_by r a i) (arrives c x a))
    (refusal : (r : Run Network) (x : Act) → Between c r → Refused c r x → Between c (do_act (in_records c) r x)) where
  -- one valid call
  module _ (r : Run Network) (a : ℕ) (i : Input) (between : Between c r) (valid : ValidCall c r a i) where
    abbrev n : ℕ
    n = count_of c r a i

    started : Started c r a i n
    started = start r a i between valid

    -- after fewer answers than it takes it is on its way
    next : (k : ℕ) → k < n → OnWay c r a i (n - k) (network_after (in_records c) r.network a i k) → Stepped c r a i (n - suc k) (network_after (in_records c) r.network a i k)
    next k h o =
        let e : n - k ≡ suc (n - suc k) = omega arith in
        step r a i (n - suc k) (network_after (in_records c) r.network a i k) valid (subst (λ m. OnWay c r a i m (network_after (in_records c) r.network a i k)) e o)

    pub on_way : (k : ℕ) → k < n → OnWay c r a i (n - k) (network_after (in_records c) r.network a i k)
    unfolding network_after
    on_way zero h = let e : n - 0 ≡ n = omega arith in rw e started.on_way
    on_way (suc k) h = (next k (omega arith) (on_way k (omega arith))).goes_on_lem (omega arith)

    stepped : (k : ℕ) → k < n → Stepped c r a i (n - suc k) (network_after (in_records c) r.network a i k)
    stepped k h = next k h (on_way k h)

    -- no step is refused, and the last one ends the call
    not-refused : NotRefused n (handed (in_records c) r.network a i)
    unfolding NotRefused handed
    not-refused zero h = (started.code, started.ended ∙ sym (ne_eqb 0 n (λ e. let z = started.some in omega arith)))
    not-refused (suc k) h =
        let s = stepped k (omega arith) in
        let e : eqb (n - suc k) 0 ≡ eqb (suc k) n =
        cases_eq (suc k) n
        (λ y. eq-eqb (n - suc k) 0 (omega arith) ∙ sym (eq-eqb (suc k) n y))
        (λ y. ne_eqb (n - suc k) 0 (λ z. y (omega arith)) ∙ sym (ne_eqb (suc k) n y))
        in
        (s.code, s.ended ∙ e)

    ends : Over c r a i (handed (in_records c) r.network a i n) (network_after (in_records c) r.network a i n)
    unfolding handed network_after
    ends =
        let e : suc (n - 1) ≡ n = let z = started.some in omega arith in
        subst (λ m. Over c r a i (handed (in_records c) r.network a i m) (network_after (in_records c) r.network a i m)) e
        ((stepped (n - 1) (let z = started.some in omega arith)).over (let z = started.some in omega arith))

  -- what call i of user a leaves, with these entries begun
  abbrev leaves : Run Network → ℕ → Input → ℕ → Bool → (ℕ → List ℕ) → Run Network
  leaves r a i k b begun =
      record {
        network = cond b (arrives c (network_after (in_records c) r.network a i k) a) (network_after (in_records c) r.network a i k);
        log = r.log ++ wrote a i (handed (in_records c) r.network a i k);
        begun = begun;
      }

  -- a valid call in the list leaves what the next one needs
  valid_leaves : (r : Run Network) (a : ℕ) (i : Input) (k : ℕ) (b : Bool) → Between c r → (v : ValidCall c r a i) → k ≤ count_of c r a i
      → Between c (leaves r a i k b (begun_by r a i))
  unfolding NotRefused
  valid_leaves r a i k b between v few =
      cases_le (count_of c r a i) k
      (λ h.
      let e : count_of c r a i ≡ k = omega arith in
      let o = subst (λ m. Over c r a i (handed (in_records c) r.network a i m) (network_after (in_records c) r.network a i m)) e (ends r a i between v) in
      record {
        log = o.log;
        w = o.w;
        g = o.g;
        good =
            by_bool (λ t. Good c o.log o.w o.g (begun_by r a i) (leaves r a i k t (begun_by r a i)).network) b
            (λ _. late_over r a i (handed (in_records c) r.network a i k) (network_after (in_records c) r.network a i k) o) (λ _. o.good);
        holds = o.holds;
      })
      (λ h.
      let more : count_of c r a i - k ≡ suc (count_of c r a i - suc k) = omega arith in
      let o = subst (λ n. OnWay c r a i n (network_after (in_records c) r.network a i k)) more (on_way r a i between v k h) in
      let l = late r a i (count_of c r a i - suc k) (network_after (in_records c) r.network a i k) v o in
      let t = (not-refused r a i between v k (omega arith)).1 ∙ ne_eqb k (count_of c r a i) (λ z. omega arith) in
      let e : r.log ++ wrote a i (handed (in_records c) r.network a i k) ≡ r.log =
      ap (λ (y : List Written). r.log ++ y) (wrote_nothing a i (handed (in_records c) r.network a i k) t) ∙ append-nil r.log
      in
      by_bool (λ t. Between c (leaves r a i k t (begun_by r a i))) b
      (λ _. record { log = o.log; w = o.w; g = l.g; good = l.good; holds = subst (Holds o.log o.w) (sym e) o.holds })
      (λ _. record { log = o.log; w = o.w; g = o.g; good = o.good; holds = subst (Holds o.log o.w) (sym e) o.holds }))

  -- so does every call: a valid one begins its entry, not being refused at its start
  acts : (r : Run Network) (x : Act) → Between c r → Valid c r x ⊎ Refused c r x → Between c (do_act (in_records c) r x)
  unfolding Valid do_act handed
  acts r (calls a i k b) between (inl v) =
      let z = eq-eqb (handed (in_records c) r.network a i 0).code 0 (started r a i between v.0).code in
      subst (λ t. Between c (leaves r a i k b (cond t (begun_by r a i) r.begun))) (sym z) (valid_leaves r a i k b between v.0 v.1)
  acts r x between (inr v) = refusal r x between v

  module _ (b : NewWorld) (first : Between c (run_from c b [])) where
    all_between : (xs : List Act) → AllValid c (run_from c b) xs → Between c (run_from c b xs)
    unfolding AllValid run_of
    all_between [] v = first
    all_between (x ∷ xs) v = acts (run_from c b xs) x (all_between xs v.1) v.0

    -- so is every list that it goes on from
    from_earlier : (ys zs : List Act) → AllValid c (run_from c b) (zs ++ ys) → AllValid c (run_from c b) ys
    unfolding AllValid
    from_earlier ys [] v = v
    from_earlier ys (z ∷ zs) v = from_earlier ys zs v.1

    -- a give-up brings every server's head back
    brings_back : (xs : List Act) → AllValid c (run_from c b) xs → (a : ℕ) (i : Input) → ValidCall c (run_from c b xs) a i
        → BringsBack c (run_from c b) xs (network_after (in_records c) (run_from c b xs).network a i (count_of c (run_from c b xs) a i)) i
    unfolding BringsBack Serves Reaches Alone
    brings_back xs v a (start_update m) valid = tt
    brings_back xs v a (start_write m entry randomizer) valid = tt
    brings_back xs v a (start_read m i) valid = tt
    brings_back xs v a (start_give_up m) valid =
        λ ys zs e same_log shut.
        let over = ends (run_from c b xs) a (start_give_up m) (all_between xs v) valid in
        let earlier = all_between ys (from_earlier ys zs (subst (AllValid c (run_from c b)) e v)) in
        heads_same c range over.log earlier.log over.w earlier.w over.g earlier.g (begun_by (run_from c b xs) a (start_give_up m))
        (run_from c b ys).begun _ (run_from c b ys).network (run_from c b xs).log over.good earlier.good
        (λ j. cases_eq j a (λ q. rw q over.serves.1) (λ n. over.alone j n)) shut
        (subst (Holds over.log over.w) (given_up_writes (run_from c b xs).log a m _) over.holds)
        (subst (Holds earlier.log earlier.w) same_log earlier.holds)
    brings_back xs v a (answer y) valid = tt

    -- every valid call after every list of calls that were valid or refused
    pub every_call : (xs : List Act) → AllValid c (run_from c b) xs → (a : ℕ) (i : Input) → ValidCall c (run_from c b xs) a i
        → NotRefused (count_of c (run_from c b xs) a i) (handed (in_records c) (run_from c b xs).network a i)
        × Serves (run_from c b xs) a ((network_after (in_records c) (run_from c b xs).network a i (count_of c (run_from c b xs) a i)).users a) i
        × BringsBack c (run_from c b) xs (network_after (in_records c) (run_from c b xs).network a i (count_of c (run_from c b xs) a i)) i
    every_call xs v a i valid =
        let between = all_between xs v in
        (not-refused (run_from c b xs) a i between valid, (ends (run_from c b xs) a i between valid).serves, brings_back xs v a i valid)
