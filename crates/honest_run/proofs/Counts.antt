-- How far an open write has come: which records are stored and which labels reserved once g of its requests have arrived.
use mathlib.Core.Path.{◌≡◌, refl, ap, sym, ◌∙◌}
use mathlib.Core.Bool.{true, false, cond, ◌&&◌, ◌||◌, false≢true}
use Prim.Native.Nat.{ℕ, suc, ◌+◌, ◌≤◌, ◌<◌, min}
use native.Mathlib.Nat.{add-zero}
use native.Mathlib.Omega.{arith}
use lib.Dec.{eqb, leb, ltb}
use borrow.Author.Tests.{eq-eqb, ne_eqb, le-leb, lt-leb, lt-ltb, le-ltb, leb-true}
use Rattle.tree.specs.Level.{lg, highest_full}
use Rattle.tree.specs.Label.{nodes_to}
use Rattle.tree.proofs.Cases.{by_bool, by_eqb, cases_le, cases_eq}
use Rattle.tree.proofs.Levels.{full_iff}
use Rattle.store.specs.Shape.{node_fits}
use Rattle.user_write.specs.Write.{commit_number}
use Rattle.honest_run.proofs.Invariant.{PutKind, number_of, has, reached}
use Rattle.honest_run.proofs.Heads.{nodes-suc}
use Rattle.honest_run.proofs.Records.{by_stored-kind}

-- the record of a committed position is stored
pub has_old : (w g kind p l : ℕ) → p ≤ w → has w g kind p l ≡ true
unfolding has
has_old w g kind p l a = rw (le-leb p w a)

-- one of the open write where its request has arrived, and none of a later position
pub has-now : (w g kind l : ℕ) → number_of kind (suc w) l < g → has w g kind (suc w) l ≡ true
unfolding has
has-now w g kind l a = rw (lt-leb (suc w) w (omega arith), eq-eqb (suc w) (suc w) refl) (lt-ltb (number_of kind (suc w) l) g a)

-- one whose request has not arrived is not stored
pub has-not : (w g kind l : ℕ) → g ≤ number_of kind (suc w) l → has w g kind (suc w) l ≡ false
unfolding has
has-not w g kind l a = rw (lt-leb (suc w) w (omega arith), eq-eqb (suc w) (suc w) refl) (le-ltb (number_of kind (suc w) l) g a)

-- nor is one of a later position
has_far : (w g kind p l : ℕ) → suc w < p → has w g kind p l ≡ false
unfolding has
has_far w g kind p l a = rw (lt-leb p w (omega arith), ne_eqb p (suc w) (λ e. omega arith))

-- where no request has arrived, nothing past the committed positions is stored
pub has-none : (w kind p l : ℕ) → w < p → has w 0 kind p l ≡ false
has-none w kind p l a =
    cases_eq p (suc w)
    (λ e. rw e (has-not w 0 kind l (omega arith)))
    (λ n. has_far w 0 kind p l (omega arith))

-- the two ways that a record is stored
pub by_has : {C : Type 0} (w g kind p l : ℕ) → has w g kind p l ≡ true → (p ≤ w → C) → (p ≡ suc w → number_of kind p l < g → C) → C
by_has w g kind p l t old now =
    cases_le p w old
    (λ a. cases_eq p (suc w)
    (λ e. cases_le (suc (number_of kind p l)) g (now e)
    (λ b. absurd (false≢true (sym (has-not w g kind l (rw e at (let h : g ≤ number_of kind p l = omega arith in h))) ∙ rw e at t))))
    (λ n. absurd (false≢true (sym (has_far w g kind p l (omega arith)) ∙ t))))

-- a request stores no other record than its own
pub has-step : (w g kind p l : ℕ) → (p ≡ suc w → number_of kind p l ≡ g → ⊥) → has w (suc g) kind p l ≡ has w g kind p l
unfolding has
has-step w g kind p l n =
    by_eqb (λ b. leb p w || (b && ltb (number_of kind p l) (suc g)) ≡ (leb p w || (b && ltb (number_of kind p l) g))) p (suc w)
    (λ e. cases_le (suc (number_of kind p l)) g
    (λ i. rw (lt-ltb (number_of kind p l) g i, lt-ltb (number_of kind p l) (suc g) (omega arith)))
    (λ i. cases_eq (number_of kind p l) g
    (λ q. absurd (n e q))
    (λ q. rw (le-ltb (number_of kind p l) g (omega arith), le-ltb (number_of kind p l) (suc g) (omega arith)))))
    (λ e. refl)

-- a record's number is behind those of the Reserves
pub number_low : (kind p l : ℕ) → lg p < number_of kind p l
unfolding commit_number
number_low kind p l = by_bool (λ b. lg p < cond b (lg p + 1 + highest_full p + 1) (lg p + 1 + l)) (eqb kind 8) (λ _. omega arith) (λ _. omega arith)

-- a Reserve stores nothing
pub has-reserves : (w g kind p l : ℕ) → g ≤ suc (lg (suc w)) → has w g kind p l ≡ has w 0 kind p l
unfolding has
has-reserves w g kind p l a =
    by_eqb (λ b. leb p w || (b && ltb (number_of kind p l) g) ≡ (leb p w || (b && ltb (number_of kind p l) 0))) p (suc w)
    (λ e.
    let n = number_low kind p l in
    let i : lg p ≡ lg (suc w) = ap lg e in
    rw (le-ltb (number_of kind p l) g (omega arith), le-ltb (number_of kind p l) 0 (omega arith)))
    (λ e. refl)

-- the greatest label reserved
pub reached_low : (w g : ℕ) → g ≤ lg (suc w) + 1 → reached w g ≡ nodes_to w + g
unfolding reached
reached_low w g a = let e : min g (lg (suc w) + 1) ≡ g = omega arith in rw e

-- past the Reserves it is the last label of the position
pub reached_high : (w g : ℕ) → lg (suc w) < g → reached w g ≡ nodes_to (suc w)
unfolding reached
reached_high w g a = let e : min g (lg (suc w) + 1) ≡ lg (suc w) + 1 = omega arith in rw e (sym (nodes-suc w))

-- without a request it is the last label of the committed positions
pub reached-zero : (w : ℕ) → reached w 0 ≡ nodes_to w
reached-zero w = reached_low w 0 (omega arith) ∙ add-zero (nodes_to w)

-- it is not below the last label of the committed positions
pub reached-from : (w g : ℕ) → nodes_to w ≤ reached w g
unfolding reached
reached-from w g = omega arith

-- it never passes the last label of the position
pub reached-le : (w g : ℕ) → reached w g ≤ nodes_to (suc w)
unfolding reached
reached-le w g = let e = nodes-suc w in omega arith

-- the Commit's number is the last,
number_high : (kind p l : ℕ) → 0 < p → PutKind kind → node_fits kind p l ≡ true → number_of kind p l ≤ commit_number p
unfolding commit_number
number_high kind p l z k f =
    by_stored-kind kind p l k f
    (λ e i. rw e (omega arith))
    (λ e i j. rw e (let t = leb-true l (highest_full p) (sym (full_iff p l z) ∙ i) in omega arith))
    (λ e i. rw e (omega arith))

-- and no two records of a position have one number
pub number-one : (kind of p l i : ℕ) → 0 < p → PutKind kind → PutKind of → node_fits kind p l ≡ true → node_fits of p i ≡ true
    → number_of kind p l ≡ number_of of p i → (kind ≡ of) × (l ≡ i)
unfolding commit_number
number-one kind of p l i z k o f g =
    by_stored-kind kind p l k f
    (λ e il. by_stored-kind of p i o g
    (λ e' ir. rw (e, e') (λ q. (refl, omega arith)))
    (λ e' ir j. rw (e, e') (λ q. absurd (omega arith)))
    (λ e' ir. rw (e, e') (λ q. absurd (omega arith))))
    (λ e il j. let t = leb-true l (highest_full p) (sym (full_iff p l z) ∙ il) in
    by_stored-kind of p i o g
    (λ e' ir. rw (e, e') (λ q. absurd (omega arith)))
    (λ e' ir m. rw (e, e') (λ q. (refl, omega arith)))
    (λ e' ir. rw (e, e') (λ q. absurd (omega arith))))
    (λ e il. by_stored-kind of p i o g
    (λ e' ir. rw (e, e') (λ q. absurd (omega arith)))
    (λ e' ir m. let t = leb-true i (highest_full p) (sym (full_iff p i z) ∙ ir) in rw (e, e') (λ q. absurd (omega arith)))
    (λ e' ir. rw (e, e') (λ q. (refl, omega arith))))

-- where all requests have arrived, the position is committed
pub has_done : (w kind p l : ℕ) → 0 < p → PutKind kind → node_fits kind p l ≡ true
    → has w (suc (commit_number (suc w))) kind p l ≡ has (suc w) 0 kind p l
has_done w kind p l z k f =
    cases_le p w
    (λ i. has_old w _ kind p l i ∙ sym (has_old (suc w) 0 kind p l (omega arith)))
    (λ i. cases_eq p (suc w)
    (λ e. let h : number_of kind p l ≤ commit_number p = number_high kind p l z k f in
    let t : number_of kind (suc w) l ≤ commit_number (suc w) = rw e at h in
    rw e (has-now w (suc (commit_number (suc w))) kind l (omega arith) ∙ sym (has_old (suc w) 0 kind (suc w) l (omega arith))))
    (λ n. has_far w _ kind p l (omega arith) ∙ sym (has-none (suc w) kind p l (omega arith))))
