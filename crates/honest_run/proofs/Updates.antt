-- An Update in an honest run: when it ends, what it asks for, and what it has at its end.
use mathlib.Core.Path.{◌≡◌, refl, sym, ap, ◌∙◌, subst}
use mathlib.Core.Bool.{true, false}
use mathlib.Core.List.{List}
use Prim.Native.Nat.{ℕ, ◌+◌, ◌-◌, ◌≤◌, ◌<◌}
use native.Mathlib.Omega.{arith}
use lib.Count.{ones}
use lib.Dec.{eqb, leb}
use lib.ListN.{length, get_or}
use borrow.Author.Tests.{eq-eqb, ne_eqb, le-leb, lt-leb, leb-false, leb-true}
use Rattle.tree.specs.Level.{lg}
use Rattle.tree.specs.Label.{nodes_to}
use Rattle.tree.specs.Tree.{leaves}
use Rattle.tree.specs.Cover.{at, cover}
use Rattle.tree.proofs.Cases.{positive, cases_le, cases_eq}
use Rattle.tree.proofs.Counts.{own-length}
use Rattle.tree.proofs.Honest.{TrueAnswers}
use Rattle.tree.proofs.Tiles.{ones_of_zero}
use Rattle.user.specs.declared.call.Kept.{Kept}
use Rattle.user_update.specs.declared.call.Update.{Update}
use Rattle.user.specs.Asking.{of_node, of_status}
use Rattle.user_update.specs.Update.{fresh_update, update_ended, update_want, arrived, update_answers}
use Rattle.user_update.proofs.UpdateRules.{counted, answers-none, answers-most, answers-least}
use Rattle.user_update.proofs.Updates.{want_status, want_record, want-node}
use Rattle.user_update.proofs.UpdateSteps.{arrived-nowhere, arrived-later}
use Rattle.honest_run.specs.Network.{HonestSetup}
use Rattle.honest_run.proofs.Invariant.{Item, texts, digest_of, CanAsk, UpdateOk}
use Rattle.honest_run.proofs.Heads.{own_range, nodes-lt, nodes-zero}
use Rattle.honest_run.proofs.Nodes.{FullNode, cover-node}
use Rattle.honest_run.proofs.Answers.{node-asks, status-asks}

-- an Update that has taken in no answer
pub fresh-update : (n v w : ℕ) (L : ℕ → Item) (hashes : List ℕ) → 0 < n → UpdateOk n v w L fresh_update hashes
unfolding fresh_update
fresh-update n v w L hashes z =
    record {
      greatest_low = λ _. omega arith;
      greatest_seen = λ _ h. let o = (own_range n (nodes_to w) z).0 in absurd (omega arith);
      position-is = λ _ e.
          cases_eq w 0 (λ q. sym q) (λ q. let x = nodes-lt 0 w (omega (arith, q)) in let y = nodes-zero in absurd (omega arith));
      least_near = λ _ h. absurd (omega arith);
      position_later = λ h. absurd (omega arith);
      digest-later = λ h. absurd (omega arith);
      hashes_right = λ h. absurd (omega arith);
    }

-- an Update that has not ended: p* is not 0 after the last Status, and hashes of the cover are missing
pub waits_for : (n v : ℕ) (u : Update) → update_ended n v u ≡ false
    → (u.answers ≡ n → u.position ≡ 0 → ⊥) × (u.answers < n + 1 + length (cover v u.position))
unfolding update_ended
waits_for n v u e =
    let x = leb-false (update_answers n v u.position) u.answers e in (
      λ a b. let y = rw b at x in omega (arith, answers-none n v),
      omega (arith, answers-most n v u.position),
    )

module _ (n v w : ℕ) (L : ℕ → Item) (u : Update) (hashes : List ℕ) (ok : UpdateOk n v w L u hashes) where
  -- before the last Status an Update has not ended
  ended-early : u.answers < n → update_ended n v u ≡ false
  unfolding update_ended
  ended-early h = lt-leb (update_answers n v u.position) u.answers (omega (arith, answers-least n v u.position))

  -- later p* is w
  ended-later : n ≤ u.answers → update_ended n v u ≡ leb (update_answers n v w) u.answers
  unfolding update_ended
  ended-later h = ap (λ (p : ℕ). leb (update_answers n v p) u.answers) (ok.position_later h)

  -- "Ends after N + 1 + cover answers, sooner at p* = 0"
  pub ended_is : u.answers ≤ update_answers n v w → update_ended n v u ≡ eqb u.answers (update_answers n v w)
  ended_is h =
      let x = update_answers n v w in
      cases_le n u.answers
      (λ i.
      ended-later i
      ∙ cases_eq u.answers x (λ e. le-leb x u.answers (omega arith) ∙ sym (eq-eqb u.answers x e))
      (λ e. lt-leb x u.answers (omega arith) ∙ sym (ne_eqb u.answers x e)))
      (λ i. ended-early i ∙ sym (ne_eqb u.answers x (λ e. omega (arith, answers-least n v w))))

-- what an Update asks for may be asked
pub update-asks : (c : HonestSetup) (v w : ℕ) (L : ℕ → Item) (u : Update) (hashes : List ℕ) → UpdateOk c.servers v w L u hashes → v ≤ w
    → update_ended c.servers v u ≡ false → CanAsk c w (update_want c.servers v u)
update-asks c v w L u hashes ok vw e =
    let n = c.servers in
    let x = waits_for n v u e in
    cases_le n u.answers
    (λ h.
    let p = ok.position_later h in
    let few : u.answers < n + 1 + length (cover v w) = rw p at x.1 in
    cases_eq u.answers n
    (λ q.
    let r : of_node 4 n u.position (lg u.position) ≡ update_want n v u = want_record n v u _ h q refl in
    let z : 1 ≤ u.position = positive u.position (x.0 q) in
    subst (CanAsk c w) r
    (node-asks c w 4 u.position (lg u.position) (omega arith) (omega arith) z (omega arith) (λ k. absurd (omega arith)) (λ k. absurd (omega arith)) (λ k. refl)))
    (λ q.
    let m = get_or (cover v u.position) (u.answers - (n + 1)) (at 0 0) in
    let r : of_node 2 n m.position m.level ≡ update_want n v u = want-node n v u _ m h q refl refl in
    let f : FullNode w m = rw p (cover-node v w (u.answers - (n + 1)) vw (omega (arith, q))) in
    subst (CanAsk c w) r
    (node-asks c w 2 m.position m.level (omega arith) (omega arith) f.low f.high (λ k. f.full) (λ k. absurd (omega arith)) (λ k. absurd (omega arith)))))
    (λ h.
    let r : of_status (u.answers + 1) ≡ update_want n v u = want_status n v u _ h refl in
    subst (CanAsk c w) r (status-asks c w (u.answers + 1) (omega arith) (omega arith)))

-- the cover of nothing
pub cover-none : (v w : ℕ) → v ≤ w → w ≡ 0 → length (cover v w) ≡ 0
cover-none v w h z =
    let e : v ≡ 0 = omega arith in
    let o : ones v ≡ 0 = rw e ones_of_zero in
    omega (arith, own-length v w (omega arith))

-- the end of an Update from what k keeps: p* is w, and the cover's hashes are the log's
pub record Arrived (w : ℕ) (L : ℕ → Item) (k : Kept) (u : Update) (hashes : List ℕ) : Type 0 where
  pub position : u.position ≡ w
  pub version : (arrived k u).version ≡ w
  pub digest : 0 < w → (arrived k u).digest ≡ digest_of L w
  pub nothing : w ≡ 0 → (k.version ≡ 0) × (arrived k u ≡ k)
  pub number : (arrived k u).number ≡ k.number
  pub opened : (arrived k u).opened ≡ k.opened
  pub signed : (arrived k u).signed ≡ k.signed
  pub answers : TrueAnswers (leaves (texts L)) (cover k.version w) hashes

module _ (n w : ℕ) (L : ℕ → Item) (k : Kept) (u : Update) (hashes : List ℕ) (ok : UpdateOk n k.version w L u hashes) (vw : k.version ≤ w)
    (e : update_ended n k.version u ≡ true) where
  -- every Status is in
  all_status : n ≤ u.answers
  unfolding update_ended
  all_status =
      omega (arith, leb-true (update_answers n k.version u.position) u.answers e, answers-least n k.version u.position)

  -- every hash of the cover is in
  all_hashes : 0 < w → n + 1 + length (cover k.version w) ≤ u.answers
  all_hashes z =
      let p = ok.position_later all_status in
      rw p at (counted n k.version u e (omega arith))

  -- the hashes are those of the log's nodes
  pub true-answers : TrueAnswers (leaves (texts L)) (cover k.version w) hashes
  true-answers j h =
      cases_eq w 0
      (λ z. absurd (omega (arith, cover-none k.version w vw z)))
      (λ z. let a = all_hashes (omega (arith, z)) in ok.hashes_right (omega arith) j (omega arith))

  -- what is kept at the end
  pub update-ends : Arrived w L k u hashes
  update-ends =
      let p = ok.position_later all_status in
      cases_eq w 0
      (λ z.
      let same : arrived k u ≡ k = sym (arrived-nowhere k u (omega arith)) in
      record {
        position = p;
        version = ap (λ (x : Kept). x.version) same ∙ (omega arith);
        digest = λ h. absurd (omega arith);
        nothing = λ _. (omega arith, same);
        number = ap (λ (x : Kept). x.number) same;
        opened = ap (λ (x : Kept). x.opened) same;
        signed = ap (λ (x : Kept). x.signed) same;
        answers = true-answers;
      })
      (λ z.
      let new = sym (arrived-later k u (λ q. z (sym p ∙ q))) in
      record {
        position = p;
        version = ap (λ (x : Kept). x.version) new ∙ p;
        digest = λ h. ap (λ (x : Kept). x.digest) new ∙ ok.digest-later (let a = all_hashes h in omega arith);
        nothing = λ q. absurd (z q);
        number = ap (λ (x : Kept). x.number) new;
        opened = ap (λ (x : Kept). x.opened) new;
        signed = ap (λ (x : Kept). x.signed) new;
        answers = true-answers;
      })
