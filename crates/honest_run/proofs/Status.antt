-- An Update in an honest run takes in the heads that servers tell: the greatest label is the log's, so p* is its last position.
use mathlib.Core.Path.{◌≡◌, ap, ◌∙◌}
use mathlib.Core.Bool.{true, cond}
use mathlib.Core.List.{List, []}
use Prim.Native.Nat.{ℕ, suc, ◌+◌, ◌≤◌, ◌<◌, min, max}
use native.Mathlib.Omega.{arith}
use lib.Dec.{eqb, leb, ltb}
use lib.ListN.{get_or}
use lib.Seq.{get_or_at}
use borrow.Author.Tests.{eq-eqb, ne_eqb, leb-true, lt-ltb, le-ltb}
use Rattle.sha256.specs.Bytes.{be, number_at}
use Rattle.sha256.proofs.Laws.{be-length, number-be}
use Rattle.tree.specs.Level.{lg}
use Rattle.tree.specs.Label.{nodes_to, label, owner}
use Rattle.tree.specs.Setup.{in_log}
use Rattle.tree.proofs.Cases.{and-true, cases_le, cases_eq, positive}
use Rattle.tree.proofs.Levels.{lg_below}
use Rattle.tree.proofs.Messages.{be-one}
use Rattle.user_update.specs.declared.call.Update.{Update}
use Rattle.user_update.specs.Update.{told_position, told_level, told_label, head_holds, status_taken}
use Rattle.honest_run.specs.Network.{HonestSetup}
use Rattle.honest_run.proofs.Invariant.{Item, owner_of, HeadAt, ToldOk, UpdateOk}
use Rattle.honest_run.proofs.Heads.{owner-label, own_range, top, label-zero, label-above-zero, position-le, position-is}
use Rattle.honest_run.proofs.Counts.{reached-zero}

-- what holds of a head that an honest server tells
pub record HeadTold (n w s p l : ℕ) : Type 0 where
  pub head : HeadAt n s (nodes_to w) (label p l)
  pub level : l ≤ lg p
  pub none : p ≡ 0 → l ≡ 0
  pub some : 0 < p → in_log p l ≡ true

-- the level of a node of a log
in_log_level : (p l : ℕ) → in_log p l ≡ true → l ≤ lg p
unfolding in_log
in_log_level p l e = leb-true l (lg p) (and-true (leb p 1048576) _ (and-true (leb 1 p) _ e).1).1

module _ (c : HonestSetup) (w s : ℕ) (body : List ℕ) (within : w ≤ 1048576) (t : ToldOk c w 0 s body) where
  -- the head, where no label of a next position is reserved
  head_at : HeadAt c.servers s (nodes_to w) (label t.position t.level)
  head_at = rw (reached-zero w) at t.head

  -- the level is one of the position's path
  level_low : t.level ≤ lg t.position
  level_low =
      cases_eq t.position 0 (λ e. let z = t.none e in omega arith)
      (λ n. in_log_level t.position t.level (t.some (positive t.position n)))

  -- the position is committed
  position_low : t.position ≤ w
  position_low = position-le t.position t.level w head_at.low

  -- the position is read back from the body
  position_back : told_position body ≡ t.position
  unfolding told_position
  position_back =
      let h = position_low in
      ap (λ (b : List ℕ). number_at 4 b 0) t.told ∙ number-be 4 t.position (be 1 t.level) (omega arith)

  -- the level is read back
  level_back : told_level body ≡ t.level
  unfolding told_level
  level_back =
      let h = position_low in
      let i = level_low in
      let k = lg_below t.position 20 (omega arith) in
      ap (λ (b : List ℕ). get_or b 4 0) t.told ∙ rw (be-one t.level (omega arith)) (get_or_at (be 4 t.position) t.level [] 0 4 (be-length 4 t.position))

  -- the head that is read is the one told
  pub head-told : HeadTold c.servers w s (told_position body) (told_level body)
  head-told = rw (position_back, level_back) (record { head = head_at; level = level_low; none = t.none; some = t.some })

-- 10: the server may have this head
pub head_holds_lem : (n w s : ℕ) (body : List ℕ) → 0 < n → HeadTold n w s (told_position body) (told_level body) → head_holds n s body ≡ true
unfolding head_holds
head_holds_lem n w s body z t =
    let p = told_position body in
    let l = told_level body in
    cases_eq p 0 (λ e. let k = t.none e in rw (eq-eqb p 0 e, eq-eqb l 0 k))
    (λ e.
    let h = positive p e in
    let o : owner n p l ≡ s = owner-label n p l z ∙ t.head.mine (label-above-zero p l h) in
    rw (ne_eqb p 0 e, t.some h, eq-eqb (owner n p l) s o))

-- a head is less than n labels below the greatest
head_near : (n s T t : ℕ) → s ≤ n → HeadAt n s T t → T < t + n
head_near n s T t b h = cases_eq t 0 (λ e. let y = h.none e in omega arith) (λ e. h.last (omega (arith, e)))

-- the Update after the Status of server s = its answers + 1
module _ (n v w : ℕ) (L : ℕ → Item) (u : Update) (hashes body : List ℕ) (ok : UpdateOk n v w L u hashes) (h : u.answers < n)
    (t : HeadTold n w (u.answers + 1) (told_position body) (told_level body)) where
  abbrev T : ℕ
  T = nodes_to w

  abbrev told : ℕ
  told = told_label body

  -- the label that is told is that of a head
  told-head : HeadAt n (u.answers + 1) T told
  unfolding told_label
  told-head = t.head

  -- the greatest label is one of the log
  greatest_low : max u.greatest told ≤ T
  greatest_low = let a = ok.greatest_low (omega arith) in let b = told-head.low in omega arith

  -- once the owner of the log's last label has told its head, the greatest is that label
  greatest_seen : owner_of n T ≤ suc u.answers → max u.greatest told ≡ T
  greatest_seen o =
      let a = greatest_low in
      cases_le (owner_of n T) u.answers (λ i. let b = ok.greatest_seen (omega arith) i in omega arith)
      (λ i.
      cases_eq T 0 (λ e. omega arith)
      (λ e. let b = top n (u.answers + 1) T told (positive T e) (omega arith) (omega arith) (omega arith) told-head in omega arith))

  -- then p* is the last position
  position_there : max u.greatest told ≡ T → cond (ltb u.greatest told) (told_position body) u.position ≡ w
  unfolding told_label
  position_there e =
      cases_le told u.greatest (λ i. rw (le-ltb u.greatest told i) (ok.position-is (omega arith) (omega arith)))
      (λ i.
      let some : 0 < told_position body =
      positive (told_position body) (λ z. let y : label (told_position body) (told_level body) ≡ 0 = rw z (label-zero (told_level body)) in omega arith) in
      rw (lt-ltb u.greatest told i) (position-is (told_position body) (told_level body) w some t.level (omega arith)))

  -- the least label is less than n below the last one
  least_near : T < cond (eqb u.answers 0) told (min u.least told) + n
  least_near =
      let a = head_near n (u.answers + 1) T told (omega arith) told-head in
      cases_eq u.answers 0 (λ e. rw (eq-eqb u.answers 0 e) a)
      (λ e. let b = ok.least_near (omega arith) (positive u.answers e) in rw (ne_eqb u.answers 0 e) (omega arith))

  -- what holds of an Update holds after the Status
  pub status_ok : 0 < n → UpdateOk n v w L (status_taken u body) hashes
  unfolding status_taken
  status_ok z =
      record {
        greatest_low = λ _. greatest_low;
        greatest_seen = λ _ o. greatest_seen o;
        position-is = λ _ e. position_there e;
        least_near = λ _ _. least_near;
        position_later = λ i. position_there (greatest_seen (let o = (own_range n T z).1 in omega arith));
        digest-later = λ i. absurd (omega arith);
        hashes_right = λ i. absurd (omega arith);
      }
