-- Every pull and Status of an honest run is answered rightly, and changes nothing.
use mathlib.Core.Path.{◌≡◌, refl, ap, sym, ◌∙◌, subst}
use mathlib.Core.Bool.{Bool, true, cond}
use mathlib.Core.List.{List, [], ◌++◌}
use Prim.Native.Nat.{ℕ, suc, ◌-◌, ◌≤◌, ◌<◌}
use native.Mathlib.Omega.{arith}
use lib.Dec.{eqb}
use lib.ListN.{length}
use lib.Seq.{take_all}
use borrow.Author.Tests.{eq-eqb, ne_eqb, le-leb}
use Rattle.sha256.specs.Bytes.{be}
use Rattle.tree.specs.Level.{lg, is_full}
use Rattle.tree.specs.Label.{owner}
use Rattle.tree.specs.Expr.{entry_text}
use Rattle.tree.specs.Message.{answer}
use Rattle.tree.proofs.Cases.{cases_eq}
use Rattle.tree.proofs.Levels.{lg_below}
use Rattle.tree.proofs.Pieces.{piece-whole}
use Rattle.store.specs.Shape.{level_fits, node_fits, request_body_fits}
use Rattle.store.specs.Store.{first, is_stored}
use Rattle.server.specs.Checks.{node_source, pull_source, record_found}
use Rattle.server.specs.Serve.{node_hash, record_given, body_given}
use Rattle.server.proofs.Codes.{code_status, code_pull}
use Rattle.server.proofs.Theorems.{pull_changes_nothing}
use Rattle.user.specs.declared.ask.Want.{Want}
use Rattle.user.specs.Asking.{asks}
use Rattle.user_write.specs.Write.{commit_number}
use Rattle.honest_run.specs.Network.{HonestSetup, InRange, public_to, settings_in, answer_bytes}
use Rattle.whole_run.specs.Runs.{Server, server_after}
use Rattle.honest_run.proofs.Invariant.{Item, texts, hash_of, body_of, record_of, PutKind, ServerOk, SignedOk, ItemOk, RightBody, CanAsk, serving, PullRight}
use Rattle.honest_run.proofs.Log.{hash_size, hash_of_leaf}
use Rattle.honest_run.proofs.Keys.{user-count}
use Rattle.honest_run.proofs.Served.{server-is, head_in_log, Asked, asked_fields, early-asked, held, kind_code, refused_with, answered_with}
use Rattle.honest_run.proofs.Records.{node_in_log, full_within, body-fits, record_fields}
use Rattle.honest_run.proofs.Counts.{has_old, has-not}

-- what is asked for, from its fields
want_is : (want : Want) (kind p l : ℕ) → want.kind ≡ kind → want.position ≡ p → want.level ≡ l
    → ◌≡◌ {A = Want} (record { kind = kind; server = want.server; position = p; level = l }) want
want_is want kind p l a b d = rw (← a, ← b, ← d)

module _ (c : HonestSetup) (range : InRange c) (L : ℕ → Item) (w g : ℕ)
    (within : w ≤ 1048576) (items : (i : ℕ) → i < w → ItemOk c L i × SignedOk c L i) (x : Server) (a : ℕ) (one : 1 ≤ a) (last : a ≤ c.count) where
  -- one request with an empty body
  module _ (kind s p l : ℕ) (k : kind ≤ 4) (hp : p ≤ 1048576) (hl : l ≤ lg p) (node : node_fits kind p l ≡ true)
      (own : (kind ≡ 1 → ⊥) → owner c.servers p l ≡ s) (ok : ServerOk c L w g s x) where
    abbrev want : Want
    want = record { kind = kind; server = s; position = p; level = l }

    abbrev q : List ℕ
    q = asks (settings_in c a) want []

    -- its fields as the server reads them
    fields : Asked c a kind p l [] q
    fields =
        asked_fields c range a want [] (omega arith) (let t = range.sixty_four in omega arith) (omega arith)
        (let t = lg_below p 20 (omega arith) in omega arith)

    -- where the kind's checks pass, the answer has the body that the kind gives
    pulled : (body : List ℕ) → kind_code c s x q ≡ 0 → body_given x.head (pull_source (held c s x q) q) q ≡ body → RightBody c L w g want body
        → PullRight c L w g a x want
    unfolding server_after request_body_fits
    pulled body zero-code gives right =
        let f = fields in
        let early = early-asked c (user-count c range) a kind p l s [] q f one last node (rw (le-leb kind 4 k)) own in
        let t = pull_changes_nothing (settings_in c s) x.head x.store x.used q (c.answers s) (rw f.kind-is k) in
        record {
          body = body;
          same = server-is x _ _ _ t.0 t.1.0 t.1.1;
          given = answered_with c s x q ok.ready early zero-code a kind p l [] f ∙ ap (λ (b : List ℕ). answer kind s p l 0 b) gives;
          right = right;
        }

    -- a pull is answered from the record that its source is
    from_record : (r body : List ℕ) → 2 ≤ kind → pull_source (held c s x q) q ≡ r → is_stored r ≡ true
        → cond (eqb kind 2) (node_hash r) (record_given r) ≡ body → RightBody c L w g want body → PullRight c L w g a x want
    unfolding body_given
    from_record r body two source some gives right =
        let f = fields in
        let n : kind ≡ 1 → ⊥ = λ e. omega arith in
        let zero-code : kind_code c s x q ≡ 0 =
        sym (code_pull c.log (public_to c c.count) x.head (record_found (held c s x q) q) (pull_source (held c s x q) q)
        (length x.store - x.used) q kind (sym f.kind-is) 0 n k (rw (source, some))) in
        pulled body zero-code (rw (source, f.kind-is, ne_eqb kind 1 n, le-leb kind 4 k) gives) right

    -- where nothing is stored, it is answered 8
    none-stored : 2 ≤ kind → pull_source (held c s x q) q ≡ [] → answer_bytes (serving c a s x want []) ≡ answer kind s p l 8 []
    unfolding request_body_fits is_stored
    none-stored two source =
        let f = fields in
        let early = early-asked c (user-count c range) a kind p l s [] q f one last node (rw (le-leb kind 4 k)) own in
        let eight : kind_code c s x q ≡ 8 =
        sym (code_pull c.log (public_to c c.count) x.head (record_found (held c s x q) q) (pull_source (held c s x q) q)
        (length x.store - x.used) q kind (sym f.kind-is) 8 (λ e. omega arith) k (rw source)) in
        refused_with c s x q ok.ready early a kind p l 8 [] f eight (λ e. omega arith)

    -- the record of a kind at the node that is asked for
    stored_old : (of : ℕ) → PutKind of → node_fits of p l ≡ true → (kind ≡ 1 → ⊥) → p ≤ w → first of p l (held c s x q) ≡ record_of L of p l
    stored_old of six fits n low =
        ok.stored of p l six fits (own n) ∙ ap (λ (b : Bool). cond b (record_of L of p l) []) (has_old w g of p l low)

  -- a Status tells the head
  status_right : (s : ℕ) → ServerOk c L w g s x → PullRight c L w g a x (record { kind = 1; server = s; position = 0; level = 0 })
  unfolding node_fits body_given RightBody
  status_right s ok =
      let none : (◌≡◌ {A = ℕ} 1 1 → ⊥) → owner c.servers 0 0 ≡ s = λ n. absurd (n refl) in
      let low : 0 ≤ lg 0 = omega arith in
      let f = fields 1 s 0 0 (omega arith) (omega arith) low refl none ok in
      let request = q 1 s 0 0 (omega arith) (omega arith) low refl none ok in
      let h = head_in_log (public_to c c.count) x.head ok.ready.head in
      let told : List ℕ = be 4 x.head.position ++ be 1 x.head.level in
      pulled 1 s 0 0 (omega arith) (omega arith) low refl none ok told
      (sym (code_status c.log (public_to c c.count) x.head _ _ _ request 1 (sym f.kind-is) refl))
      (rw f.kind-is) (
        λ _. record { position = x.head.position; level = x.head.level; told = refl; head = ok.head; none = h.0; some = h.1 },
        λ e. absurd (omega arith),
        λ e. absurd (omega arith),
        λ e. absurd (omega arith),
      )

  -- the Record of an open write is answered 8 until its Commit has arrived
  pub open_record : (s : ℕ) → w < 1048576 → g ≤ commit_number (suc w) → owner c.servers (suc w) (lg (suc w)) ≡ s → ServerOk c L w g s x
      → answer_bytes (serving c a s x (record { kind = 4; server = s; position = suc w; level = lg (suc w) }) []) ≡ answer 4 s (suc w) (lg (suc w)) 8 []
  unfolding node_fits level_fits pull_source
  open_record s hp few own ok =
      let p = suc w in
      let l = lg p in
      let there = node_in_log p l (omega arith) hp (omega arith) in
      let fits : node_fits 4 p l ≡ true = rw (there, eq-eqb l l refl) in
      let eight : node_fits 8 p l ≡ true = rw (there, eq-eqb l l refl) in
      let own4 : (◌≡◌ {A = ℕ} 4 1 → ⊥) → owner c.servers p l ≡ s = λ _. own in
      let f = fields 4 s p l (omega arith) hp (omega arith) fits own4 ok in
      none-stored 4 s p l (omega arith) hp (omega arith) fits own4 ok (omega arith)
      (rw (f.kind-is, f.position-is, f.level_is)
      (ok.stored 8 p l (omega arith, omega arith) eight own ∙ ap (λ (b : Bool). cond b (record_of L 8 p l) []) (has-not w g 8 l few)))

  -- a Node gives the hash
  module _ (s p l : ℕ) (low : 1 ≤ p) (high : p ≤ w) (ok : ServerOk c L w g s x) (own : owner c.servers p l ≡ s) where
    -- what was written there
    item : ItemOk c L (p - 1)
    item = (items (p - 1) (omega arith)).0

    node_right : is_full p l ≡ true → PullRight c L w g a x (record { kind = 2; server = s; position = p; level = l })
    unfolding node_fits level_fits pull_source node_source node_hash RightBody
    node_right full =
        let hp : p ≤ 1048576 = omega arith in
        let hl = full_within p l low full in
        let there = node_in_log p l low hp hl in
        let fits : node_fits 2 p l ≡ true = rw (there, full) in
        let own2 : (◌≡◌ {A = ℕ} 2 1 → ⊥) → owner c.servers p l ≡ s = λ _. own in
        let f = fields 2 s p l (omega arith) hp hl fits own2 ok in
        let right : (body : List ℕ) → body ≡ hash_of L p l → RightBody c L w g (record { kind = 2; server = s; position = p; level = l }) body =
        λ body e. (λ z. absurd (omega arith), λ _. e, λ z. absurd (omega arith), λ z. absurd (omega arith)) in
        cases_eq l 0
        (λ z.
        let six : node_fits 6 p l ≡ true = rw (there, eq-eqb l 0 z) in
        let r = record_fields c range L 6 p l (omega arith) hp hl item (body-fits c L 6 p l (omega arith) (omega arith) item (λ e. absurd (omega arith))) in
        from_record 2 s p l (omega arith) hp hl fits own2 ok (record_of L 6 p l) (hash_of L p l) (omega arith)
        (rw (f.kind-is, f.position-is, f.level_is, eq-eqb l 0 z) (stored_old 2 s p l (omega arith) hp hl fits own2 ok 6 (omega arith, omega arith) six (λ e. omega arith) high))
        r.bytes (rw (r.kind-is, r.author-is, r.body_is, z) (sym (hash_of_leaf L p))) (right (hash_of L p l) refl))
        (λ n.
        let seven : node_fits 7 p l ≡ true = rw (there, full) (le-leb 1 l (omega arith)) in
        let r = record_fields c range L 7 p l (omega arith) hp hl item (body-fits c L 7 p l (omega arith) (omega arith) item (λ e. absurd (omega arith))) in
        let kept = stored_old 2 s p l (omega arith) hp hl fits own2 ok 7 (omega arith, omega arith) seven (λ e. omega arith) high in
        let size = hash_size L p l in
        from_record 2 s p l (omega arith) hp hl fits own2 ok (record_of L 7 p l) (hash_of L p l) (omega arith)
        (rw (f.kind-is, f.position-is, f.level_is, ne_eqb l 0 n, kept, r.bytes))
        r.bytes
        (rw (r.kind-is, r.body_is) (piece-whole (hash_of L p l) 0 (omega arith) ∙ take_all 32 (hash_of L p l) (omega arith)))
        (right (hash_of L p l) refl))

    -- an Operation gives the author and the entry
    entry_right : l ≡ 0 → PullRight c L w g a x (record { kind = 3; server = s; position = p; level = l })
    unfolding node_fits level_fits pull_source record_given entry_text RightBody
    entry_right z =
        let hp : p ≤ 1048576 = omega arith in
        let hl : l ≤ lg p = omega arith in
        let there = node_in_log p l low hp hl in
        let fits : node_fits 3 p l ≡ true = rw (there, eq-eqb l 0 z) in
        let six : node_fits 6 p l ≡ true = rw (there, eq-eqb l 0 z) in
        let own3 : (◌≡◌ {A = ℕ} 3 1 → ⊥) → owner c.servers p l ≡ s = λ _. own in
        let f = fields 3 s p l (omega arith) hp hl fits own3 ok in
        let r = record_fields c range L 6 p l (omega arith) hp hl item (body-fits c L 6 p l (omega arith) (omega arith) item (λ e. absurd (omega arith))) in
        from_record 3 s p l (omega arith) hp hl fits own3 ok (record_of L 6 p l) (texts L (p - 1)) (omega arith)
        (rw (f.kind-is, f.position-is, f.level_is) (stored_old 3 s p l (omega arith) hp hl fits own3 ok 6 (omega arith, omega arith) six (λ e. omega arith) high))
        r.bytes (rw (r.author-is, r.body_is))
        (λ e. absurd (omega arith), λ e. absurd (omega arith), λ _. refl, λ e. absurd (omega arith))

    -- a Record gives the author, the digest and the signature
    commit_right : l ≡ lg p → PullRight c L w g a x (record { kind = 4; server = s; position = p; level = l })
    unfolding node_fits level_fits pull_source record_given RightBody
    commit_right z =
        let hp : p ≤ 1048576 = omega arith in
        let hl : l ≤ lg p = omega arith in
        let there = node_in_log p l low hp hl in
        let fits : node_fits 4 p l ≡ true = rw (there, eq-eqb l (lg p) z) in
        let eight : node_fits 8 p l ≡ true = rw (there, eq-eqb l (lg p) z) in
        let own4 : (◌≡◌ {A = ℕ} 4 1 → ⊥) → owner c.servers p l ≡ s = λ _. own in
        let f = fields 4 s p l (omega arith) hp hl fits own4 ok in
        let signed : SignedOk c L (p - 1) = (items (p - 1) (omega arith)).1 in
        let r = record_fields c range L 8 p l (omega arith) hp hl item (body-fits c L 8 p l (omega arith) (omega arith) item (λ _. signed)) in
        from_record 4 s p l (omega arith) hp hl fits own4 ok (record_of L 8 p l) (be 2 (L (p - 1)).author ++ body_of L 8 p l) (omega arith)
        (rw (f.kind-is, f.position-is, f.level_is) (stored_old 4 s p l (omega arith) hp hl fits own4 ok 8 (omega arith, omega arith) eight (λ e. omega arith) high))
        r.bytes (rw (r.author-is, r.body_is))
        (λ e. absurd (omega arith), λ e. absurd (omega arith), λ e. absurd (omega arith), λ _. refl)

-- What a user may ask for is answered rightly, whatever has arrived of the open write.
pub pull_right : (c : HonestSetup) → InRange c → (L : ℕ → Item) (w g : ℕ) → w ≤ 1048576
    → ((i : ℕ) → i < w → ItemOk c L i × SignedOk c L i) → (x : Server) (a : ℕ) → 1 ≤ a → a ≤ c.count
    → (want : Want) → CanAsk c w want → ServerOk c L w g want.server x → PullRight c L w g a x want
pull_right c range L w g within items x a one last want can ok =
    let low = can.first_kind in
    let high = can.last-kind in
    let put : (kind p l : ℕ) → want.kind ≡ kind → want.position ≡ p → want.level ≡ l
    → PullRight c L w g a x (record { kind = kind; server = want.server; position = p; level = l }) → PullRight c L w g a x want =
    λ kind p l ek ep el r. subst (λ (y : Want). PullRight c L w g a x y) (want_is want kind p l ek ep el) r in
    cases_eq want.kind 1
    (λ e. let t = can.status e in put 1 0 0 e t.0 t.1 (status_right c range L w g within items x a one last want.server ok))
    (λ n.
    let two : 2 ≤ want.kind = omega arith in
    let s = want.server in
    let p = want.position in
    let l = want.level in
    let lp = can.low two in
    let hp = can.high two in
    let own = sym (can.owned two) in
    cases_eq want.kind 2
    (λ e. put 2 p l e refl refl (node_right c range L w g within items x a one last s p l lp hp ok own (can.full e)))
    (λ m. cases_eq want.kind 3
    (λ e. put 3 p l e refl refl (entry_right c range L w g within items x a one last s p l lp hp ok own (can.leaf e)))
    (λ o. let e : want.kind ≡ 4 = omega arith in
    put 4 p l e refl refl (commit_right c range L w g within items x a one last s p l lp hp ok own (can.top e)))))
