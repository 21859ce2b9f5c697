-- The owner of a node of the open write: where its head stands, and what a Reserve of an honest run leaves.
use mathlib.Core.Path.{◌≡◌, refl, ap, sym, ◌∙◌, subst}
use mathlib.Core.Bool.{Bool, true, cond}
use mathlib.Core.List.{List, []}
use Prim.Native.Nat.{ℕ, suc, ◌+◌, ◌-◌, ◌≤◌, ◌<◌, max}
use native.Mathlib.Omega.{arith}
use lib.Dec.{eqb}
use lib.ListN.{length}
use lib.Seq.{take_all}
use borrow.Author.Tests.{eq-eqb, lt-ltb, le-ltb}
use Rattle.sha256.specs.Bytes.{eqs}
use Rattle.sha256.proofs.Laws.{eqs_refl}
use Rattle.tree.specs.Level.{lg}
use Rattle.tree.specs.Label.{nodes_to, label, owner}
use Rattle.tree.specs.Cover.{piece}
use Rattle.tree.specs.Message.{request_body, answer}
use Rattle.tree.proofs.Cases.{cases_le, cases_eq, by_eqb}
use Rattle.tree.proofs.Levels.{lg_below}
use Rattle.tree.proofs.Pieces.{piece-whole}
use Rattle.server.specs.declared.Head.{Head}
use Rattle.server.specs.declared.Earlier.{Earlier}
use Rattle.store.specs.Shape.{level_fits, node_fits, request_body_fits}
use Rattle.server.specs.Checks.{is_heads, reservable, record_found, pull_source}
use Rattle.server.specs.Serve.{as_earlier, body_given}
use Rattle.server.proofs.After.{head_level}
use Rattle.server.proofs.Codes.{code-reserve}
use Rattle.server.proofs.Effects.{level_other, level_higher, level_kept, earlier_kept, head-reserved, reserved_fields}
use Rattle.server.proofs.Served.{Ready, Early}
use Rattle.server.proofs.Theorems.{store_changes_only_by_puts}
use Rattle.user.specs.Asking.{asks}
use Rattle.honest_run.specs.Network.{HonestSetup, InRange, public_to, settings_in, answer_bytes}
use Rattle.whole_run.specs.Runs.{Server, server_after}
use Rattle.honest_run.proofs.Invariant.{Item, digest_of, record_of, has, reached, owner_of, EarlierOk, ServerOk, signature_at, ItemOk}
use Rattle.honest_run.proofs.Log.{digest_size}
use Rattle.honest_run.proofs.Heads.{owner-label, above-own, taken, passed, label_is, label-le, position_gt}
use Rattle.honest_run.proofs.Keys.{user-count}
use Rattle.honest_run.proofs.Served.{server-is, Asked, asked_fields, early-asked, left, held, kind_code, answered_with, left-head, ready_left}
use Rattle.honest_run.proofs.Records.{node_in_log}
use Rattle.honest_run.proofs.Counts.{has-reserves, reached_low, reached_high}
use Rattle.honest_run.proofs.Servers.{head-top, head_below}

-- a Reserve stores nothing
has-reserve : (w g kind p l : ℕ) → g ≤ lg (suc w) → has w (suc g) kind p l ≡ has w g kind p l
has-reserve w g kind p l a = has-reserves w (suc g) kind p l (omega arith) ∙ sym (has-reserves w g kind p l (omega arith))

-- a request of a kind that is shaped like a Reserve: for level j of the open write, with its digest
module _ (c : HonestSetup) (range : InRange c) (L : ℕ → Item) (w s : ℕ) (within : w < 1048576) (item : ItemOk c L w) (kind j : ℕ) (level : j ≤ lg (suc w))
    (own : owner c.servers (suc w) j ≡ s) where
  -- its bytes
  abbrev pub digest_request : List ℕ
  digest_request =
      asks (settings_in c (L w).author) (record { kind = kind; server = s; position = suc w; level = j }) (digest_of L (suc w))

  -- its fields as the server reads them
  pub digest_fields : kind < 256 → Asked c (L w).author kind (suc w) j (digest_of L (suc w)) digest_request
  digest_fields small =
      asked_fields c range (L w).author (record { kind = kind; server = s; position = suc w; level = j }) (digest_of L (suc w)) small
      (let t = item.listed in let u = range.sixty_four in omega arith) (omega arith)
      (let t = lg_below (suc w) 20 (omega arith) in omega arith)

  -- checks 1 to 3 pass
  pub digest-early : kind < 256 → node_fits kind (suc w) j ≡ true → request_body_fits (signature_at c L w) kind 32 ≡ true → Early (settings_in c s) digest_request
  digest-early small node size =
      early-asked c (user-count c range) (L w).author kind (suc w) j s (digest_of L (suc w)) digest_request (digest_fields small) item.one item.listed
      node (rw (digest_size L (suc w)) size) (λ _. own)

module _ (c : HonestSetup) (range : InRange c) (L : ℕ → Item) (w g s : ℕ) (one : 1 ≤ s) (last : s ≤ c.servers) (x : Server) (ok : ServerOk c L w g s x) where
  -- there are servers
  some-servers : 0 < c.servers
  some-servers = let t = range.two in omega arith

  -- where it has reserved level l already, the head is there or above
  pub head_here : (l : ℕ) → l ≤ lg (suc w) → l < g → owner c.servers (suc w) l ≡ s → (x.head.position ≡ suc w) × (l ≤ x.head.level)
  head_here l a b o =
      let e = label_is w l in
      let low : label (suc w) l ≤ reached w g =
      cases_le g (lg (suc w) + 1)
      (λ i. let r = reached_low w g i in omega arith)
      (λ i. let r = reached_high w g (omega arith) in let t = label-le (suc w) l (omega arith) a in omega arith) in
      let up =
      above-own c.servers s (reached w g) (label x.head.position x.head.level) (label (suc w) l) some-servers last ok.head
      (sym (owner-label c.servers (suc w) l some-servers) ∙ o) (omega arith) low in
      let far = position_gt x.head.position x.head.level w (head_level (public_to c c.count) x.head ok.ready.head) (omega arith) in
      let there : x.head.position ≡ suc w = let t = head-top c L w g s x ok in omega arith in
      let same : label x.head.position x.head.level ≡ label (suc w) x.head.level = ap (λ (p : ℕ). label p x.head.level) there in
      (there, let f = label_is w x.head.level in omega arith)

  -- and no higher than the levels that have arrived
  level_below : g ≤ lg (suc w) → x.head.position ≡ suc w → x.head.level < g
  level_below a there =
      let low = ok.head.low in
      let same : label x.head.position x.head.level ≡ label (suc w) x.head.level = ap (λ (p : ℕ). label p x.head.level) there in
      let f = label_is w x.head.level in
      let r = reached_low w g (omega arith) in
      omega arith

  -- a server that the next Reserve is not for
  pub reserve_elsewhere : g ≤ lg (suc w) → (owner c.servers (suc w) g ≡ s → ⊥) → ServerOk c L w (suc g) s x
  reserve_elsewhere a other =
      let r = reached_low w g (omega arith) in
      let e : reached w (suc g) ≡ suc (reached w g) = let q = reached_low w (suc g) (omega arith) in omega arith in
      let f : label (suc w) g ≡ suc (reached w g) = let q = label_is w g in omega arith in
      let no : owner_of c.servers (suc (reached w g)) ≡ s → ⊥ =
      λ q. other (owner-label c.servers (suc w) g some-servers ∙ ap (owner_of c.servers) f ∙ q) in
      record {
        ready = ok.ready;
        head = rw e (passed c.servers s (reached w g) (label x.head.position x.head.level) one last no ok.head);
        holds = ok.holds;
        earlier = ok.earlier;
        stored = λ kind p l k v o. ok.stored kind p l k v o ∙ ap (λ (b : Bool). cond b (record_of L kind p l) []) (sym (has-reserve w g kind p l a));
      }

  -- the Reserve of level j
  module _ (within : w < 1048576) (item : ItemOk c L w) (j : ℕ) (level : j ≤ lg (suc w))
      (own : owner c.servers (suc w) j ≡ s) where
    abbrev author : ℕ
    author = (L w).author

    abbrev reserved : List ℕ
    reserved = digest_of L (suc w)

    -- the bytes of the Reserve
    abbrev pub reserve : List ℕ
    reserve = digest_request c range L w s within item 5 j level own

    -- its fields as the server reads them
    fields : Asked c author 5 (suc w) j reserved reserve
    fields = digest_fields c range L w s within item 5 j level own (omega arith)

    -- checks 1 to 3 pass
    early : Early (settings_in c s) reserve
    unfolding node_fits level_fits request_body_fits
    early = digest-early c range L w s within item 5 j level own (omega arith) (rw (node_in_log (suc w) j (omega arith) (omega arith) level)) refl

    -- check 4 passes
    accepts : reservable x.head reserve ≡ true
    unfolding reservable is_heads
    accepts =
        let f = fields in
        cases_eq x.head.position (suc w)
        (λ there.
        let k = ok.holds w there in
        let d : eqs reserved x.head.digest ≡ true = ap (eqs reserved) k.1 ∙ eqs_refl reserved in
        rw (
          f.position-is,
          f.author-is,
          f.body_is,
          le-ltb x.head.position (suc w) (omega arith),
          eq-eqb (suc w) x.head.position (sym there),
          eq-eqb author x.head.author (sym k.0),
        ) d)
        (λ n. let t = head-top c L w g s x ok in rw (f.position-is, lt-ltb x.head.position (suc w) (omega arith)))

    -- so the code is 0
    zero-code : kind_code c s x reserve ≡ 0
    zero-code =
        let e = fields.kind-is in
        sym (code-reserve c.log (public_to c c.count) x.head (record_found (held c s x reserve) reserve) (pull_source (held c s x reserve) reserve)
        (length x.store - x.used) reserve 5 (sym e) 0 (λ z. omega arith) (omega arith) refl (rw accepts))

    -- it is answered with an empty body
    pub reserve-given : answer_bytes (left c s x reserve) ≡ answer 5 s (suc w) j 0 []
    unfolding body_given
    reserve-given = answered_with c s x reserve ok.ready early zero-code author 5 (suc w) j reserved fields ∙ rw fields.kind-is

    -- the server with this level and earlier head of the open write
    abbrev reserved_with : ℕ → Earlier → Server
    reserved_with l e =
        record {
          head = record { position = suc w; level = l; author = author; digest = reserved; earlier = e };
          store = x.store;
          used = x.used;
        }

    -- the server after it, with the head's level l and the earlier head e
    reserve-left : (l : ℕ) (e : Earlier) → l ≡ cond (eqb (suc w) x.head.position) (max x.head.level j) j
        → e ≡ cond (eqb (suc w) x.head.position) x.head.earlier (as_earlier x.head) → server_after (left c s x reserve) ≡ reserved_with l e
    unfolding server_after
    reserve-left l e el ee =
        let f = fields in
        let t = store_changes_only_by_puts (settings_in c s) x.head x.store x.used reserve (c.answers s) (λ k. omega (arith, f.kind-is)) in
        let n = digest_size L (suc w) in
        let d : reserved ≡ piece (request_body reserve) 0 =
        sym (ap (λ (b : List ℕ). piece b 0) f.body_is ∙ piece-whole reserved 0 (omega arith) ∙ take_all 32 reserved (omega arith)) in
        let h =
        head-reserved x.head reserve 0 5 (reserved_with l e).head (sym f.kind-is) refl refl
        (reserved_fields x.head reserve (suc w) l author reserved e (sym f.position-is) (rw (f.position-is, f.level_is) el) (sym f.author-is) d
        (rw f.position-is ee)) in
        server-is (reserved_with l e) _ _ _ (left-head c s x reserve ok.ready early zero-code ∙ sym h) t.0 t.1

    -- again: nothing changes
    pub reserve-again : j < g → server_after (left c s x reserve) ≡ x
    reserve-again b =
        let h = head_here j level b own in
        let k = ok.holds w h.0 in
        reserve-left x.head.level x.head.earlier (level_kept (suc w) x.head.position x.head.level j (sym h.0) h.1)
        (earlier_kept x.head (suc w) (sym h.0))
        ∙ server-is x _ _ _ (head-is x.head (suc w) author reserved (sym h.0) (sym k.0) (sym k.1)) refl refl
      where
        head-is : (y : Head) (p a : ℕ) (d : List ℕ) → p ≡ y.position → a ≡ y.author → d ≡ y.digest
            → ◌≡◌ {A = Head} (record { position = p; level = y.level; author = a; digest = d; earlier = y.earlier }) y
        head-is y p a d ep ea ed = rw (ep, ea, ed)

    -- the head before the open write
    abbrev next_earlier : Earlier
    next_earlier = cond (eqb (suc w) x.head.position) x.head.earlier (as_earlier x.head)

    -- where the head was below the open write, it is the earlier one then
    earlier_next : EarlierOk c L w s next_earlier
    unfolding as_earlier
    earlier_next =
        by_eqb (λ b. EarlierOk c L w s (cond b x.head.earlier (as_earlier x.head))) (suc w) x.head.position
        (λ e. ok.earlier (sym e))
        (λ n. record { known = refl; head = head_below c L w g s x ok (λ q. n (sym q)); holds = ok.holds })

    -- the next one: it is the head now
    pub next-left : j ≡ g → server_after (left c s x reserve) ≡ reserved_with j next_earlier
    next-left e =
        reserve-left j next_earlier
        (cases_eq x.head.position (suc w)
        (λ there. let t = level_below (omega arith) there in level_higher (suc w) x.head.position x.head.level j (sym there) (omega arith))
        (λ n. level_other (suc w) x.head.position x.head.level j (λ q. n (sym q)))) refl

    -- and what holds of the server holds with one request more
    pub reserve-next : j ≡ g → ServerOk c L w (suc g) s (server_after (left c s x reserve))
    reserve-next e =
        let y = next-left e in
        let r : reached w (suc g) ≡ suc (nodes_to w + j) = let q = reached_low w (suc g) (omega arith) in omega arith in
        let f : label (suc w) j ≡ suc (nodes_to w + j) = let q = label_is w j in omega arith in
        subst (λ (z : Server). ServerOk c L w (suc g) s z) (sym y)
        (record {
          ready = subst (λ (z : Server). Ready (settings_in c s) z.head z.store z.used) y (ready_left c s x reserve ok.ready early zero-code);
          head = rw (r, f) (taken c.servers s (nodes_to w + j) some-servers
              (sym (ap (owner_of c.servers) f) ∙ sym (owner-label c.servers (suc w) j some-servers) ∙ own));
          holds = λ p q. let e : w ≡ p = omega arith in rw e (refl, refl);
          earlier = λ _. earlier_next;
          stored = λ kind p l k v o. ok.stored kind p l k v o
              ∙ ap (λ (b : Bool). cond b (record_of L kind p l) []) (sym (has-reserve w g kind p l (omega arith)));
        })
