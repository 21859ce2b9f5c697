-- A put or Commit of an honest run: what its owner makes of it, first and again, and what every other server keeps.
use mathlib.Core.Path.{◌≡◌, refl, ap, sym, ◌∙◌, subst}
use mathlib.Core.Bool.{Bool, true, false, cond, ◌||◌, false≢true}
use mathlib.Core.List.{List, [], ◌++◌}
use Prim.Native.Nat.{ℕ, suc, ◌+◌, ◌-◌, ◌≤◌, ◌<◌}
use native.Mathlib.Omega.{arith}
use lib.Dec.{eqb, leb}
use lib.ListN.{length, take, drop}
use lib.Seq.{take_at, drop_at}
use borrow.Author.Tests.{eq-eqb, ne_eqb, le-leb, lt-leb, eqb-true}
use Rattle.sha256.specs.Bytes.{eqs}
use Rattle.sha256.proofs.Laws.{eqs_refl, written-length}
use Rattle.lms.specs.Types.{LMOTS_SHA256_N32_W4, LMS_SHA256_M32_H10}
use Rattle.lms.specs.Check.{check_of, is_valid}
use Rattle.tree.specs.Level.{lg}
use Rattle.tree.specs.Label.{label, owner}
use Rattle.tree.specs.Message.{request_kind, request_body, stored, record_kind, record_position, record_level, signed_text, answer}
use Rattle.tree.specs.Setup.{first_code}
use Rattle.user_list.specs.Users.{user_key}
use Rattle.tree.proofs.Cases.{by_bool, and-true}
use Rattle.tree.proofs.Levels.{lg_below}
use Rattle.server.specs.declared.Head.{Head}
use Rattle.store.specs.Shape.{is_stored_kind, node_fits, request_body_fits}
use Rattle.store.specs.Store.{first, is_for, is_stored}
use Rattle.server.specs.Checks.{holds_head, commit_holds, record_found, no_other, room_left, pull_source}
use Rattle.store.specs.Store.{record_asked}
use Rattle.server.specs.Serve.{appends, store_after, used_after, body_given}
use Rattle.server.proofs.Asked.{names_node, in_log_lem}
use Rattle.server.proofs.Codes.{put_code}
use Rattle.server.proofs.Served.{Early}
use Rattle.server.proofs.Theorems.{head-stays}
use Rattle.server.proofs.After.{records_of, first-after_put}
use Rattle.user.specs.Asking.{asks}
use Rattle.honest_run.specs.Network.{HonestSetup, InRange, public_to, settings_in, answer_bytes}
use Rattle.whole_run.specs.Runs.{Server, server_after}
use Rattle.honest_run.proofs.Invariant.{Item, digest_of, body_of, record_of, PutKind, number_of, has, reached, HeadAt, EarlierOk, ServerOk, signature_at, SignedOk, ItemOk}
use Rattle.honest_run.proofs.Log.{digest_size}
use Rattle.honest_run.proofs.Keys.{user-count}
use Rattle.honest_run.proofs.Served.{server-is, Asked, asked_fields, early-asked, left, held, kind_code, accepted, answered_with, left-head, left-store, left-used, ready_left}
use Rattle.honest_run.proofs.Records.{by_stored-kind, body-fits, Held, record_fields}
use Rattle.honest_run.proofs.Counts.{has-now, has-not, has-step, reached_high, number_low, number-one}
use Rattle.honest_run.proofs.Reserves.{head_here}

-- all labels are reserved before the first record
reached_same : (w g : ℕ) → lg (suc w) < g → reached w (suc g) ≡ reached w g
reached_same w g a = reached_high w (suc g) (omega arith) ∙ sym (reached_high w g a)

-- request g is the one that brings the record of a kind at level l: every other record is as before it
stored_other : (c : HonestSetup) (L : ℕ → Item) (w g s : ℕ) (x : Server) → ServerOk c L w g s x → (kind l : ℕ) → PutKind kind
    → node_fits kind (suc w) l ≡ true → number_of kind (suc w) l ≡ g → (of p i : ℕ) → PutKind of → node_fits of p i ≡ true → owner c.servers p i ≡ s
    → (p ≡ suc w → of ≡ kind → i ≡ l → ⊥)
    → first of p i (records_of (settings_in c s) x.store x.used) ≡ cond (has w (suc g) of p i) (record_of L of p i) []
stored_other c L w g s x ok kind l k f number of p i o v own other =
    ok.stored of p i o v own
    ∙ ap (λ (b : Bool). cond b (record_of L of p i) [])
    (sym (has-step w g of p i (λ e n.
    let v' : node_fits of (suc w) i ≡ true = rw e at v in
    let n' : number_of of (suc w) i ≡ g = rw e at n in
    let same = number-one of kind (suc w) i l (omega arith) o k v' f (n' ∙ sym number) in
    other e same.0 same.1)))

-- a server that the next record is not for
pub put_elsewhere : (c : HonestSetup) (L : ℕ → Item) (w g s : ℕ) (x : Server) → ServerOk c L w g s x → (kind l : ℕ) → PutKind kind
    → node_fits kind (suc w) l ≡ true → number_of kind (suc w) l ≡ g → (owner c.servers (suc w) l ≡ s → ⊥) → ServerOk c L w (suc g) s x
put_elsewhere c L w g s x ok kind l k f number other =
    record {
      ready = ok.ready;
      head = let t = number_low kind (suc w) l in rw (reached_same w g (omega arith)) ok.head;
      holds = ok.holds;
      earlier = ok.earlier;
      stored =
          λ of p i o v own.
          stored_other c L w g s x ok kind l k f number of p i o v own
          (λ e _ q. other (ap (owner c.servers (suc w)) (sym q) ∙ rw e at own));
    }

module _ (c : HonestSetup) (range : InRange c) (L : ℕ → Item) (w g s : ℕ) (one : 1 ≤ s) (last : s ≤ c.servers) (x : Server) (ok : ServerOk c L w g s x)
    (within : w < 1048576) (item : ItemOk c L w)
    (kind l : ℕ) (put : PutKind kind) (node : node_fits kind (suc w) l ≡ true) (own : owner c.servers (suc w) l ≡ s)
    (signed : kind ≡ 8 → SignedOk c L w) (come : number_of kind (suc w) l ≤ g) where
  abbrev author : ℕ
  author = (L w).author

  abbrev body : List ℕ
  body = body_of L kind (suc w) l

  abbrev asked : List ℕ
  asked = record_of L kind (suc w) l

  -- the request
  abbrev pub request : List ℕ
  request = asks (settings_in c author) (record { kind = kind; server = s; position = suc w; level = l }) body

  -- position w + 1 is at place w
  place : suc w - 1 ≡ w
  place = omega arith

  -- the level is one of the position
  level : l ≤ lg (suc w)
  level = (in_log_lem (suc w) l (names_node kind (suc w) l (λ e. omega arith) node).0).1.1

  -- the body has its kind's size
  sized : request_body_fits (signature_at c L (suc w - 1)) kind (length body) ≡ true
  sized = body-fits c L kind (suc w) l put.0 put.1 (rw place item) (λ e. rw place (signed e))

  size : request_body_fits (signature_at c L w) kind (length body) ≡ true
  size = subst (λ i. request_body_fits (signature_at c L i) kind (length body) ≡ true) place sized

  -- the fields of the request as the server reads them
  fields : Asked c author kind (suc w) l body request
  fields =
      asked_fields c range author (record { kind = kind; server = s; position = suc w; level = l }) body (omega arith)
      (let t = item.listed in let u = range.sixty_four in omega arith) (omega arith)
      (let t = lg_below (suc w) 20 (omega arith) in let u = level in omega arith)

  -- and those of its record
  reads : Held L kind (suc w) l
  reads = record_fields c range L kind (suc w) l put.1 (omega arith) level (rw place item) sized

  -- the record that it asks for is the log's
  record_asked_lem : record_asked request ≡ asked
  unfolding record_asked
  record_asked_lem =
      let f = fields in
      rw (f.kind-is, f.position-is, f.level_is, f.author-is, f.body_is) (ap (λ (i : ℕ). stored kind (suc w) l (L i).author body) (sym place))

  -- checks 1 to 3 pass
  early : Early (settings_in c s) request
  early = early-asked c (user-count c range) author kind (suc w) l s body request fields item.one item.listed node size (λ _. own)

  -- check 5 passes: the head is at this position,
  there : (x.head.position ≡ suc w) × (l ≤ x.head.level)
  there = let t = number_low kind (suc w) l in let u = level in head_here c range L w g s one last x ok l level (omega arith) own

  -- with this author,
  holds_head_lem : holds_head x.head request ≡ true
  unfolding holds_head
  holds_head_lem =
      let k = ok.holds w there.0 in
      rw (fields.position-is, fields.author-is, eq-eqb (suc w) x.head.position (sym there.0)) (eq-eqb author x.head.author (sym k.0))

  -- and 7: a Commit has its digest, and the signature holds
  commit_body : kind ≡ 8 → request_body request ≡ digest_of L (suc w) ++ (L w).signature
  commit_body e =
      fields.body_is ∙ ap (λ (n : ℕ). body_of L n (suc w) l) e ∙ ap (λ (i : ℕ). digest_of L (suc w) ++ (L i).signature) place

  -- the digest is the reserved one, and the author's key accepts the signature
  commit_holds_lem : kind ≡ 8 → commit_holds c.log (public_to c c.count) x.head request ≡ true
  unfolding commit_holds
  commit_holds_lem e =
      let d = (ok.holds w there.0).1 in
      let n = digest_size L (suc w) in
      let front : take 32 (request_body request) ≡ digest_of L (suc w) = ap (take 32) (commit_body e) ∙ take_at (digest_of L (suc w)) (L w).signature 32 n in
      let back : drop 32 (request_body request) ≡ (L w).signature = ap (drop 32) (commit_body e) ∙ drop_at (digest_of L (suc w)) (L w).signature 32 n in
      let same : eqs (digest_of L (suc w)) x.head.digest ≡ true = ap (eqs (digest_of L (suc w))) d ∙ eqs_refl (digest_of L (suc w)) in
      rw (front, back, same, fields.position-is, fields.author-is)
      (ap (λ (y : List ℕ). is_valid (check_of LMOTS_SHA256_N32_W4 LMS_SHA256_M32_H10 (user_key (public_to c c.count) author)
      (signed_text c.log (suc w) y) (L w).signature)) d ∙ (signed e).valid)

  -- a put has no signature
  is_signed : (leb (request_kind request) 7 || commit_holds c.log (public_to c c.count) x.head request) ≡ true
  is_signed =
      by_stored-kind kind (suc w) l put node
      (λ e _. rw (fields.kind-is, e))
      (λ e _ _. rw (fields.kind-is, e))
      (λ e _. rw (fields.kind-is, commit_holds_lem e) (by_bool (λ b. (b || true) ≡ true) (leb kind 7) (λ _. refl) (λ _. refl)))

  -- the record that is kept for the node
  kept : record_found (held c s x request) request ≡ cond (has w g kind (suc w) l) asked []
  unfolding record_found
  kept = rw (fields.kind-is, fields.position-is, fields.level_is) (ok.stored kind (suc w) l put node own)

  -- where 6 and 9 pass, all checks do
  keeping : no_other (record_found (held c s x request) request) request ≡ true
      → room_left (record_found (held c s x request) request) (length x.store - x.used) request ≡ true → kind_code c s x request ≡ 0
  unfolding first_code
  keeping same room =
      put_code c.log (public_to c c.count) x.head (record_found (held c s x request) request) (pull_source (held c s x request) request)
      (length x.store - x.used) request (rw fields.kind-is put)
      ∙ rw (holds_head_lem, is_signed, same, room)

  -- it is answered with an empty body
  given : kind_code c s x request ≡ 0 → answer_bytes (left c s x request) ≡ answer kind s (suc w) l 0 []
  unfolding body_given
  given z =
      answered_with c s x request ok.ready early z author kind (suc w) l body fields
      ∙ rw (fields.kind-is, ne_eqb kind 1 (λ e. omega arith), ne_eqb kind 2 (λ e. omega arith), lt-leb kind 4 (omega arith))

  -- the head stays
  head-kept : kind_code c s x request ≡ 0 → (left c s x request).out.head ≡ x.head
  head-kept z =
      left-head c s x request ok.ready early z
      ∙ head-stays x.head request 0 (λ _ e. let t = fields.kind-is in omega arith) (λ _ e. let t = fields.kind-is in omega arith)

  -- again: the record is the one asked for, and nothing changes
  module _ (before : number_of kind (suc w) l < g) where
    -- what is kept is the record asked for
    kept_same : record_found (held c s x request) request ≡ asked
    kept_same = kept ∙ ap (λ (b : Bool). cond b asked []) (has-now w g kind l before)

    -- so 6 and 9 pass
    again-zero : kind_code c s x request ≡ 0
    unfolding no_other room_left
    again-zero = keeping (rw (kept_same, reads.bytes, record_asked_lem) (eqs_refl asked)) (rw (kept_same, reads.bytes))

    -- nothing is added
    adds_none : appends (record_found (held c s x request) request) request 0 ≡ false
    unfolding appends is_stored_kind
    adds_none = rw (kept_same, reads.bytes, fields.kind-is, le-leb 6 kind put.0, le-leb kind 8 put.1)

    -- the server stays as it is
    pub put_again : server_after (left c s x request) ≡ x
    unfolding server_after store_after used_after
    put_again =
        server-is x _ _ _ (head-kept again-zero)
        (left-store c s x request ok.ready early again-zero ∙ rw adds_none)
        (left-used c s x request ok.ready early again-zero ∙ rw adds_none)

    -- and answers with code 0
    pub put_again-given : answer_bytes (left c s x request) ≡ answer kind s (suc w) l 0 []
    put_again-given = given again-zero

  -- the next one: the record is added, for which there is room
  module _ (now : number_of kind (suc w) l ≡ g) (room : x.used + (12 + length body) ≤ length x.store) where
    -- nothing is kept
    kept-none : record_found (held c s x request) request ≡ []
    kept-none = kept ∙ ap (λ (b : Bool). cond b asked []) (has-not w g kind l (omega arith))

    -- so 6 passes, and 9 by the room
    next-zero : kind_code c s x request ≡ 0
    unfolding no_other room_left is_stored
    next-zero =
        keeping (rw kept-none) (rw (kept-none, fields.body_is) (le-leb (12 + length body) (length x.store - x.used) (omega arith)))

    -- the record is added
    adds_one : appends (record_found (held c s x request) request) request 0 ≡ true
    unfolding appends is_stored_kind is_stored
    adds_one = rw (kept-none, fields.kind-is, le-leb 6 kind put.0, le-leb kind 8 put.1)

    -- the server answers with code 0
    pub put_next-given : answer_bytes (left c s x request) ≡ answer kind s (suc w) l 0 []
    put_next-given = given next-zero

    -- the used length grows by the record
    pub put_next-used : (server_after (left c s x request)).used ≡ x.used + (12 + length body)
    unfolding server_after used_after
    put_next-used = left-used c s x request ok.ready early next-zero ∙ rw (adds_one, fields.body_is)

    -- the store keeps its length
    pub put_next-length : length (server_after (left c s x request)).store ≡ length x.store
    unfolding server_after store_after
    put_next-length =
        ap length (left-store c s x request ok.ready early next-zero) ∙ rw adds_one (written-length x.store x.used (record_asked request))

    -- the first record of each kind and node
    first-now : (of p i : ℕ) → first of p i (records_of (settings_in c s) (left c s x request).store (left c s x request).out.used)
        ≡ cond (is_for of p i asked) asked (first of p i (held c s x request))
    first-now of p i =
        rw record_asked_lem at (first-after_put (settings_in c s) x.head x.store x.used request (c.answers s)
        (accepted c s x request ok.ready early next-zero) (rw fields.kind-is put) of p i)

    -- the record asked for is for its own kind and node
    for_own : is_for kind (suc w) l asked ≡ true
    unfolding is_for
    for_own = rw (eq-eqb _ _ reads.kind-is, eq-eqb _ _ reads.position-is, eq-eqb _ _ reads.level_is)

    -- and for no other
    for_only : (of p i : ℕ) → is_for of p i asked ≡ true → (of ≡ kind) × (p ≡ suc w) × (i ≡ l)
    unfolding is_for
    for_only of p i t =
        let a = and-true (eqb (record_kind asked) of) _ t in
        let b = and-true (eqb (record_position asked) p) _ a.1 in (
          sym (eqb-true (record_kind asked) of a.0) ∙ reads.kind-is,
          sym (eqb-true (record_position asked) p b.0) ∙ reads.position-is,
          sym (eqb-true (record_level asked) i b.1) ∙ reads.level_is,
        )

    -- so each record stored is the log's, with one request more
    stored-now : (of p i : ℕ) → PutKind of → node_fits of p i ≡ true → owner c.servers p i ≡ s
        → cond (is_for of p i asked) asked (first of p i (held c s x request)) ≡ cond (has w (suc g) of p i) (record_of L of p i) []
    stored-now of p i o v mine =
        by_bool (λ b. is_for of p i asked ≡ b → cond b asked (first of p i (held c s x request)) ≡ cond (has w (suc g) of p i) (record_of L of p i) [])
        (is_for of p i asked)
        (λ _ t. let e = for_only of p i t in rw (e.0, e.1, e.2, has-now w (suc g) kind l (omega arith)))
        (λ _ t. stored_other c L w g s x ok kind l put node now of p i o v mine (λ e k q. false≢true (sym t ∙ rw (e, k, q) for_own)))
        refl

    -- and what holds of the server holds with one request more
    pub put_next : ServerOk c L w (suc g) s (server_after (left c s x request))
    unfolding server_after
    put_next =
        let h = sym (head-kept next-zero) in
        let low = number_low kind (suc w) l in
        record {
          ready = ready_left c s x request ok.ready early next-zero;
          head = rw (reached_same w g (omega arith))
              (subst (λ (y : Head). HeadAt c.servers s (reached w g) (label y.position y.level)) h ok.head);
          holds =
              subst (λ (y : Head). (p : ℕ) → y.position ≡ suc p → (y.author ≡ (L p).author) × (y.digest ≡ digest_of L (suc p))) h ok.holds;
          earlier = subst (λ (y : Head). y.position ≡ suc w → EarlierOk c L w s y.earlier) h ok.earlier;
          stored = λ of p i o v mine. first-now of p i ∙ stored-now of p i o v mine;
        }
