-- The records that a log stands for: their sizes, and their fields as they are read back.
use mathlib.Core.Path.{◌≡◌, ap, sym, ◌∙◌}
use mathlib.Core.Bool.{true}
use mathlib.Core.List.{List, [], ◌++◌, append-nil}
use Prim.Native.Nat.{ℕ, ◌+◌, ◌-◌, ◌^◌, ◌≤◌, ◌<◌}
use native.Mathlib.Omega.{arith}
use lib.ListN.{length, length-append}
use borrow.Author.Tests.{eq-eqb, le-leb, lt-ltb, leb-true, eqb-true}
use Rattle.tree.specs.Level.{lg, is_full}
use Rattle.tree.specs.Message.{stored, record_kind, record_position, record_level, record_author, record_body}
use Rattle.tree.specs.Setup.{in_log}
use Rattle.tree.proofs.Cases.{cases_eq, and-true}
use Rattle.tree.proofs.Levels.{lg_below, lg_mono, lg_power, full_low}
use Rattle.tree.proofs.Messages.{record_kind_lem, record_position_lem, record_level_lem, record_author_lem, record_body_lem, stored-length}
use Rattle.user_list.proofs.Lists.{signature-most}
use Rattle.store.specs.Shape.{level_fits, node_fits, request_body_fits}
use Rattle.store.specs.Store.{is_stored}
use Rattle.server.proofs.Asked.{body-small, names_node}
use Rattle.honest_run.specs.Network.{HonestSetup, InRange, public_to}
use Rattle.honest_run.proofs.Invariant.{Item, digest_of, body_of, record_of, PutKind, signature_at, SignedOk, ItemOk}
use Rattle.honest_run.proofs.Log.{hash_size, digest_size}

-- a node of the log
pub node_in_log : (p l : ℕ) → 1 ≤ p → p ≤ 1048576 → l ≤ lg p → in_log p l ≡ true
unfolding in_log
node_in_log p l a b d = rw (le-leb 1 p a, le-leb p 1048576 b) (le-leb l (lg p) d)

-- a full node is one of its path
pub full_within : (p l : ℕ) → 0 < p → is_full p l ≡ true → l ≤ lg p
full_within p l z f = let x = lg_mono (2 ^ l) p (full_low p l z f) in let e = lg_power l in omega arith

-- the kinds that are stored
pub by_stored-kind : {C : Type 0} (kind p l : ℕ) → PutKind kind → node_fits kind p l ≡ true
    → (kind ≡ 6 → l ≡ 0 → C) → (kind ≡ 7 → is_full p l ≡ true → 1 ≤ l → C) → (kind ≡ 8 → l ≡ lg p → C) → C
unfolding level_fits
by_stored-kind kind p l k e six seven eight =
    let f = (names_node kind p l (λ z. omega arith) e).1 in
    cases_eq kind 6
    (λ z. six z (eqb-true l 0 (rw z at f)))
    (λ n. cases_eq kind 7
    (λ z. let a = and-true (is_full p l) _ (rw z at f) in seven z a.0 (leb-true 1 l a.1))
    (λ m. let z : kind ≡ 8 = omega arith in eight z (eqb-true l (lg p) (rw z at f))))

-- the record of a kind, with the size that its kind has
pub body-fits : (c : HonestSetup) (L : ℕ → Item) (kind p l : ℕ) → 6 ≤ kind → kind ≤ 8 → ItemOk c L (p - 1) → (kind ≡ 8 → SignedOk c L (p - 1))
    → request_body_fits (signature_at c L (p - 1)) kind (length (body_of L kind p l)) ≡ true
unfolding request_body_fits
body-fits c L kind p l low high item signed =
    cases_eq kind 6
    (λ e. rw (e, le-leb 1 (length (L (p - 1)).entry) item.some) (le-leb (length (L (p - 1)).entry) 1024 item.short))
    (λ n. cases_eq kind 7
    (λ e. rw (e, hash_size L p l))
    (λ m.
    let e : kind ≡ 8 = omega arith in
    let z : length (digest_of L p ++ (L (p - 1)).signature) ≡ 32 + signature_at c L (p - 1) =
    length-append (digest_of L p) (L (p - 1)).signature ∙ omega (arith, digest_size L p, (signed e).size) in
    rw e (eq-eqb _ _ z)))

-- a record of the log, as it is read
pub record Held (L : ℕ → Item) (kind p l : ℕ) : Type 0 where
  pub kind-is : record_kind (record_of L kind p l) ≡ kind
  pub position-is : record_position (record_of L kind p l) ≡ p
  pub level_is : record_level (record_of L kind p l) ≡ l
  pub author-is : record_author (record_of L kind p l) ≡ (L (p - 1)).author
  pub body_is : record_body (record_of L kind p l) ≡ body_of L kind p l
  pub bytes : is_stored (record_of L kind p l) ≡ true

-- each field is within its bytes, so it is read as it was written
pub record_fields : (c : HonestSetup) → InRange c → (L : ℕ → Item) (kind p l : ℕ) → kind ≤ 8 → p ≤ 1048576 → l ≤ lg p → ItemOk c L (p - 1)
    → request_body_fits (signature_at c L (p - 1)) kind (length (body_of L kind p l)) ≡ true → Held L kind p l
unfolding is_stored
record_fields c range L kind p l k high level item size =
    let a = (L (p - 1)).author in
    let b : List ℕ = body_of L kind p l in
    let r : List ℕ = stored kind p l a b in
    let laid : r ≡ r ++ [] = sym (append-nil r) in
    let hk : kind < 256 = omega arith in
    let hp : p < 4294967296 = omega arith in
    let hl : l < 256 = let t = lg_below p 20 (omega arith) in omega arith in
    let ha : a < 65536 = let t = item.listed in let u = range.sixty_four in omega arith in
    let hb : length b < 65536 = let t = body-small _ kind (length b) (signature-most (public_to c c.count) a) size in omega arith in
    record {
      kind-is = ap (λ (x : List ℕ). record_kind x) laid ∙ record_kind_lem kind p l a b [] hk hp hl ha hb;
      position-is = ap (λ (x : List ℕ). record_position x) laid ∙ record_position_lem kind p l a b [] hk hp hl ha hb;
      level_is = ap (λ (x : List ℕ). record_level x) laid ∙ record_level_lem kind p l a b [] hk hp hl ha hb;
      author-is = ap (λ (x : List ℕ). record_author x) laid ∙ record_author_lem kind p l a b [] hk hp hl ha hb;
      body_is = ap (λ (x : List ℕ). record_body x) laid ∙ record_body_lem kind p l a b [] hk hp hl ha hb;
      bytes = lt-ltb 0 (length r) (let t = stored-length kind p l a b in omega arith);
    }
