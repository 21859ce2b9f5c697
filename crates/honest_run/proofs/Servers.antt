-- What holds of a server while the log moves on: a write opens, is signed, and is committed.
use mathlib.Core.Path.{◌≡◌, refl, ap, ap₂, sym, ◌∙◌}
use mathlib.Core.Bool.{Bool, true, cond}
use mathlib.Core.List.{List, [], ◌++◌}
use Prim.Native.Nat.{ℕ, suc, ◌-◌, ◌≤◌, ◌<◌}
use native.Mathlib.Omega.{arith}
use Rattle.tree.specs.Label.{nodes_to, label}
use Rattle.tree.specs.Expr.{entry_text}
use Rattle.tree.specs.Message.{stored}
use Rattle.tree.proofs.Cases.{by_bool, cases_eq}
use Rattle.server.specs.declared.Earlier.{Earlier}
use Rattle.store.specs.Shape.{node_fits}
use Rattle.store.specs.Store.{records, records_in, sizes, whole, first}
use Rattle.server.specs.Checks.{server_settings_fit, place_fits, earlier_fits, head_fits}
use Rattle.server.specs.Serve.{none_earlier}
use Rattle.server.proofs.Asked.{names_node, in_log_lem}
use Rattle.server.proofs.After.{head_level}
use Rattle.user_write.specs.Write.{commit_number}
use Rattle.whole_run.specs.Runs.{NewServer, Server, new_server}
use Rattle.honest_run.specs.Network.{HonestSetup, public_to}
use Rattle.honest_run.proofs.Invariant.{Item, texts, digest_of, body_of, record_of, PutKind, has, reached, HeadAt, EarlierOk, ServerOk}
use Rattle.honest_run.proofs.Log.{same_hash, same_digest}
use Rattle.honest_run.proofs.Heads.{at_first, lowered, nodes-zero, label-zero, label-within, position-le}
use Rattle.honest_run.proofs.Records.{by_stored-kind}
use Rattle.honest_run.proofs.Counts.{has-none, by_has, reached-zero, reached_high, reached-from, reached-le, has_done}

-- a record is of a position from 1
stored-position : (kind p l : ℕ) → PutKind kind → node_fits kind p l ≡ true → 0 < p
stored-position kind p l k f = (in_log_lem p l (names_node kind p l (λ e. omega arith) f).0).0

-- The head is at the open write's position at most.
pub head-top : (c : HonestSetup) (L : ℕ → Item) (w g s : ℕ) (x : Server) → ServerOk c L w g s x → x.head.position ≤ suc w
head-top c L w g s x ok =
    let a = ok.head.low in
    let b = reached-le w g in
    position-le x.head.position x.head.level (suc w) (omega arith)

-- One that is not there is the greatest label of its own of the committed positions.
pub head_below : (c : HonestSetup) (L : ℕ → Item) (w g s : ℕ) (x : Server) → ServerOk c L w g s x → (x.head.position ≡ suc w → ⊥)
    → HeadAt c.servers s (nodes_to w) (label x.head.position x.head.level)
head_below c L w g s x ok n =
    let top = head-top c L w g s x ok in
    let level = head_level (public_to c c.count) x.head ok.ready.head in
    lowered c.servers s (reached w g) (nodes_to w) (label x.head.position x.head.level) (reached-from w g)
    (label-within x.head.position x.head.level w level (omega (arith, n))) ok.head

-- What a head holds at a position below w, where the logs are the same below w.
abbrev pub SameBelow : (ℕ → Item) → (ℕ → Item) → ℕ → Type 0
SameBelow L M w = (i : ℕ) → i < w → ((L i).author ≡ (M i).author) × ((L i).entry ≡ (M i).entry)

pub held_same : (L M : ℕ → Item) (w p : ℕ) → SameBelow L M w → p < w → ((L p).author ≡ (M p).author) × (digest_of L (suc p) ≡ digest_of M (suc p))
held_same L M w p same h = (
  (same p h).0,
  same_digest L M (suc p) (omega arith) (λ i b. let t = same i (omega arith) in ap₂ entry_text t.0 t.1),
)

earlier_same : (c : HonestSetup) (L M : ℕ → Item) (w s : ℕ) (e : Earlier) → SameBelow L M w → EarlierOk c L w s e → EarlierOk c M w s e
earlier_same c L M w s e same ok =
    let low = position-le e.position e.level w ok.head.low in
    record {
      known = ok.known;
      head = ok.head;
      holds = λ p q. let a = ok.holds p q in let b = held_same L M w p same (omega arith) in (a.0 ∙ b.0, a.1 ∙ b.1);
    }

-- Logs with the same records, as far as they are stored, and the same heads.
server_as : (c : HonestSetup) (L M : ℕ → Item) (w g s : ℕ) (x : Server)
    → SameBelow L M w
    → ((kind p l : ℕ) → PutKind kind → node_fits kind p l ≡ true → has w g kind p l ≡ true → record_of L kind p l ≡ record_of M kind p l)
    → (x.head.position ≡ suc w → ((L w).author ≡ (M w).author) × (digest_of L (suc w) ≡ digest_of M (suc w)))
    → ServerOk c L w g s x → ServerOk c M w g s x
server_as c L M w g s x old same head ok =
    record {
      ready = ok.ready;
      head = ok.head;
      holds =
          λ p e.
          let a = ok.holds p e in
          cases_eq p w
          (λ q. let b = head (e ∙ ap suc q) in (a.0 ∙ rw q b.0, a.1 ∙ rw q b.1))
          (λ n. let t = head-top c L w g s x ok in let b = held_same L M w p old (omega (arith, n)) in (a.0 ∙ b.0, a.1 ∙ b.1));
      earlier = λ e. earlier_same c L M w s x.head.earlier old (ok.earlier e);
      stored = λ kind p l k f o. ok.stored kind p l k f o
          ∙ by_bool (λ b. has w g kind p l ≡ b → cond b (record_of L kind p l) [] ≡ cond b (record_of M kind p l) []) (has w g kind p l)
          (λ _ t. same kind p l k f t) (λ _ t. refl) refl;
    }

-- the record of a node depends on the log up to its position
record_same : (L M : ℕ → Item) (kind p l : ℕ) → PutKind kind → node_fits kind p l ≡ true
    → ((i : ℕ) → i < p → ((L i).author ≡ (M i).author) × ((L i).entry ≡ (M i).entry))
    → (kind ≡ 8 → (L (p - 1)).signature ≡ (M (p - 1)).signature) → record_of L kind p l ≡ record_of M kind p l
record_same L M kind p l k f same signed =
    let z = stored-position kind p l k f in
    let a : (L (p - 1)).author ≡ (M (p - 1)).author = (same (p - 1) (omega arith)).0 in
    let b : (L (p - 1)).entry ≡ (M (p - 1)).entry = (same (p - 1) (omega arith)).1 in
    let t : (i : ℕ) → i < p → texts L i ≡ texts M i = λ i h. ap₂ entry_text (same i h).0 (same i h).1 in
    let body : body_of L kind p l ≡ body_of M kind p l =
    by_stored-kind kind p l k f
    (λ e _. rw e b)
    (λ e _ _. rw e (same_hash L M p l z t))
    (λ e _. rw e (ap₂ (λ (d s : List ℕ). d ++ s) (same_digest L M p z t) (signed e))) in
    ap₂ (λ (n : ℕ) (r : List ℕ). stored kind p l n r) a body

-- A head's position where no request of the open write has arrived.
pub head-position : (c : HonestSetup) (L : ℕ → Item) (w s : ℕ) (x : Server) → ServerOk c L w 0 s x → x.head.position ≤ w
head-position c L w s x ok =
    let a = ok.head.low in
    let e = reached-zero w in
    position-le x.head.position x.head.level w (omega arith)

-- A write opens: the place behind the committed ones gets another item.
pub server-opens : (c : HonestSetup) (L M : ℕ → Item) (w s : ℕ) (x : Server) → ((i : ℕ) → i < w → L i ≡ M i)
    → ServerOk c L w 0 s x → ServerOk c M w 0 s x
server-opens c L M w s x same ok =
    server_as c L M w 0 s x
    (λ i h. let e = same i h in (ap (λ (y : Item). y.author) e, ap (λ (y : Item). y.entry) e))
    (λ kind p l k f t. by_has w 0 kind p l t
    (λ low.
    record_same L M kind p l k f (λ i h. let e = same i (omega arith) in (ap (λ (y : Item). y.author) e, ap (λ (y : Item). y.entry) e))
    (λ _. let z = stored-position kind p l k f in ap (λ (y : Item). y.signature) (same (p - 1) (omega arith))))
    (λ e n. absurd (omega arith)))
    (λ e. let a = head-position c L w s x ok in absurd (omega arith)) ok

-- It is signed: the item's signature changes, and no Commit has arrived.
pub server_signs : (c : HonestSetup) (L M : ℕ → Item) (w g s : ℕ) (x : Server)
    → ((i : ℕ) → i ≤ w → ((L i).author ≡ (M i).author) × ((L i).entry ≡ (M i).entry))
    → ((i : ℕ) → i < w → (L i).signature ≡ (M i).signature) → g ≤ commit_number (suc w)
    → ServerOk c L w g s x → ServerOk c M w g s x
server_signs c L M w g s x same signed few ok =
    server_as c L M w g s x (λ i h. same i (omega arith))
    (λ kind p l k f t. let z = stored-position kind p l k f in
    by_has w g kind p l t
    (λ low. record_same L M kind p l k f (λ i h. same i (omega arith)) (λ _. signed (p - 1) (omega arith)))
    (λ e n.
    record_same L M kind p l k f (λ i h. same i (omega arith))
    (λ q. absurd (let h : commit_number (suc w) < g = rw (q, e) at n in omega arith))))
    (λ e. ((same w (omega arith)).0, same_digest L M (suc w) (omega arith) (λ i h. let t = same i (omega arith) in ap₂ entry_text t.0 t.1)))
    ok

-- It is committed: all its requests have arrived.
pub server_commits : (c : HonestSetup) (L : ℕ → Item) (w s : ℕ) (x : Server) → ServerOk c L w (suc (commit_number (suc w))) s x → ServerOk c L (suc w) 0 s x
unfolding commit_number
server_commits c L w s x ok =
    let e : reached w (suc (commit_number (suc w))) ≡ reached (suc w) 0 =
    reached_high w (suc (commit_number (suc w))) (omega arith) ∙ sym (reached-zero (suc w)) in
    let head : HeadAt c.servers s (reached (suc w) 0) (label x.head.position x.head.level) = rw e at ok.head in
    record {
      ready = ok.ready;
      head = head;
      holds = ok.holds;
      earlier = λ q.
          let a = head.low in
          let z = reached-zero (suc w) in
          let b = position-le x.head.position x.head.level (suc w) (omega arith) in
          absurd (omega arith);
      stored = λ kind p l k f o. ok.stored kind p l k f o
          ∙ ap (λ (b : Bool). cond b (record_of L kind p l) []) (has_done w kind p l (stored-position kind p l k f) k f);
    }

-- At first: head (0, 0), and nothing stored.
pub server-at-first : (c : HonestSetup) (L : ℕ → Item) (s : ℕ) (b : NewServer) → 1 ≤ s → server_settings_fit c.servers s (public_to c c.count) ≡ true
    → ServerOk c L 0 0 s (new_server b)
unfolding new_server head_fits place_fits earlier_fits none_earlier whole records records_in sizes first
server-at-first c L s b low fits =
    record {
      ready = record { settings = fits; head = refl; within = omega arith; records = refl };
      head = rw (reached-zero 0, nodes-zero, label-zero 0) (at_first c.servers s low);
      holds = λ p e. absurd (omega arith);
      earlier = λ e. absurd (omega arith);
      stored = λ kind p l k f o. sym (ap (λ (b : Bool). cond b (record_of L kind p l) []) (has-none 0 kind p l (stored-position kind p l k f)));
    }
