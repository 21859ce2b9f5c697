-- A Read in an honest run: what it asks for, that each answer passes every check, and that it ends with what was written.
use mathlib.Core.Path.{◌≡◌, refl, sym, ap, ◌∙◌, subst}
use mathlib.Core.Bool.{true, cond}
use mathlib.Core.List.{List, [], ◌++◌, append-nil, append_assoc}
use Prim.Native.Nat.{ℕ, suc, ◌+◌, ◌-◌, ◌*◌, ◌≤◌, ◌<◌}
use native.Mathlib.Omega.{arith}
use lib.ListN.{length, take, get_or}
use borrow.Author.Tests.{eq-eqb, ne_eqb, le-leb, lt-leb, lt-ltb}
use Rattle.sha256.proofs.Laws.{eqs_refl}
use Rattle.tree.specs.Bytes.{eqs, written}
use Rattle.tree.specs.Expr.{leaf, value}
use Rattle.tree.specs.Tree.{leaves, digest}
use Rattle.tree.specs.Cover.{at, piece}
use Rattle.tree.specs.Read.{read_nodes, read_digest}
use Rattle.tree.specs.Message.{answer_code, answer_body}
use Rattle.tree.specs.Setup.{Check, first_code, Settings}
use Rattle.tree.proofs.ByteLaws.{written-length}
use Rattle.tree.proofs.Cases.{by_eqb, cases_eq, positive}
use Rattle.user_list.proofs.Lists.{GroupInRange}
use Rattle.tree.proofs.HonestRead.{TrueReads, true-read-gives-digest}
use Rattle.user_list.specs.Users.{least_request}
use Rattle.user.specs.declared.call.Kept.{Kept}
use Rattle.user.specs.Asking.{user_settings_fit, kept_fits, user_fits, user_setup_checks, request_room, of_node, is_answer}
use Rattle.user.specs.Outcome.{State, Lent, with_hashes, with_held}
use Rattle.user_read.specs.declared.call.Read.{Read}
use Rattle.user_read.specs.Read.{read_count, read_want, read_checks, read_at, read_asks, read_ends, read_next}
use Rattle.user_read.specs.Read.{read_held, read_hashes, held_text, text_author, text_entry, text_leaf, read_over}
use Rattle.user_read.specs.Read.{read_early, read_collected, read_started, read_taken}
use Rattle.user_read.proofs.ReadRules.{handed}
use Rattle.user_read.proofs.Texts.{author_of_text, entry_of_text}
use Rattle.user_read.proofs.Reading.{want_operation, want-node}
use Rattle.honest_run.specs.Claim.{ValidMemory}
use Rattle.honest_run.specs.Network.{HonestSetup, public_to, settings_in}
use Rattle.honest_run.proofs.Invariant.{Item, texts, hash_of, ItemOk, RightBody, CanAsk, ReadOk}
use Rattle.honest_run.proofs.Log.{hash_size}
use Rattle.honest_run.proofs.Nodes.{FullNode, read-node, read-at-most_39, piece-written, piece-before}
use Rattle.honest_run.proofs.Answers.{Fit, answer-passes, group_of, answer_to, node-asks, text-size, right-code, right-body, right-shape}

-- a Read that has taken in no answer
pub fresh-read : (v i : ℕ) (L : ℕ → Item) (hashes held : List ℕ) → ReadOk v i L (read_at i 0) hashes held
fresh-read v i L hashes held =
    record { position = refl; text = λ h. absurd (omega arith); hashes_right = λ j h. absurd (omega arith) }

-- 22, 21 and 24 pass, and what is checked after them decides
checks_pass : (s : Settings) (k : Kept) (i : ℕ) (m : Lent) (cs : List Check) → user_settings_fit s ≡ true → kept_fits s k ≡ true → 1 ≤ i → i ≤ k.version
    → least_request ≤ length m.request → 1024 ≤ length m.entry → first_code (read_checks s k i m ++ cs) ≡ first_code cs
unfolding read_checks user_setup_checks user_fits request_room first_code
checks_pass s k i m cs settings-fit kept-fit one iv room entry-room =
    rw (
      settings-fit,
      kept-fit,
      le-leb least_request (length m.request) room,
      le-leb 1024 (length m.entry) entry-room,
      le-leb 1 i one,
      le-leb i k.version iv,
    )

-- a Read starts with the Operation
pub read-starts : (c : HonestSetup) (L : ℕ → Item) (w a i : ℕ) (σ : State) (m : Lent) → Fit c L w a σ.kept → 1 ≤ i → i ≤ σ.kept.version
    → least_request ≤ length m.request → 1024 ≤ length m.entry → read_started (settings_in c a) σ m i ≡ read_asks (settings_in c a) σ m (read_at i 0)
unfolding read_started first_code
read-starts c L w a i σ m fit one iv room entry-room =
    let e : first_code (read_checks (settings_in c a) σ.kept i m) ≡ 0 =
    rw append-nil at (checks_pass (settings_in c a) σ.kept i m [] fit.settings-fit fit.kept-fit one iv room entry-room) in
    rw e

-- the node that a Read asks for after the Operation
node-place : (i v : ℕ) (r : Read) → r.answers < read_count i v → 0 < r.answers → r.answers - 1 < length (read_nodes i v)
unfolding read_count
node-place i v r h z = omega arith

-- what a Read asks for may be asked
pub read-asks : (c : HonestSetup) (v w i : ℕ) (L : ℕ → Item) (r : Read) (hashes held : List ℕ) → ReadOk v i L r hashes held → 1 ≤ i → i ≤ v → v ≤ w
    → r.answers < read_count i v → CanAsk c w (read_want c.servers v r)
read-asks c v w i L r hashes held ok one iv vw h =
    let n = c.servers in
    let p = ok.position in
    cases_eq r.answers 0
    (λ e.
    subst (CanAsk c w) (sym (want_operation n v r e))
    (node-asks c w 3 r.position 0 (omega arith) (omega arith) (omega arith) (omega arith) (λ k. absurd (omega arith)) (λ k. refl) (λ k. absurd (omega arith))))
    (λ e.
    let m = get_or (read_nodes r.position v) (r.answers - 1) (at 0 0) in
    let f : FullNode v m = rw p (read-node i v (r.answers - 1) one iv (node-place i v r h (positive r.answers e))) in
    let high = f.high in
    subst (CanAsk c w) (sym (want-node n v r m e refl))
    (node-asks c w 2 m.position m.level (omega arith) (omega arith) f.low (omega arith) (λ k. f.full) (λ k. absurd (omega arith)) (λ k. absurd (omega arith))))

-- the memory once the body of an answer is collected
abbrev pub collected_by : Read → Lent → List ℕ → Lent
collected_by r m body = with_held (with_hashes m (read_hashes r body m.hashes)) (read_held r body m.held)

-- it is valid still: hashes and what is held keep their lengths
pub memory-collected : (r : Read) (m : Lent) (body : List ℕ) → ValidMemory m → ValidMemory (collected_by r m body)
unfolding read_hashes read_held
memory-collected r m body ok =
    record {
      hashes =
          by_eqb (λ b. length (cond b m.hashes (written m.hashes (32 * r.answers) body)) ≡ 1248) r.answers 0
          (λ _. ok.hashes) (λ _. written-length m.hashes (32 * r.answers) body ∙ ok.hashes);
      held =
          by_eqb (λ b. length (cond b (written m.held 0 body) m.held) ≡ 1026) r.answers 0
          (λ _. written-length m.held 0 body ∙ ok.held) (λ _. ok.held);
      request = ok.request;
    }

-- an answer that passes 22, 21, 24, 10 and 11 is collected
module _ (s : Settings) (σ : State) (m : Lent) (r : Read) (a body : List ℕ) (settings-fit : user_settings_fit s ≡ true)
    (kept-fit : kept_fits s σ.kept ≡ true) (room : least_request ≤ length m.request) (entry-room : 1024 ≤ length m.entry)
    (some : 1 ≤ r.position) (low : r.position ≤ σ.kept.version) (waits : r.answers < read_count r.position σ.kept.version)
    (shape : is_answer s.users (read_want s.servers σ.kept.version r) a ≡ true) (code : answer_code a ≡ 0) (is : answer_body a ≡ body) where
  -- what is checked after 11 decides
  early-passed : (cs : List Check) → first_code (read_early s σ.kept r m a ++ cs) ≡ first_code cs
  unfolding read_early
  early-passed cs =
      rw append_assoc (checks_pass s σ.kept r.position m _ settings-fit kept-fit some low room entry-room
      ∙ answer-passes _ _ _ a cs (lt-ltb r.answers (read_count r.position σ.kept.version) waits) shape code)

  abbrev next : Read
  next = read_next r body

  -- where nodes are left the Read asks for the next one
  taken-asks : suc r.answers < read_count r.position σ.kept.version → read_taken s σ m r a ≡ read_asks s σ (collected_by r m body) next
  unfolding read_taken read_collected read_next first_code
  taken-asks h = rw (is, early-passed, lt-leb (read_count r.position σ.kept.version) (suc r.answers) h)

  -- where none is left and 23 passes it ends
  taken-ends : suc r.answers ≡ read_count r.position σ.kept.version
      → eqs (value (read_over σ.kept.version next (collected_by r m body).hashes (collected_by r m body).held)) σ.kept.digest ≡ true
      → read_taken s σ m r a ≡ read_ends σ (collected_by r m body) next
  unfolding read_taken read_collected read_next first_code
  taken-ends h g = rw (is, early-passed, le-leb (read_count r.position σ.kept.version) (suc r.answers) (omega arith), g)

module _ (c : HonestSetup) (L : ℕ → Item) (w g a i : ℕ) (σ : State) (m : Lent) (r : Read) (body : List ℕ) (fit : Fit c L w a σ.kept)
    (one : 1 ≤ i) (iv : i ≤ σ.kept.version) (ok : ReadOk σ.kept.version i L r m.hashes m.held) (memory : ValidMemory m)
    (entry-room : 1024 ≤ length m.entry) (waits : r.answers < read_count i σ.kept.version)
    (right : RightBody c L w g (read_want c.servers σ.kept.version r) body) where
  abbrev k : Kept
  k = σ.kept

  abbrev n : ℕ
  n = c.servers

  abbrev v : ℕ
  v = k.version

  abbrev next_read : Read
  next_read = read_next r body

  abbrev lent : Lent
  lent = collected_by r m body

  -- the setup's group
  group : GroupInRange n (public_to c c.count)
  group = group_of c a fit.settings-fit

  -- what was written at i
  item : ItemOk c L (i - 1)
  item = let low = fit.low in (fit.items (i - 1) (omega arith)).0

  -- the Operation brings what was written at i
  text-body : r.answers ≡ 0 → body ≡ texts L (i - 1)
  unfolding RightBody of_node
  text-body e = rw ok.position at ((subst (λ x. RightBody c L w g x body) (want_operation n v r e) right).2 refl)

  -- a Node brings the hash of the next node
  node-body : (r.answers ≡ 0 → ⊥)
      → body ≡ hash_of L (get_or (read_nodes i v) (r.answers - 1) (at 0 0)).position (get_or (read_nodes i v) (r.answers - 1) (at 0 0)).level
  unfolding RightBody of_node
  node-body e = rw ok.position at ((subst (λ x. RightBody c L w g x body) (want-node n v r _ e refl) right).1 refl)

  -- the text that is held is that of i
  next-text : held_text next_read lent.held ≡ texts L (i - 1)
  unfolding held_text read_next read_held
  next-text =
      cases_eq r.answers 0
      (λ e.
      let b = text-body e in
      let short = item.short in
      let l : length body ≡ 2 + length (L (i - 1)).entry = ap length b ∙ text-size L (i - 1) in
      rw (eq-eqb r.answers 0 e) (handed body m.held (omega (arith, memory.held)) ∙ b))
      (λ e. rw (ne_eqb r.answers 0 e) (ok.text (positive r.answers e)))

  -- the hashes are those of the nodes
  next-hashes : (j : ℕ) → suc j < suc r.answers
      → piece lent.hashes (j + 1) ≡ hash_of L (get_or (read_nodes i v) j (at 0 0)).position (get_or (read_nodes i v) j (at 0 0)).level
  unfolding read_hashes
  next-hashes j h =
      let z : r.answers ≡ 0 → ⊥ = λ e. omega arith in
      let b = node-body z in
      let l : length body ≡ 32 = ap length b ∙ hash_size L _ _ in
      let few = read-at-most_39 i v one iv (let x = fit.low in let y = fit.within in omega arith) in
      rw (ne_eqb r.answers 0 z)
      (cases_eq (j + 1) r.answers
      (λ e.
      let q : r.answers - 1 ≡ j = omega arith in
      rw e (piece-written m.hashes body r.answers l (omega (arith, memory.hashes)) ∙ rw q at b))
      (λ e. piece-before m.hashes body (j + 1) r.answers l (omega (arith, memory.hashes)) (omega (arith, e)) ∙ ok.hashes_right j (omega (arith, e))))

  -- what holds of a Read holds after the answer
  next_ok : ReadOk v i L next_read lent.hashes lent.held
  unfolding read_next
  next_ok = record { position = ok.position; text = λ _. next-text; hashes_right = next-hashes }

  -- the author of that text, and behind it the entry
  text-author : text_author (held_text next_read lent.held) ≡ (L (i - 1)).author
  text-author =
      let low = item.listed in
      let few = group.few in
      let count = fit.counted in
      ap text_author next-text ∙ author_of_text (L (i - 1)).author (L (i - 1)).entry (omega arith)

  text-entry : text_entry (held_text next_read lent.held) ≡ (L (i - 1)).entry
  text-entry = ap text_entry next-text ∙ entry_of_text (L (i - 1)).author (L (i - 1)).entry

  text-leaf : text_leaf (held_text next_read lent.held) ≡ leaf (texts L (i - 1))
  unfolding text_leaf
  text-leaf = rw (text-author, text-entry)

  -- 23: at the last answer the Read gives the digest that is kept
  gives : suc r.answers ≡ read_count i v → eqs (value (read_over k.version next_read lent.hashes lent.held)) k.digest ≡ true
  unfolding read_over read_count read_next digest
  gives e =
      let all : TrueReads (leaves (texts L)) (read_nodes i v) lent.hashes = λ j h. next-hashes j (omega arith) in
      let own = text_leaf (held_text next_read lent.held) in
      let d = true-read-gives-digest i v (leaves (texts L)) lent.hashes own one iv (ap value text-leaf) all in
      ap (λ p. eqs (value (read_digest p v lent.hashes own)) k.digest) ok.position
      ∙ ap (λ (x : List ℕ). eqs x k.digest) (d ∙ sym (fit.digest_ok (omega arith))) ∙ eqs_refl k.digest

  -- the author that a Read ends with
  found-author : (read_ends σ lent next_read).found.author ≡ (L (i - 1)).author
  unfolding read_ends
  found-author = text-author

  -- the entry buffer begins with it
  found-entry : take (read_ends σ lent next_read).found.length (read_ends σ lent next_read).lent.entry ≡ (L (i - 1)).entry
  unfolding read_ends
  found-entry = let short = item.short in rw text-entry (handed (L (i - 1)).entry m.entry (omega arith))

  -- a right answer is taken: the Read asks for the next node, or ends with what was written
  pub read_right : (suc r.answers < read_count i v
      → (read_taken (settings_in c a) σ m r (answer_to (read_want n v r) body) ≡ read_asks (settings_in c a) σ lent next_read)
      × ReadOk v i L next_read lent.hashes lent.held)
      × (suc r.answers ≡ read_count i v
      → (read_taken (settings_in c a) σ m r (answer_to (read_want n v r) body) ≡ read_ends σ lent next_read)
      × ((read_ends σ lent next_read).found.author ≡ (L (i - 1)).author)
      × (take (read_ends σ lent next_read).found.length (read_ends σ lent next_read).lent.entry ≡ (L (i - 1)).entry))
  read_right =
      let ask = read-asks c v w i L r m.hashes m.held ok one iv fit.low waits in
      let want = read_want n v r in
      let two = group.two in
      let sixteen = group.sixteen in
      let within = fit.within in
      let shape = right-shape c L w g two sixteen within fit.items want ask body right in
      let code = right-code c L w g two sixteen within fit.items want ask body right in
      let is = right-body c L w g two sixteen within fit.items want ask body right in
      let p = sym ok.position in
      let early = subst (λ p. r.answers < read_count p v) p waits in (
        λ h. (
          taken-asks (settings_in c a) σ m r (answer_to want body) body fit.settings-fit fit.kept-fit memory.request entry-room (omega arith) (omega arith) early
              shape code is (subst (λ p. suc r.answers < read_count p v) p h),
          next_ok,
        ),
        λ e. (
          taken-ends (settings_in c a) σ m r (answer_to want body) body fit.settings-fit fit.kept-fit memory.request entry-room (omega arith) (omega arith) early
              shape code is (subst (λ p. suc r.answers ≡ read_count p v) p e) (gives e),
          found-author,
          found-entry,
        ),
      )
