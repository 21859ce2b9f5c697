-- Each answer of an honest Update passes every check, and the Update goes on as it should.
use mathlib.Core.Path.{◌≡◌, refl, sym, ap, ◌∙◌, subst}
use mathlib.Core.Bool.{true, false, cond, not}
use mathlib.Core.List.{List, [], ◌++◌, append-nil, append_assoc}
use Prim.Native.Nat.{ℕ, suc, ◌+◌, ◌-◌, ◌*◌, ◌≤◌, ◌<◌}
use native.Mathlib.Omega.{arith}
use lib.Dec.{eqb, ltb}
use lib.ListN.{length, get_or}
use borrow.Author.Tests.{eq-eqb, ne_eqb, le-leb, lt-ltb, le-ltb}
use Rattle.sha256.specs.Bytes.{be}
use Rattle.tree.specs.Bytes.{written}
use Rattle.tree.specs.Cover.{at, cover, piece}
use Rattle.tree.specs.Message.{answer_code, answer_body}
use Rattle.tree.specs.Setup.{Check, first_code, Settings}
use Rattle.tree.proofs.ByteLaws.{written-length}
use Rattle.tree.proofs.Cases.{by_bool, cases_le, cases_eq, positive}
use Rattle.tree.proofs.Counts.{cover-at-most_39}
use Rattle.user_list.specs.Users.{least_request}
use Rattle.user_list.proofs.Lists.{GroupInRange}
use Rattle.user.specs.declared.call.Kept.{Kept}
use Rattle.user.specs.Asking.{user_settings_fit, kept_fits, user_fits, user_setup_checks, request_room, is_answer, answer_checks, of_node, of_status}
use Rattle.user.specs.Outcome.{State, Lent, with_hashes, refusal}
use Rattle.user_update.specs.declared.call.Update.{Update}
use Rattle.user_update.specs.Update.{update_ended, update_want, update_next, update_hashes, update_checks, status_taken, update_goes, fresh_update, update_started, update_setup, update_early, update_taken}
use Rattle.user_update.proofs.UpdateRules.{next-answers, later-position}
use Rattle.user_update.proofs.Updates.{want_status, want_record, want-node, next_status, no_hash, hash_kept, heads-later, heads-last, contents_status, contents_record, contents-node, contents-last}
use Rattle.honest_run.specs.Network.{HonestSetup, public_to, settings_in}
use Rattle.honest_run.proofs.Invariant.{Item, hash_of, digest_of, ToldOk, RightBody, UpdateOk}
use Rattle.honest_run.proofs.Log.{hash_size, digest_size}
use Rattle.honest_run.proofs.Nodes.{piece-written, piece-before}
use Rattle.honest_run.proofs.Answers.{Fit, answer-passes, group_of, answer_to, right-code, right-body, right-shape}
use Rattle.honest_run.proofs.Updates.{cover-none, waits_for, update-asks, true-answers}
use Rattle.honest_run.proofs.Status.{head-told, head_holds_lem, status_ok}
use Rattle.honest_run.proofs.Contents.{digest_back, record_holds_lem, gives-own, gives-new}

-- 22, 21 and 18 pass, and what is checked after them decides
setup-passes : (s : Settings) (k : Kept) (buffer : List ℕ) (cs : List Check) → user_settings_fit s ≡ true → kept_fits s k ≡ true → k.opened ≡ false
    → least_request ≤ length buffer → first_code (update_setup s k buffer ++ cs) ≡ first_code cs
unfolding update_setup user_setup_checks user_fits request_room first_code
setup-passes s k buffer cs settings-fit kept-fit shut room =
    let closed : not k.opened ≡ true = rw shut in
    rw (settings-fit, kept-fit, le-leb least_request (length buffer) room, closed)

-- an Update starts with a Status of server 1
pub update-starts : (c : HonestSetup) (L : ℕ → Item) (w a : ℕ) (σ : State) (m : Lent) → Fit c L w a σ.kept → σ.kept.opened ≡ false
    → least_request ≤ length m.request → update_started (settings_in c a) σ m ≡ update_goes (settings_in c a) σ m fresh_update
unfolding update_started first_code
update-starts c L w a σ m fit shut room =
    let e : first_code (update_setup (settings_in c a) σ.kept m.request) ≡ 0 =
    rw append-nil at (setup-passes (settings_in c a) σ.kept m.request [] fit.settings-fit fit.kept-fit shut room) in
    rw e

-- the list of hashes keeps its length
pub update-hashes_size : (n : ℕ) (u : Update) (body hashes : List ℕ) → length (update_hashes n u body hashes) ≡ length hashes
unfolding update_hashes
update-hashes_size n u body hashes =
    by_bool (λ b. length (cond b (written hashes (32 * (u.answers - (n + 1))) body) hashes) ≡ length hashes) (ltb n u.answers)
    (λ _. written-length hashes (32 * (u.answers - (n + 1))) body) (λ _. refl)

-- an answer that passes 22, 21, 18, 10 and 11, and whose contents pass, is taken
module _ (s : Settings) (σ : State) (m : Lent) (u : Update) (a body : List ℕ)
    (settings-fit : user_settings_fit s ≡ true) (kept-fit : kept_fits s σ.kept ≡ true) (shut : σ.kept.opened ≡ false) (room : least_request ≤ length m.request)
    (waits : update_ended s.servers σ.kept.version u ≡ false) (shape : is_answer s.users (update_want s.servers σ.kept.version u) a ≡ true)
    (code : answer_code a ≡ 0) (is : answer_body a ≡ body) where
  -- what is checked after 11 decides
  early-passed : (cs : List Check) → first_code (update_early s σ.kept u m.request a ++ cs) ≡ first_code cs
  unfolding update_early
  early-passed cs =
      let going : not (update_ended s.servers σ.kept.version u) ≡ true = rw waits in
      rw append_assoc (setup-passes s σ.kept m.request _ settings-fit kept-fit shut room ∙ answer-passes _ _ _ a cs going shape code)

  -- where the contents pass too, the Update goes on
  pub taken-passed : first_code (update_checks s σ.kept u (update_next s.servers u body) (update_hashes s.servers u body m.hashes) body) ≡ 0
      → update_taken s σ m u a ≡ update_goes s σ (with_hashes m (update_hashes s.servers u body m.hashes)) (update_next s.servers u body)
  unfolding update_taken
  taken-passed e = rw (is, early-passed, e)

-- one with another code of a server's is refused by 11
pub server_refuses : (s : Settings) (σ : State) (m : Lent) (u : Update) (a : List ℕ) (code : ℕ) → user_settings_fit s ≡ true
    → kept_fits s σ.kept ≡ true → σ.kept.opened ≡ false → least_request ≤ length m.request → update_ended s.servers σ.kept.version u ≡ false
    → is_answer s.users (update_want s.servers σ.kept.version u) a ≡ true → answer_code a ≡ code → (code ≡ 0 → ⊥) → update_taken s σ m u a ≡ refusal 11 a σ m u
unfolding update_taken update_early answer_checks first_code
server_refuses s σ m u a code settings-fit kept-fit shut room waits shape is n =
    let going : not (update_ended s.servers σ.kept.version u) ≡ true = rw waits in
    let other : eqb (answer_code a) 0 ≡ false = ne_eqb (answer_code a) 0 (λ z. n (sym is ∙ z)) in
    let cs = answer_checks s.users (not (update_ended s.servers σ.kept.version u)) (update_want s.servers σ.kept.version u) a in
    let early : (rest : List Check) → first_code ((update_setup s σ.kept m.request ++ cs) ++ rest) ≡ 11 =
    λ rest. rw append_assoc (setup-passes s σ.kept m.request _ settings-fit kept-fit shut room ∙ rw (going, shape, other)) in
    rw early

-- a Status that tells a head, where the labels of w positions are reserved, as in the log or by an open write's Reserves
module _ (c : HonestSetup) (L : ℕ → Item) (w a : ℕ) (k : Kept) (u : Update) (hashes body : List ℕ) (two : 2 ≤ c.servers) (low : k.version ≤ w)
    (within : w ≤ 1048576) (ok : UpdateOk c.servers k.version w L u hashes) (early : u.answers < c.servers)
    (told : ToldOk c w 0 (u.answers + 1) body) where
  -- the Update after it
  pub status_next : UpdateOk c.servers k.version w L (update_next c.servers u body) (update_hashes c.servers u body hashes)
  status_next =
      let n = c.servers in
      let t = head-told c w (u.answers + 1) body within told in
      subst (λ x. UpdateOk n k.version w L x (update_hashes n u body hashes)) (next_status n u body _ early refl)
      (subst (UpdateOk n k.version w L (status_taken u body)) (no_hash n u body hashes (omega arith))
      (status_ok n k.version w L u hashes body ok early t (omega arith)))

  -- 10, 12 and 13 pass
  pub status_passes : 0 ≡ first_code (update_checks (settings_in c a) k u (update_next c.servers u body) (update_hashes c.servers u body hashes) body)
  status_passes =
      let n = c.servers in
      let next = update_next n u body in
      let q = next-answers n u body in
      let t = head-told c w (u.answers + 1) body within told in
      contents_status (settings_in c a) k u next (update_hashes n u body hashes) body 0 early (head_holds_lem n w (u.answers + 1) body (omega arith) t)
      (cases_eq next.answers n
      (λ e.
      let g = status_next.greatest_low (omega arith) in
      let l = status_next.least_near (omega arith) (omega arith) in
      let p = status_next.position_later (omega arith) in
      heads-last n k.version next 0 e (rw (lt-ltb (next.greatest - next.least) n (omega arith), le-leb k.version next.position (omega arith))))
      (λ e. heads-later n k.version next e))

module _ (c : HonestSetup) (L : ℕ → Item) (w a : ℕ) (σ : State) (m : Lent) (u : Update) (body : List ℕ) (fit : Fit c L w a σ.kept)
    (ok : UpdateOk c.servers σ.kept.version w L u m.hashes) (size : length m.hashes ≡ 1248)
    (waits : update_ended c.servers σ.kept.version u ≡ false) (right : RightBody c L w 0 (update_want c.servers σ.kept.version u) body) where
  abbrev k : Kept
  k = σ.kept

  abbrev hashes : List ℕ
  hashes = m.hashes

  abbrev n : ℕ
  n = c.servers

  abbrev v : ℕ
  v = k.version

  abbrev next : Update
  next = update_next n u body

  abbrev over : List ℕ
  over = update_hashes n u body hashes

  -- the setup's group
  group : GroupInRange n (public_to c c.count)
  group = group_of c a fit.settings-fit

  -- a Status brings a head
  status_body : u.answers < n → ToldOk c w 0 (u.answers + 1) body
  unfolding RightBody of_status
  status_body h = (subst (λ x. RightBody c L w 0 x body) (sym (want_status n v u _ h refl)) right).0 refl

  -- the Record brings author, digest and signature of position w
  record_body_lem : u.answers ≡ n → body ≡ be 2 (L (w - 1)).author ++ (digest_of L w ++ (L (w - 1)).signature)
  unfolding RightBody of_node
  record_body_lem e =
      rw (ok.position_later (omega arith)) at ((subst (λ x. RightBody c L w 0 x body) (sym (want_record n v u _ (omega arith) e refl)) right).3 refl)

  abbrev place : ℕ
  place = u.answers - (n + 1)

  -- a Node brings the hash of the next node of the cover
  node-body : n < u.answers → body ≡ hash_of L (get_or (cover v w) place (at 0 0)).position (get_or (cover v w) place (at 0 0)).level
  unfolding RightBody of_node
  node-body h =
      rw (ok.position_later (omega arith)) at
      ((subst (λ x. RightBody c L w 0 x body) (sym (want-node n v u _ _ (omega arith) (λ e. omega arith) refl refl)) right).1 refl)

  -- a hash that is waited for is one of the cover
  place_in : n < u.answers → place < length (cover v w)
  place_in h = let x : u.answers < n + 1 + length (cover v w) = rw (ok.position_later (omega arith)) at (waits_for n v u waits).1 in omega arith

  -- each has room in the list of hashes
  place-fits : n < u.answers → 32 * place + 32 ≤ length hashes
  place-fits h = let x = place_in h in omega (arith, cover-at-most_39 v w fit.low fit.within)

  -- the Update after a Status
  after_status : u.answers < n → UpdateOk n v w L next over
  after_status h = status_next c L w a k u hashes body group.two fit.low fit.within ok h (status_body h)

  -- from the Record on the digest is that of w
  next-digest : n ≤ u.answers → next.digest ≡ digest_of L w
  unfolding update_next
  next-digest h =
      cases_eq u.answers n
      (λ e.
      rw (le-ltb u.answers n h, eq-eqb u.answers n e)
      (digest_back body (digest_of L w) (L (w - 1)).signature (L (w - 1)).author (record_body_lem e) (digest_size L w)))
      (λ e. rw (le-ltb u.answers n h, ne_eqb u.answers n e) (ok.digest-later (omega (arith, e))))

  -- the hashes are those of the nodes
  next-hashes : n < u.answers → (j : ℕ) → j < suc u.answers - (n + 1)
      → piece over j ≡ hash_of L (get_or (cover v w) j (at 0 0)).position (get_or (cover v w) j (at 0 0)).level
  next-hashes h j i =
      let o : written hashes (32 * place) body ≡ over = hash_kept n u body _ hashes h refl in
      let b = node-body h in
      let l : length body ≡ 32 = ap length b ∙ hash_size L _ _ in
      rw (← o)
      (cases_eq j place (λ e. rw e (piece-written hashes body place l (place-fits h) ∙ b))
      (λ e. piece-before hashes body j place l (place-fits h) (omega (arith, e)) ∙ ok.hashes_right h j (omega (arith, e))))

  -- what holds of an Update holds after the Record or a hash
  later-next : n ≤ u.answers → UpdateOk n v w L next over
  later-next h =
      let q = next-answers n u body in
      record {
        greatest_low = λ i. absurd (omega arith);
        greatest_seen = λ i. absurd (omega arith);
        position-is = λ i. absurd (omega arith);
        least_near = λ i. absurd (omega arith);
        position_later = λ _. later-position n u body h ∙ ok.position_later h;
        digest-later = λ _. next-digest h;
        hashes_right = λ _ j i. next-hashes (omega arith) j (omega arith);
      }

  -- and so after every answer
  next_ok : UpdateOk n v w L next over
  next_ok = cases_le n u.answers later-next after_status

  -- the contents pass: 10, 12 and 13
  heads_pass : u.answers < n → 0 ≡ first_code (update_checks (settings_in c a) k u next over body)
  heads_pass h = status_passes c L w a k u hashes body group.two fit.low fit.within ok h (status_body h)

  -- 14
  record_passes : u.answers ≡ n → 0 ≡ first_code (update_checks (settings_in c a) k u next over body)
  record_passes e =
      let p = ok.position_later (omega arith) in
      let z : 0 < w = positive w (λ q. (waits_for n v u waits).0 e (p ∙ q)) in
      let few = group.few in
      let count = fit.counted in
      let r = record_holds_lem c L a w body fit.counted (omega arith) z (fit.items (w - 1) (omega arith)) (record_body_lem e) in
      contents_record (settings_in c a) k u next over body 0 (omega arith) e (rw (p, r))

  -- 15 and 16
  hash_passes : n < u.answers → 0 ≡ first_code (update_checks (settings_in c a) k u next over body)
  unfolding first_code
  hash_passes h =
      let low = fit.low in
      let q = next-answers n u body in
      by_bool (λ b. update_ended n v next ≡ b → 0 ≡ first_code (update_checks (settings_in c a) k u next over body)) (update_ended n v next)
      (λ _ e.
      let t = true-answers n w L k next over next_ok low e in
      let i = place_in h in
      let z : 0 < w = positive w (λ y. omega (arith, cover-none v w low y)) in
      let own = gives-own L w k over fit.digest_ok t in
      let new = gives-new L v w next over low z (next_ok.position_later (omega arith)) (next_ok.digest-later (omega arith)) t in
      contents-last (settings_in c a) k u next over body true 0 (omega arith) (λ y. omega arith) (sym e) refl (rw (own, new)))
      (λ _ e. contents-node (settings_in c a) k u next over body false (omega arith) (λ y. omega arith) (sym e) refl)
      refl

  -- every check of the contents passes
  passes : first_code (update_checks (settings_in c a) k u next over body) ≡ 0
  passes =
      sym (cases_le n u.answers (λ h. cases_eq u.answers n record_passes (λ e. hash_passes (omega (arith, e)))) heads_pass)

  -- a right answer is taken, and the Update goes on
  pub update_right : k.opened ≡ false → least_request ≤ length m.request
      → (update_taken (settings_in c a) σ m u (answer_to (update_want n v u) body) ≡ update_goes (settings_in c a) σ (with_hashes m over) next)
      × UpdateOk n v w L next over
  update_right shut room =
      let ask = update-asks c v w L u hashes ok fit.low waits in
      let want = update_want n v u in
      let two = group.two in
      let sixteen = group.sixteen in
      let within = fit.within in (
        taken-passed (settings_in c a) σ m u (answer_to want body) body fit.settings-fit fit.kept-fit shut room waits
            (right-shape c L w 0 two sixteen within fit.items want ask body right) (right-code c L w 0 two sixteen within fit.items want ask body right)
            (right-body c L w 0 two sixteen within fit.items want ask body right) passes,
        next_ok,
      )
