-- An open write that nothing refuses: it is resumed, each answer is taken, it signs once, and its Commit ends it.
use mathlib.Core.Path.{◌≡◌, refl, ap, ap₂, sym, ◌∙◌, subst}
use mathlib.Core.Bool.{Bool, true, false, cond, not, ◌&&◌, ◌||◌, and-false, or-true, or-false}
use mathlib.Core.List.{List, []}
use Prim.Native.Nat.{ℕ, suc, ◌≤◌, ◌<◌, ◌-◌}
use native.Mathlib.Omega.{arith}
use lib.Dec.{eqb, leb, ltb}
use lib.ListN.{length}
use borrow.Author.Tests.{eq-eqb, ne_eqb, le-leb, lt-ltb}
use Rattle.sha256.proofs.Laws.{eqs_refl}
use Rattle.tree.specs.Bytes.{eqs}
use Rattle.tree.specs.Level.{lg}
use Rattle.tree.specs.Expr.{leaf, entry_text, value}
use Rattle.tree.specs.Cover.{piece}
use Rattle.tree.specs.Message.{answer, answer_code}
use Rattle.tree.specs.Setup.{first_code, Settings}
use Rattle.tree.proofs.Cases.{by_bool, cases_eq}
use Rattle.tree.proofs.Labels.{owner_range}
use Rattle.tree.proofs.Levels.{lg_below}
use Rattle.user_list.specs.Users.{tree_length, least_request, longest_tree}
use Rattle.user.specs.declared.call.Kept.{Kept}
use Rattle.user.specs.Asking.{user_settings_fit, kept_fits, user_fits, user_setup_checks, request_room, of_node, answer_body_fits, is_answer, answer_checks, asking}
use Rattle.user.specs.Outcome.{State, state_of, Lent, with_progress, with_kept, Outcome, nothing, ending, handing_out}
use Rattle.user.proofs.Ranges.{ProgressInRange, kept_in_range}
use Rattle.firing.specs.Entry.{entry_fits}
use Rattle.firing.specs.Schedule.{rules_kept}
use Rattle.user_write.specs.declared.call.Write.{Write}
use Rattle.user_write.specs.Write.{opened_at, own_leaf, path_digest, held_entry, fresh_write, commit_number, write_kind, write_level, write_want}
use Rattle.user_write.specs.Write.{write_body, write_room, number_left, write_started, write_asks, handing, signs_next, write_checks, commit_signature}
use Rattle.user_write.specs.Write.{write_signature, signing, committed, write_updates, write_goes, write_taken, goes_on}
use Rattle.user_write.proofs.WriteRanges.{write-fits}
use Rattle.honest_run.specs.Network.{HonestSetup, InRange, settings_in}
use Rattle.honest_run.proofs.Invariant.{Item, hash_of, digest_of, OpenOk, body_at}
use Rattle.honest_run.proofs.Log.{hash_of_leaf}
use Rattle.honest_run.proofs.Keys.{user-settings, tree-room, left-number}
use Rattle.honest_run.proofs.Answers.{right_answer}
use Rattle.honest_run.proofs.Bodies.{level_low, kind_low, path-digest, body_is}
use Rattle.honest_run.proofs.Opening.{start-passes, holding, started_with, passed-starts}

-- what an open write hands out, where path, entry and signature are those of the log's place w
pub asks_right : (s : Settings) (L : ℕ → Item) (w : ℕ) (σ : State) (m : Lent) (call : Write) → σ.kept.version ≡ w
    → ((l : ℕ) → l ≤ lg (suc w) → piece σ.path l ≡ hash_of L (suc w) l) → held_entry call m.held ≡ (L w).entry
    → (call.answers ≡ commit_number (suc w) → (L w).signature ≡ σ.signature) → call.answers ≤ commit_number (suc w)
    → write_asks s σ m call ≡ handing_out s (write_want s.servers (suc w) call.answers) (body_at L w call.answers) σ m call
unfolding write_asks
asks_right s L w σ m call version path_ok entry signs few =
    let j = call.answers in
    let text = held_entry call m.held in
    ap (λ (v : ℕ). handing_out s (write_want s.servers (suc v) j) (write_body (suc v) j σ.path text σ.signature) σ m call) version
    ∙ ap (λ (body : List ℕ). handing_out s (write_want s.servers (suc w) j) body σ m call)
    (body_is L w σ.path path_ok j text σ.signature (sym entry) signs few)

-- what is kept once request i is handed out
abbrev pub handed_state : State → ℕ → State
handed_state σ i = let k = σ.kept in with_kept σ (with_progress k (handing (suc k.version) k.progress i))

-- what is kept once the Commit, request i, is signed: the signature, and its number used up
abbrev pub signed_state : State → ℕ → List ℕ → State
signed_state σ i sig =
    let k = σ.kept in
    let progress = handing (suc k.version) k.progress i in
    state_of (record { version = k.version; digest = k.digest; number = suc k.number; opened = true; signed = true; progress = progress }) σ.path sig

-- once an answer is taken and the next request goes out, what is kept is in range
pub asked_progress : (s : Settings) (σ τ : State) (m n : Lent) (call later : Write) (a : List ℕ) → write_taken s σ m call a ≡ write_asks s τ n later
    → τ.kept.opened ≡ true → ProgressInRange s.servers (suc τ.kept.version) τ.kept.signed τ.kept.progress
unfolding write_asks asking
asked_progress s σ τ m n call later a e opened =
    let fits : kept_fits s τ.kept ≡ true =
    subst (λ (o : Outcome Write). kept_fits s o.state.kept ≡ true) e
    (write-fits s σ m call a (ap (λ (o : Outcome Write). o.step.code) e)) in
    (kept_in_range s τ.kept fits).progress opened

-- the answer to request j of the write of p
abbrev pub accepts : ℕ → ℕ → ℕ → List ℕ
accepts n p j = answer (write_kind p j) (write_want n p j).server p (write_level p j) 0 []

-- it has no body
no_body : (users : List ℕ) (kind : ℕ) → 5 ≤ kind → answer_body_fits users kind [] ≡ true
unfolding answer_body_fits
no_body users kind h =
    rw (ne_eqb kind 1 (λ e. omega arith), ne_eqb kind 2 (λ e. omega arith), ne_eqb kind 3 (λ e. omega arith), ne_eqb kind 4 (λ e. omega arith))

accepted : (users : List ℕ) (n p j : ℕ) → 2 ≤ n → n ≤ 16 → 0 < p → p ≤ 1048576
    → (is_answer users (write_want n p j) (accepts n p j) ≡ true) × (answer_code (accepts n p j) ≡ 0)
unfolding write_want of_node
accepted users n p j two sixteen some few =
    let kind = kind_low p j in
    let level = level_low p j some in
    let low : lg p ≤ 20 = lg_below p 20 few in
    let server = owner_range n p (write_level p j) (omega arith) in
    right_answer users (write_want n p j) [] (omega (arith, kind.1)) (omega (arith, server.1)) (omega arith) (omega arith) (no_body users (write_kind p j) kind.0)

-- what is kept of a committed write: its position and its digest
module _ (c : HonestSetup) (L : ℕ → Item) (w g a : ℕ) (entry : List ℕ) (σ : State) (ok : OpenOk c L w g a entry σ) where
  -- the version
  pub commit_version : (committed σ.kept σ.path).version ≡ suc w
  unfolding committed
  commit_version = ap suc ok.version

  -- the digest
  pub commit_digest : (committed σ.kept σ.path).digest ≡ digest_of L (suc w)
  unfolding committed
  commit_digest = ap (λ (v : ℕ). path_digest (suc v) σ.path) ok.version ∙ path-digest L w σ.path ok.path_ok

-- an open write of user a, and the memory that is lent to it
module _ (c : HonestSetup) (r : InRange c) (L : ℕ → Item) (w g a : ℕ) (entry : List ℕ) (σ : State) (m : Lent)
    (opened : σ.kept.opened ≡ true) (unbegun : σ.kept.progress.begun ≡ false) (in_range_lem : kept_fits (settings_in c a) σ.kept ≡ true) (ok : OpenOk c L w g a entry σ)
    (room : least_request ≤ length m.request) (whole : longest_tree ≤ length m.key.tree) where
  abbrev k : Kept
  k = σ.kept

  abbrev s : Settings
  s = settings_in c a

  self_listed : (1 ≤ a) × (a ≤ c.count)
  self_listed = (rw ok.author at ok.item.one, rw ok.author at ok.item.listed)

  settled : user_settings_fit s ≡ true
  settled = user-settings c r a self_listed.0 self_listed.1

  -- 18: the leaf of the entry is the path's first hash
  same_leaf : value (own_leaf s entry) ≡ piece σ.path 0
  unfolding own_leaf
  same_leaf =
      ap₂ (λ (x : ℕ) (y : List ℕ). value (leaf (entry_text x y))) (sym ok.author) (sym ok.entry)
      ∙ sym (ok.path_ok 0 (omega arith) ∙ (let e : suc w - 1 ≡ w = omega arith in rw e at (hash_of_leaf L (suc w))))

  -- 17: it is signed, or a number is left
  signed-or-spare : (k.signed || number_left s k) ≡ true
  signed-or-spare =
      let Passes : Bool → Type 0 = λ b. (b || number_left s k) ≡ true in
      by_bool Passes k.signed (λ _. refl) (λ e. left-number s k (ok.unsigned e).1)

  -- "Resuming .. starts at Reserve without Update"
  pub write-resumes : (randomizer : List ℕ) → entry_fits entry ≡ true → rules_kept entry ≡ true
      → write_started (settings_in c a) σ m entry randomizer ≡ write_asks (settings_in c a) σ (holding m entry) (fresh_write σ.kept entry randomizer)
  write-resumes randomizer shaped ruled =
      let leaves : Bool = eqs (value (own_leaf s entry)) (piece σ.path 0) in
      let same : (not k.progress.begun && leaves) ≡ true =
      ap (λ (b : Bool). not b && leaves) unbegun ∙ ap (eqs (value (own_leaf s entry))) (sym same_leaf) ∙ eqs_refl (value (own_leaf s entry)) in
      passed-starts s σ m entry randomizer
      (start-passes s σ m entry settled in_range_lem room whole shaped ruled
      (ap (λ (b : Bool). not b || (not k.progress.begun && leaves)) opened ∙ same)
      (ap (λ (b : Bool). (b && k.signed) || number_left s k) opened ∙ signed-or-spare))
      ∙ ap (started_with s σ m entry randomizer) opened

  -- an answer taken in: request w' .answers was accepted
  module _ (w' : Write) (going : w'.opened ≡ true) (few : w'.answers ≤ commit_number (suc w)) where
    -- the answer that accepts the request
    abbrev pub given : List ℕ
    given = accepts c.servers (suc w) w'.answers

    -- the call after it
    abbrev later : Write
    later = opened_at w' (suc w'.answers)

    answers_few : w'.answers ≤ commit_number (suc k.version)
    answers_few = let e = ap (λ (v : ℕ). commit_number (suc v)) ok.version in omega arith

    waits : (k.opened && (not k.progress.begun && leb w'.answers (commit_number (suc k.version)))) ≡ true
    waits =
        ap₂ (λ (b d : Bool). b && (not d && leb w'.answers (commit_number (suc k.version)))) opened unbegun
        ∙ le-leb w'.answers (commit_number (suc k.version)) answers_few

    is-accepted : (is_answer s.users (write_want c.servers (suc k.version) w'.answers) given ≡ true) × (answer_code given ≡ 0)
    is-accepted =
        let within = ok.within in
        let x = accepted s.users c.servers (suc w) w'.answers r.two r.sixteen (omega arith) (omega arith) in
        (ap (λ (v : ℕ). is_answer s.users (write_want c.servers (suc v) w'.answers) given) ok.version ∙ x.0, x.1)

    -- 17: a signature that is made has a number
    spare : (not (signs_next k w') || number_left s k) ≡ true
    unfolding signs_next
    spare =
        let now : Bool = eqb (suc w'.answers) (commit_number (suc k.version)) in
        let Passes : Bool → Type 0 = λ b. (not (now && not b) || number_left s k) ≡ true in
        by_bool Passes k.signed (λ _. rw (and-false now))
        (λ e. rw (left-number s k (ok.unsigned e).1) (or-true (not (now && true))))

    passes : first_code (write_checks s k m w' given) ≡ 0
    unfolding write_checks user_setup_checks user_fits write_room request_room answer_checks first_code
    passes =
        rw (
          settled,
          in_range_lem,
          le-leb least_request (length m.request) room,
          le-leb (tree_length s.users s.own) (length m.key.tree) (tree-room s _ whole),
          waits,
          is-accepted.0,
          eq-eqb (answer_code given) 0 is-accepted.1,
          spare,
        )

    -- what the answer leaves, by whether it was the Commit's
    abbrev ends : Outcome Write
    ends = ending nothing (with_kept σ (committed k σ.path)) m later

    abbrev goes : Outcome Write
    goes = write_asks s (goes_on s σ m.key w') m later

    takes : write_taken s σ m w' given ≡ cond (eqb w'.answers (commit_number (suc k.version))) ends goes
    unfolding write_taken write_goes
    takes = ap (λ (b : Bool). cond b (write_goes s σ m w' given) (write_updates s σ m w' given)) going ∙ rw passes

    -- the Commit is accepted: "makes p the version"
    pub write_commits : w'.answers ≡ commit_number (suc w) → write_taken (settings_in c a) σ m w' given ≡ ends
    write_commits last =
        let e = ap (λ (v : ℕ). commit_number (suc v)) ok.version in
        takes ∙ rw (eq-eqb w'.answers (commit_number (suc k.version)) (omega arith))

    -- any other request is accepted: the next one goes out
    module _ (more : w'.answers < commit_number (suc w)) where
      next-goes : write_taken s σ m w' given ≡ goes
      next-goes =
          let e = ap (λ (v : ℕ). commit_number (suc v)) ok.version in
          takes ∙ rw (ne_eqb w'.answers (commit_number (suc k.version)) (λ q. omega arith))

      unsigned_next : (suc w'.answers ≡ commit_number (suc w) → k.signed ≡ true) → signs_next k w' ≡ false
      unfolding signs_next
      unsigned_next signed =
          let e = ap (λ (v : ℕ). commit_number (suc v)) ok.version in
          let last : ℕ = commit_number (suc k.version) in
          cases_eq (suc w'.answers) (commit_number (suc k.version))
          (λ q. ap (λ (b : Bool). eqb (suc w'.answers) last && not b) (signed (q ∙ e)) ∙ and-false (eqb (suc w'.answers) last))
          (λ q. rw (ne_eqb (suc w'.answers) (commit_number (suc k.version)) q))

      -- what is kept stays where no signature is made, but for the request that is handed out
      same_state : signs_next k w' ≡ false → goes_on s σ m.key w' ≡ handed_state σ (suc w'.answers)
      unfolding goes_on signing write_signature
      same_state n =
          let progress = handing (suc k.version) k.progress (suc w'.answers) in
          rw n (ap₂ (λ (o b : Bool). with_kept σ (record {
            version = k.version;
            digest = k.digest;
            number = k.number;
            opened = o;
            signed = b;
            progress = progress;
          })) (sym opened) (or-false k.signed))

      -- where no signature is to be made
      pub write_continues : (suc w'.answers ≡ commit_number (suc w) → k.signed ≡ true)
          → write_taken (settings_in c a) σ m w' given
          ≡ write_asks (settings_in c a) (handed_state σ (suc w'.answers)) m (opened_at w' (suc w'.answers))
      write_continues signed = next-goes ∙ ap (λ (τ : State). write_asks s τ m later) (same_state (unsigned_next signed))

      -- the next request is the Commit, and there is no signature yet: it is made, with the key's next number
      module _ (last : suc w'.answers ≡ commit_number (suc w)) (unsigned : k.signed ≡ false) where
        signs_now : signs_next k w' ≡ true
        unfolding signs_next
        signs_now =
            let e = ap (λ (v : ℕ). commit_number (suc v)) ok.version in
            rw (eq-eqb (suc w'.answers) (commit_number (suc k.version)) (omega arith)) (ap not unsigned)

        signed-state : goes_on s σ m.key w'
            ≡ signed_state σ (suc w'.answers) (commit_signature c.log (suc w) m.key k.number w'.randomizer σ.path)
        unfolding goes_on signing write_signature
        signed-state =
            let number = suc k.number in
            let progress = handing (suc k.version) k.progress (suc w'.answers) in
            rw signs_now
            (ap₂ (λ (b : Bool) (v : ℕ).
            state_of (record { version = k.version; digest = k.digest; number = number; opened = true; signed = b; progress = progress }) σ.path
            (commit_signature c.log (suc v) m.key k.number w'.randomizer σ.path)) (or-true k.signed) ok.version)

        -- the signature is made, and the Commit goes out
        pub write_signs : write_taken (settings_in c a) σ m w' given
            ≡ write_asks (settings_in c a)
            (signed_state σ (suc w'.answers) (commit_signature c.log (suc w) m.key k.number w'.randomizer σ.path)) m
            (opened_at w' (suc w'.answers))
        write_signs = next-goes ∙ ap (λ (τ : State). write_asks s τ m later) signed-state
