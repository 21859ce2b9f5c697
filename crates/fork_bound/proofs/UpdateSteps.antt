-- The steps of an Update keep what holds of its user.
use mathlib.Core.Path.{◌≡◌, refl, sym, ◌∙◌}
use mathlib.Core.Bool.{true, cond}
use mathlib.Core.List.Memᴰ
use mathlib.Core.List.{List, [], ◌++◌, map}
use Prim.Native.Nat.{ℕ, ◌+◌, ◌≤◌, ◌<◌}
use native.Mathlib.Omega.{arith}
use lib.Dec.{eqb}
use lib.ListN.{length}
use borrow.Author.Tests.{eq-eqb, ne_eqb, eqb-true, eqb-false, leb-true}
use Rattle.tree.specs.Bytes.{number_at}
use Rattle.tree.specs.Expr.{value, strings}
use Rattle.tree.specs.Cover.{cover_digest}
use Rattle.tree.specs.Message.{request_kind, answer_body}
use Rattle.tree.specs.Setup.{Settings, first_code}
use Rattle.tree.proofs.Cases.{cases_eq, cases_le, positive, not_both}
use Rattle.tree.proofs.Agree.{AllIn}
use Rattle.tree.proofs.Cuts.{cover-digest-sized}
use Rattle.tree.proofs.Tiles.{cover-some}
use Rattle.user_list.specs.Users.{least_request}
use Rattle.user.specs.declared.call.Kept.{Kept}
use Rattle.user.specs.Asking.{request_room, refused, done, asking}
use Rattle.user.specs.Outcome.{State, with_kept, Lent, with_hashes, Outcome}
use Rattle.user_update.specs.declared.call.Update.{Update}
use Rattle.user_update.specs.Update.{fresh_update, update_want, update_next, update_hashes, update_ended, update_answers, update_setup, update_started, update_taken, arrived}
use Rattle.user_update.proofs.UpdateRules.{Taken, by_taken, by_goes, ended_with, going_on, next-answers, next-above, later-position}
use Rattle.user_update.proofs.UpdateRules.{later-digest, status_small, counted, last_hash, own-given, new-given, answers-least}
use Rattle.user_update.proofs.UpdateRules.{fresh_waits}
use Rattle.user_update.proofs.UpdateAnswers.{arrives_at}
use Rattle.user.proofs.Passed.{setup-passed, by_cond}
use Rattle.user_calls.specs.Calls.{updating, as_call}
use Rattle.whole_run.specs.World.{settings_for, Event, hashed, Reading, Sent, User, returned, sent_by, view_sent, view_after, new_reads, after, cover_strings, record_accepted, update_events}
use Rattle.whole_run.proofs.Requests.{sent-kind, update-kind}
use Rattle.fork_bound.specs.Claim.{NoneForged}
use Rattle.fork_bound.proofs.Noted.{Whole, Hashed, Within, within-left, within_right, all_hashed}
use Rattle.fork_bound.proofs.Histories.{SignedAt}
use Rattle.fork_bound.proofs.States.{UpdateOk, StateOk, UserOk, reads_grow}

-- a request that is no Reserve leaves the view
pub view-left : (x : Sent) (view : ℕ) → request_kind x.bytes < 5 → view_sent x view ≡ view
unfolding view_sent
view-left x view h = rw (ne_eqb (request_kind x.bytes) 5 (λ e. omega arith))

-- what is noted at the end of an Update: the strings of the cover's two digests
abbrev cover_noted : ℕ → Outcome Update → List Event
cover_noted v o = cond o.step.ended (map hashed (cover_strings v o.call.position o.lent.hashes)) []

-- an Update after an answer, and the memory with the hashes that it has collected then
module _ (W : Whole) (c : Update) (a : List ℕ) where
  abbrev pub next_update : Update
  next_update = update_next W.group.servers c (answer_body a)

  abbrev pub collected : Lent → Lent
  collected m = with_hashes m (update_hashes W.group.servers c (answer_body a) m.hashes)

module _ (W : Whole) (own : ℕ) where
  abbrev s : Settings
  s = settings_for W.group own

  abbrev n : ℕ
  n = W.group.servers

  -- what an Update hands out is no Reserve
  pub pulls : (σ : State) (m : Lent) (c : Update) → request_room m.request ≡ true
      → request_kind (sent_by (going_on s σ m c).step (going_on s σ m c).lent.request).bytes < 5
  unfolding asking sent_by request_room
  pulls σ m c room =
      let small = update-kind n σ.kept.version c in
      let r = leb-true least_request (length m.request) room in
      let sent = sent-kind s (update_want n σ.kept.version c) [] m.request W.named (omega arith) (omega arith) in
      omega arith

  -- a fresh Update: nothing is known yet
  pub fresh_ok : (v : ℕ) → 2 ≤ n → UpdateOk W v fresh_update
  unfolding fresh_update
  fresh_ok v two = record { small = omega arith; above = λ h. absurd (omega arith); told = λ h. absurd (omega arith) }

  -- the Record that was accepted
  record_signed : (c next : Update) (a : List ℕ) → Within W (record_accepted s c next a) → c.answers ≡ n → SignedAt W c.position next.digest
  unfolding record_accepted NoneForged
  record_signed c next a h e owned =
      let m = rw (eq-eqb c.answers n e) at h in
      (number_at 2 (answer_body a) 0, owned _ _ (m _ (Memᴰ.head refl)))

  -- an answer that an Update took in
  module _ (σ : State) (m : Lent) (c : Update) (a : List ℕ) (t : Taken s σ m c a) (ok : UpdateOk W σ.kept.version c) where
    abbrev next : Update
    next = next_update W c a

    abbrev hashes : List ℕ
    hashes = (collected W c a m).hashes

    abbrev v : ℕ
    v = σ.kept.version

    pub next_ok : Within W (record_accepted s c next a) → UpdateOk W v next
    next_ok f =
        let i = next-answers n c (answer_body a) in
        let up = next-above s σ.kept c hashes (answer_body a) t.checks ok.above in
        cases_le n c.answers
        (λ h.
        let p = later-position n c (answer_body a) h in
        record {
          small = rw p ok.small;
          above = up;
          told = λ _. rw p (cases_eq c.answers n (record_signed c next a f)
              (λ e. let d = later-digest s σ m c a t (omega arith) in rw d (ok.told (omega arith))));
        })
        (λ h. record { small = status_small s σ m c a t ok.small h; above = up; told = λ l. absurd (omega arith) })

    -- the end of an Update: what is kept then, which the cover has given
    pub record Arrived (k : Kept) (rs : List Reading) : Type 0 where
      pub above : v ≤ next.position
      pub given : 0 < next.position → value (cover_digest v next.position hashes) ≡ k.digest
      pub state : StateOk W own (with_kept σ k) rs

    pub arrives : UpdateOk W v next → update_ended n v next ≡ true → AllIn (Hashed W) (cover_digest v next.position hashes)
        → (rs : List Reading) → StateOk W own σ rs → Arrived (arrived σ.kept next) rs
    unfolding arrived update_ended
    arrives q e x rs i =
        let b = leb-true (update_answers n v next.position) next.answers e in
        let h = q.above (omega (arith, answers-least n v next.position)) in
        cases_eq next.position 0
        (λ z.
        rw (eq-eqb next.position 0 z) (record { above = h; given = λ p. absurd (omega arith); state = i }))
        (λ z.
        let p = positive next.position z in
        let k = next-answers n c (answer_body a) in
        let j = counted n v next e p in
        let l = last_hash s σ m c a t (omega (arith, cover-some v next.position h p)) e in
        let new = new-given v next hashes l.1 in
        rw (ne_eqb next.position 0 z)
        (record {
          above = h;
          given = λ _. new;
          state = record {
            small = q.small;
            room = i.room;
            sized = i.sized;
            kept = λ _. q.told (omega arith);
            open_write = λ o. not_both σ.kept.opened o t.shut;
            reads = λ K. reads_grow W K v next.position σ.kept.digest next.digest hashes rs h p x
                (own-given σ.kept hashes l.0) new (i.reads K);
          };
        }))

  -- the digest of p* over the cover, hashed
  cover-hashed : (v p : ℕ) (hs : List ℕ) → Within W (map hashed (cover_strings v p hs)) → AllIn (Hashed W) (cover_digest v p hs)
  unfolding cover_strings
  cover-hashed v p hs f =
      all_hashed W (cover_digest v p hs) (strings (cover_digest v v hs) ++ strings (cover_digest v p hs)) (cover-digest-sized v p hs)
      (λ t m. Memᴰ.append_right (strings (cover_digest v v hs)) m) f

  module _ (u : User) (ok : UserOk W own u) where
    -- an Update that asks for its next answer
    pub update-asks_ok : (m : Lent) (c : Update) → request_room m.request ≡ true → UpdateOk W u.state.kept.version c
        → UserOk W own (after u (as_call updating (going_on s u.state m c)))
    unfolding after asking returned view_after new_reads
    update-asks_ok m c room i =
        let pull = pulls u.state m c room in
        record { seen = view-left _ u.view pull ∙ ok.seen; state = ok.state; call = i; out = λ e. absurd (omega arith) }

    -- an answer that an Update takes in
    module _ (c : Update) (a : List ℕ) (i : UpdateOk W u.state.kept.version c) where
      abbrev Keeps : Outcome Update → Type 0
      Keeps o = o.step.code ≡ 0 → Within W (update_events s u.state.kept.version c a o) → UserOk W own (after u (as_call updating o))

      -- whether it asks for more or has ended
      goes_ok : Taken s u.state u.lent c a → (o : Outcome Update) → o.call ≡ next_update W c a → Within W (update_events s u.state.kept.version c a o)
          → UpdateOk W u.state.kept.version (next_update W c a)
      unfolding update_events
      goes_ok t o e f =
          let r = within_right W (cover_noted u.state.kept.version o) (record_accepted s c o.call a) f in
          next_ok u.state u.lent c a t i (rw e at r)

      ends_ok : Taken s u.state u.lent c a → update_ended n u.state.kept.version (next_update W c a) ≡ true
          → Keeps (ended_with u.state (collected W c a u.lent) (next_update W c a))
      unfolding after done returned view_after view_sent sent_by new_reads update_events
      ends_ok t e z f =
          let o = ended_with u.state (collected W c a u.lent) (next_update W c a) in
          let h = within-left W (cover_noted u.state.kept.version o) (record_accepted s c o.call a) f in
          let x = arrives u.state u.lent c a t i (goes_ok t o refl f) e (cover-hashed _ _ _ h) u.reads ok.state in
          record { seen = sym (arrives_at s u.state u.lent c a t e); state = x.state; call = tt; out = λ e. absurd (omega arith) }

      pub update-taken_ok : Keeps (update_taken s u.state u.lent c a)
      unfolding refused
      update-taken_ok =
          let m = collected W c a u.lent in
          by_taken s u.state u.lent c a Keeps (λ n z. absurd (n z))
          (λ t.
          by_goes s u.state m (next_update W c a) Keeps (λ e. ends_ok t e)
          (λ _ _ f. update-asks_ok m (next_update W c a) t.room (goes_ok t (going_on s u.state m (next_update W c a)) refl f)))

    -- an Update that starts asks for the first Status
    pub update-started_ok : (m : Lent) → (update_started s u.state m).step.code ≡ 0 → UserOk W own (after u (as_call updating (update_started s u.state m)))
    unfolding update_started update_setup refused
    update-started_ok m =
        let k = u.state.kept in
        let Keeps : Outcome Update → Type 0 = λ o. o.step.code ≡ 0 → UserOk W own (after u (as_call updating o)) in
        by_cond Keeps (eqb (first_code (update_setup s k m.request)) 0) _ _
        (λ e.
        let first = setup-passed s k (request_room m.request) _ (eqb-true _ 0 e) in
        let two = first.0.two in
        by_goes s u.state m fresh_update Keeps (λ y. not_both _ y (fresh_waits n k.version (omega arith)))
        (λ _ _. update-asks_ok m fresh_update first.1 (fresh_ok k.version two)))
        (λ e z. absurd (eqb-false _ 0 e z))
