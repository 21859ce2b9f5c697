-- The steps of an open write keep what holds of its user.
use mathlib.Core.Path.{◌≡◌, refl, ap, ◌∙◌, subst}
use mathlib.Core.Bool.{Bool, true, false, cond, not, ◌||◌}
use mathlib.Core.List.Memᴰ
use mathlib.Core.List.{List, ◌++◌}
use Prim.Native.Nat.{ℕ, suc, ◌-◌, ◌≤◌}
use native.Mathlib.Omega.{arith}
use lib.Dec.{eqb}
use lib.ListN.{length}
use borrow.Author.Tests.{eq-eqb, eqb-true, leb-true}
use Rattle.tree.specs.Message.{request, request_kind, request_position, signed_text}
use Rattle.tree.specs.Setup.{Settings, first_code}
use Rattle.tree.proofs.Cases.{by_eqb, not_both}
use Rattle.tree.proofs.CheckLists.{check-passes}
use Rattle.user_list.specs.Users.{least_request, longest_signature}
use Rattle.user.specs.Asking.{user_setup_checks, request_room, of_node, refused, done, asking}
use Rattle.user.specs.declared.call.Kept.{Kept}
use Rattle.user.specs.Outcome.{State, with_kept, Lent, Outcome, nothing, ending}
use Rattle.user_write.specs.declared.call.Write.{Write}
use Rattle.user_write.specs.Write.{opened_at, commit_number, path_digest, write_kind, write_want, write_body, held_entry, write_asks}
use Rattle.user_write.specs.Write.{write_room, signs_next, write_checks, write_signature, signing, committed, goes_on, write_goes}
use Rattle.user.proofs.Passed.{setup-passed, answer-passed, or_cases, by_cond}
use Rattle.user_write.proofs.WriteRules.{signs_last, Going, by_going, reserve-sent}
use Rattle.user_calls.specs.Calls.{writing, as_call}
use Rattle.whole_run.specs.World.{settings_for, Event, signed, Sent, User, sent_by, returned, view_sent, view_after, new_reads, after, record_accepted, opening_hashed, write_signed, write_events}
use Rattle.whole_run.proofs.Requests.{sent-kind, sent-position, write-kind, body_short, room-passed, signature-sized}
use Rattle.fork_bound.proofs.Noted.{Whole, Within}
use Rattle.fork_bound.proofs.Histories.{Signs, Signed}
use Rattle.fork_bound.proofs.States.{open_position, open_digest, StateOk, WriteOk, UserOk, reads_commit}

-- The view after a request of a write for v + 1: a Reserve sets it to v, and it was there before any other.
view-set : (x : Sent) (view v : ℕ) → request_position x.bytes ≡ suc v → ((request_kind x.bytes ≡ 5 → ⊥) → view ≡ v) → view_sent x view ≡ v
unfolding view_sent
view-set x view v e f =
    by_eqb (λ t. cond t (request_position x.bytes - 1) view ≡ v) (request_kind x.bytes) 5 (λ i. omega arith) f

-- what is noted of an answer that an open Write takes in, and one that is not open yet
module _ (s : Settings) (k : Kept) (w : Write) (a : List ℕ) (o : Outcome Write) where
  abbrev pub before_open : List Event
  before_open = opening_hashed s k.version w o ++ record_accepted s w.update o.call.update a

  abbrev once_open : List Event
  once_open = write_signed s k w o.state.path

  open_events : w.opened ≡ true → write_events s k w a o ≡ once_open
  unfolding write_events
  open_events = ap (λ t. cond t once_open before_open)

  pub shut_events : w.opened ≡ false → write_events s k w a o ≡ before_open
  unfolding write_events
  shut_events = ap (λ t. cond t once_open before_open)

module _ (W : Whole) (own : ℕ) (u : User) where
  abbrev s : Settings
  s = settings_for W.group own

  -- an answer that a Write takes with code 0 keeps what holds of the user
  abbrev pub WriteKeeps : Write → List ℕ → Outcome Write → Type 0
  WriteKeeps w a o =
      o.step.code ≡ 0 → Within W (write_events s u.state.kept w a o) → UserOk W own (after u (as_call writing o))

  -- an open write, with the state σ, hands out its next request
  pub write-asks_ok : (σ : State) (m : Lent) (w : Write) → request_room m.request ≡ true → w.opened ≡ true → w.length ≤ 1024
      → length w.randomizer ≡ 32 → StateOk W own σ u.reads
      → ((write_kind (open_position σ) w.answers ≡ 5 → ⊥) → u.view ≡ σ.kept.version)
      → (commit_number (open_position σ) ≤ w.answers → σ.kept.signed ≡ true)
      → UserOk W own (after u (as_call writing (write_asks s σ m w)))
  unfolding after write_asks asking sent_by returned view_after new_reads write_want of_node request_room
  write-asks_ok σ m w room opened short random i seen signs =
      let p = open_position σ in
      let small = i.small in
      let want = write_want s.servers p w.answers in
      let body = write_body p w.answers σ.path (held_entry w m.held) σ.signature in
      let r = leb-true least_request (length m.request) room in
      let b = body_short p w.answers w σ m.held short i.sized in
      let at_p = sent-position s want body m.request W.named (omega arith) (omega arith) in
      let of-kind = sent-kind s want body m.request W.named (omega arith) (omega (arith, write-kind p w.answers)) in
      record {
        seen = view-set _ _ _ at_p (λ e. seen (λ i. e (of-kind ∙ i)));
        state = i;
        call = record {
          short = short;
          random = random;
          waits = λ c. not_both w.opened opened c;
          goes = λ _. record { signs = signs; position = at_p; asks = λ h. reserve-sent s σ m w W.named room h };
        };
        out = λ e. absurd (omega (arith, of-kind, write-kind p w.answers));
      }

  -- an open write takes in an answer
  module _ (ok : UserOk W own u) (w : Write) (a : List ℕ) (i : WriteOk W own u.state u.sent w) (is_open : w.opened ≡ true) where
    abbrev σ : State
    σ = u.state

    abbrev p : ℕ
    p = open_position u.state

    abbrev δ : List ℕ
    δ = open_digest u.state

    module _ (g : Going s u.state u.lent w a) where
      -- what stands behind the text that is signed now
      signed-now : Signed W own (signed_text s.log p δ)
      signed-now =
          record {
            w = σ.kept.version;
            τ = σ.kept.digest;
            δ = δ;
            is = refl;
            before = ok.state.kept;
            link = (ok.state.open_write g.opened).link;
            listed = g.range.own;
            within = g.range.opened g.opened;
          }

      signed-then : commit_number p ≤ suc w.answers → (w.answers ≡ commit_number p → ⊥) → σ.kept.signed || signs_next σ.kept w ≡ true
      unfolding signs_next
      signed-then h n =
          let x = g.number in
          let e : suc w.answers ≡ commit_number p = omega arith in
          rw (eq-eqb (suc w.answers) (commit_number p) e) (either_way σ.kept.signed)
        where
          either_way : (b : Bool) → b || not b ≡ true
          either_way true = refl
          either_way false = refl

    -- 21 leaves the key its tree, 17 a number
    signature-stays-sized : first_code (write_checks s σ.kept u.lent w a) ≡ 0 → length (write_signature s σ u.lent.key w) ≡ longest_signature
    unfolding write_checks user_setup_checks
    signature-stays-sized z =
        let first = setup-passed s σ.kept (write_room s u.lent.key u.lent.request) _ z in
        let number = check-passes 17 _ _ (λ z. omega arith) (answer-passed _ _ _ a _ first.2).rest in
        signature-sized s σ u.lent.key w ok.state.sized i.random (room-passed s u.lent.key u.lent.request first.1).1 number.0

    -- the Commit was accepted
    committed_ok : (g : Going s σ u.lent w a) → w.answers ≡ commit_number p
        → WriteKeeps w a (ending nothing (with_kept σ (committed σ.kept σ.path)) u.lent (opened_at w (suc w.answers)))
    unfolding after done committed returned sent_by view_sent view_after new_reads
    committed_ok g e _ _ =
        let state = ok.state in
        let open_write = state.open_write g.opened in
        let goes = i.goes is_open in
        let signs = open_write.done (goes.signs (omega arith)) in
        record {
          seen = goes.position;
          state = record {
            small = g.range.opened g.opened;
            room = state.room;
            sized = state.sized;
            kept = λ _ _. (own, signs.signs);
            open_write = λ o. not_both false o refl;
            reads = λ K.
                reads_commit W K own σ.kept.version σ.kept.digest δ u.reads state.small open_write.link signs state.kept
                (state.reads K);
          };
          call = tt;
          out = λ e. absurd (omega arith);
        }

    -- the next request goes out
    abbrev next_left : Outcome Write
    next_left = write_asks s (goes_on s σ u.lent.key w) u.lent (opened_at w (suc w.answers))

    signs_now : signs_next σ.kept w ≡ true → Within W (write_events s σ.kept w a next_left) → Signs W own p δ
    unfolding write_signed write_asks goes_on
    signs_now e f = subst (Within W) (open_events s σ.kept w a next_left is_open) f (signed own (signed_text s.log p δ)) (rw e (Memᴰ.head refl))

    goes-on_ok : first_code (write_checks s σ.kept u.lent w a) ≡ 0 → (g : Going s σ u.lent w a) → (w.answers ≡ commit_number p → ⊥) → WriteKeeps w a next_left
    unfolding goes_on signing
    goes-on_ok z g ne _ f =
        let state = ok.state in
        let open_write = state.open_write g.opened in
        write-asks_ok (goes_on s σ u.lent.key w) u.lent (opened_at w (suc w.answers)) g.room refl i.short i.random
        (record {
          small = state.small;
          room = state.room;
          sized = signature-stays-sized z;
          kept = state.kept;
          open_write = λ _. record {
            link = open_write.link;
            done = λ t. or_cases σ.kept.signed (signs_next σ.kept w) t (λ y. open_write.done y)
                (λ y. record { listed = g.range.own; within = g.range.opened g.opened; signs = signs_now y f });
          };
          reads = state.reads;
        })
        (λ _. ok.seen) (λ h. signed-then g h ne)

    passed : (write_goes s σ u.lent w a).step.code ≡ 0 → first_code (write_checks s σ.kept u.lent w a) ≡ 0
    unfolding write_goes refused
    passed =
        let code = first_code (write_checks s σ.kept u.lent w a) in
        by_cond (λ (o : Outcome Write). o.step.code ≡ 0 → code ≡ 0) (eqb code 0) _ _ (λ e _. eqb-true code 0 e) (λ e z. z)

    pub write-goes_ok : WriteKeeps w a (write_goes s σ u.lent w a)
    unfolding refused
    write-goes_ok z = by_going s σ u.lent w a (WriteKeeps w a) (λ n z. absurd (n z)) committed_ok (goes-on_ok (passed z)) z

    -- a signature is made only of the digest of the user's own path
    abbrev SignsRightly : Outcome Write → Type 0
    SignsRightly o =
        o.step.code ≡ 0 → signs_next σ.kept w ≡ true → Signed W own (signed_text s.log p (path_digest p o.state.path))

    pub signs_rightly : SignsRightly (write_goes s σ u.lent w a)
    unfolding refused write_asks goes_on
    signs_rightly =
        by_going s σ u.lent w a SignsRightly (λ n z. absurd (n z))
        (λ g e _ n. let x = signs_last σ.kept w n in absurd (omega arith)) (λ g _ _ n. signed-now g)
