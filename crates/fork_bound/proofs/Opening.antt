-- A Write starts with an Update, or resumes the open write; its Update goes on; and when that has ended, the write opens.
use mathlib.Core.Path.{◌≡◌, refl, sym, ◌∙◌, subst}
use mathlib.Core.Bool.{true, false}
use mathlib.Core.List.Memᴰ
use mathlib.Core.List.{List, ◌++◌, map}
use Prim.Native.Nat.{ℕ, suc, ◌≤◌}
use native.Mathlib.Omega.{arith}
use lib.Dec.{eqb}
use lib.ListN.{length}
use borrow.Author.Tests.{eqb-true, eqb-false}
use Rattle.tree.specs.Bytes.{written}
use Rattle.tree.specs.Level.{lg}
use Rattle.tree.specs.Expr.{Expr, entry_text, strings}
use Rattle.tree.specs.Cover.{cover_digest, cover_path}
use Rattle.tree.specs.Setup.{Settings, first_code}
use Rattle.tree.proofs.Cases.{and-true, not_both}
use Rattle.tree.proofs.CheckLists.{check-passes}
use Rattle.tree.proofs.Levels.{lg_below}
use Rattle.tree.proofs.Agree.{AllIn, Sized}
use Rattle.tree.proofs.Cuts.{cover-path-sized, cover-digest-sized}
use Rattle.tree.proofs.Paths.{path-top}
use Rattle.user.specs.declared.call.Kept.{Kept}
use Rattle.user.specs.Asking.{user_setup_checks, request_room, refused, asking}
use Rattle.user.specs.Outcome.{State, Lent, with_held, Outcome}
use Rattle.user_update.specs.declared.call.Update.{Update}
use Rattle.user_update.specs.Update.{fresh_update, update_ended, arrived}
use Rattle.user_write.specs.declared.call.Write.{Write}
use Rattle.user_write.specs.Write.{with_update, opened_at, own_leaf, path_digest, held_entry, write_asks, write_waits, write_room, write_start_checks, fresh_write, write_started, write_updates, opening}
use Rattle.user.proofs.Passed.{setup-passed, by_cond}
use Rattle.user_update.proofs.UpdateRules.{Taken, by_goes, ended_with, going_on, fresh_waits}
use Rattle.user_update.proofs.UpdateAnswers.{arrives_at}
use Rattle.user_write.proofs.WriteAnswers.{by_updating}
use Rattle.user_write.proofs.WriteRules.{by_opening, opened_left, commit_late}
use Rattle.user_calls.specs.Calls.{writing, as_call}
use Rattle.whole_run.specs.World.{settings_for, hashed, User, returned, view_after, new_reads, after, cover_strings, record_accepted, opening_hashed, write_events}
use Rattle.whole_run.proofs.Requests.{laid-length, entry-sizes, reserve-first}
use Rattle.fork_bound.proofs.Noted.{Whole, Hashed, Within, within-left, within_right, all_hashed}
use Rattle.fork_bound.proofs.States.{open_position, UpdateOk, WriteOk, UserOk}
use Rattle.fork_bound.proofs.UpdateSteps.{next_update, collected, view-left, pulls, fresh_ok, next_ok, arrives}
use Rattle.fork_bound.proofs.WriteSteps.{shut_events, WriteKeeps, write-asks_ok}

module _ (W : Whole) (own : ℕ) (u : User) (ok : UserOk W own u) where
  abbrev s : Settings
  s = settings_for W.group own

  abbrev σ : State
  σ = u.state

  abbrev v : ℕ
  v = u.state.kept.version

  abbrev n : ℕ
  n = W.group.servers

  -- a Write whose Update asks for its next answer
  waits_ok : (m : Lent) (w : Write) (c : Update) → request_room m.request ≡ true → w.opened ≡ false → w.length ≤ 1024
      → length w.randomizer ≡ 32 → UpdateOk W v c → UserOk W own (after u (as_call writing (write_waits σ w (going_on s σ m c))))
  unfolding after write_waits asking returned view_after new_reads
  waits_ok m w c room shut short random i =
      let pull = pulls W own σ m c room in
      record {
        seen = view-left _ u.view pull ∙ ok.seen;
        state = ok.state;
        call = record { short = short; random = random; waits = λ _. i; goes = λ o. not_both w.opened o shut };
        out = λ e. absurd (omega arith);
      }

  -- a Write that starts
  pub write-started_ok : (m : Lent) (entry randomizer : List ℕ) → length randomizer ≡ 32 → (write_started s σ m entry randomizer).step.code ≡ 0
      → UserOk W own (after u (as_call writing (write_started s σ m entry randomizer)))
  unfolding write_started write_start_checks user_setup_checks write_room fresh_write refused
  write-started_ok m entry randomizer random =
      let k = σ.kept in
      let code = first_code (write_start_checks s σ m entry) in
      let w = fresh_write k entry randomizer in
      let m' = with_held m (written m.held 0 entry) in
      let Keeps : Outcome Write → Type 0 = λ o. o.step.code ≡ 0 → UserOk W own (after u (as_call writing o)) in
      by_cond Keeps (eqb code 0) _ _
      (λ e.
      let first = setup-passed s k (write_room s m.key m.request) _ (eqb-true code 0 e) in
      let same = check-passes 18 _ _ (λ z. omega arith) first.2 in
      let short = (entry-sizes entry (check-passes 19 _ _ (λ z. omega arith) same.1).0).1 in
      let room = (and-true (request_room m.request) _ first.1).0 in
      let two = first.0.two in
      by_cond Keeps k.opened _ _
      (λ o _.
      write-asks_ok W own u σ m' w room o short random ok.state (λ _. ok.seen)
      (λ h. absurd (omega (arith, commit_late (open_position σ)))))
      (λ c.
      by_goes s σ m' fresh_update (λ o. Keeps (write_waits σ w o)) (λ y. not_both _ y (fresh_waits n v (omega arith)))
      (λ _ _. waits_ok m' w fresh_update room c short random (fresh_ok W own v two))))
      (λ e z. absurd (eqb-false code 0 e z))

  -- an answer that the Update of a Write takes in
  module _ (w : Write) (a : List ℕ) (i : WriteOk W own u.state u.sent w) (shut : w.opened ≡ false) where
    abbrev Keeps : Outcome Write → Type 0
    Keeps o = WriteKeeps W own u w a o

    abbrev next : Update
    next = next_update W w.update a

    abbrev m : Lent
    m = collected W w.update a u.lent

    module _ (t : Taken s u.state u.lent w.update a) where
      -- whether it asks for more or has ended
      update-goes : (o : Outcome Write) → o.call.update ≡ next → Within W (write_events s σ.kept w a o) → UpdateOk W v next
      update-goes o e f =
          let g = subst (Within W) (shut_events s σ.kept w a o shut) f in
          let r = within_right W (opening_hashed s v w o) (record_accepted s w.update o.call.update a) g in
          next_ok W own σ u.lent w.update a t (i.waits shut) (rw e at r)

      goes_ok : Keeps (write_waits σ w (going_on s σ m next))
      unfolding write_waits
      goes_ok z f =
          waits_ok m w next t.room shut i.short i.random (update-goes (write_waits σ w (going_on s σ m next)) refl f)

      -- the strings of the cover and of the path
      opening-hashed : (p : ℕ) (hs : List ℕ) (e : Expr) → Sized e
          → Within W (map hashed (cover_strings v p hs ++ strings (cover_path v p hs e (lg (suc p)))))
          → AllIn (Hashed W) (cover_digest v p hs) × AllIn (Hashed W) (cover_path v p hs e (lg (suc p)))
      unfolding cover_strings
      opening-hashed p hs e z f = (
        all_hashed W (cover_digest v p hs) _ (cover-digest-sized v p hs)
            (λ t m. Memᴰ.append_left (strings (cover_path v p hs e (lg (suc p)))) (Memᴰ.append_right (strings (cover_digest v v hs)) m)) f,
        all_hashed W (cover_path v p hs e (lg (suc p))) _ (cover-path-sized v p hs e (lg (suc p)) z)
            (λ t m. Memᴰ.append_right (strings (cover_digest v v hs) ++ strings (cover_digest v p hs)) m) f,
      )

      abbrev K : Kept
      K = arrived u.state.kept next

      abbrev entry_leaf : Expr
      entry_leaf = own_leaf s (held_entry w u.lent.held)

      leaf-sized : Sized entry_leaf
      unfolding own_leaf Sized
      leaf-sized = tt

      abbrev left : Outcome Write
      left = opened_left s σ u.lent w (ended_with σ m next) a

      hashed-now : Within W (opening_hashed s v w left)
          → AllIn (Hashed W) (cover_digest v K.version m.hashes) × AllIn (Hashed W) (cover_path v K.version m.hashes entry_leaf (lg (suc K.version)))
      unfolding opening_hashed write_asks asking opening held_entry
      hashed-now f = opening-hashed K.version m.hashes entry_leaf leaf-sized f

      opens_ok : update_ended n v next ≡ true → suc K.version ≤ 1048576 → Keeps left
      unfolding opening own_leaf path_digest write_asks
      opens_ok ends within z f =
          let q = update-goes left refl f in
          let version = arrives_at s σ u.lent w.update a t ends in
          let x = hashed-now (within-left W (opening_hashed s v w left) _ (subst (Within W) (shut_events s σ.kept w a left shut) f)) in
          let r = arrives W own σ u.lent w.update a t (i.waits shut) q ends (rw version at x.0) u.reads ok.state in
          let up : v ≤ K.version = omega (arith, r.above, version) in
          let b : lg (suc K.version) ≤ 20 = lg_below (suc K.version) 20 (omega arith) in
          let p = ok.state.room in
          write-asks_ok W own u _ m (opened_at (with_update w next) 0) t.room refl i.short i.random
          (record {
            small = omega arith;
            room = laid-length v K.version m.hashes entry_leaf σ.path ∙ ok.state.room;
            sized = ok.state.sized;
            kept = r.state.kept;
            open_write = λ _. record {
              link = record {
                v = v;
                hashes = m.hashes;
                text = entry_text own (held_entry w u.lent.held);
                v_in_w = up;
                old = λ y. rw version (r.given (rw version at y));
                new = sym (path-top v K.version m.hashes entry_leaf σ.path up leaf-sized (omega arith));
                old_in = λ _. x.0;
                new_in = x.1;
              };
              done = λ o. not_both false o refl;
            };
            reads = r.state.reads;
          })
          (λ y. absurd (y (reserve-first (suc K.version)))) (λ h. absurd (omega (arith, commit_late (suc K.version))))

    pub write_updates_ok : Keeps (write_updates s σ u.lent w a)
    unfolding refused
    write_updates_ok =
        by_updating s σ u.lent w a Keeps (λ code n z. absurd (n z))
        (λ t ends. by_opening s σ u.lent w (ended_with σ m next) a Keeps (λ n z. absurd (n z)) (λ h. opens_ok t ends h)) (λ t _. goes_ok t)
