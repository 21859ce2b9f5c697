-- The steps of a give-up keep what holds of its user: they change nothing but the progress of the open write, until it is closed.
use mathlib.Core.Path.{◌≡◌, refl}
use mathlib.Core.Bool.{Bool, true, false}
use mathlib.Core.List.{List}
use Prim.Native.Nat.{ℕ, suc}
use native.Mathlib.Omega.{arith}
use lib.ListN.{length}
use borrow.Author.Tests.{leb-true}
use Rattle.tree.specs.Level.{lg}
use Rattle.tree.specs.Setup.{Settings}
use Rattle.tree.proofs.Cases.{not_both}
use Rattle.tree.proofs.Pieces.{piece-length}
use Rattle.user_list.specs.Users.{least_request}
use Rattle.user.specs.declared.call.Kept.{Kept}
use Rattle.user.specs.declared.call.Progress.{Progress}
use Rattle.user.specs.Asking.{request_room, refused, done, asking}
use Rattle.user.specs.Outcome.{State, with_kept, with_progress, Lent, Outcome}
use Rattle.user_write.specs.Write.{path_digest}
use Rattle.user_give_up.specs.declared.call.GiveUp.{GiveUp}
use Rattle.user_give_up.specs.GiveUp.{give_up_want, beginning, told, closed, give_up_goes, give_up_started, give_up_taken}
use Rattle.user_give_up.proofs.GiveUpRules.{Ready, by_taken, by_started, by_goes, closed_with, asks_next}
use Rattle.user_calls.specs.Calls.{giving_up, as_call}
use Rattle.whole_run.specs.World.{settings_for, User, sent_by, returned, view_after, new_reads, after}
use Rattle.whole_run.proofs.Requests.{sent-position}
use Rattle.fork_bound.proofs.Noted.{Whole}
use Rattle.fork_bound.proofs.States.{StateOk, UserOk}

-- a write that may be given up is not signed
pub unsigned : (s : Settings) (k : Kept) (buffer : List ℕ) → Ready s k buffer → k.signed ≡ false
unsigned s k buffer r = by_mark k.signed refl
  where
    by_mark : (b : Bool) → k.signed ≡ b → b ≡ false
    by_mark true e = not_both k.progress.put ((r.range.progress r.opened).signed_put e) r.unput
    by_mark false e = refl

module _ (W : Whole) (own : ℕ) (u : User) (ok : UserOk W own u) where
  abbrev s : Settings
  s = settings_for W.group own

  abbrev σ : State
  σ = u.state

  abbrev Keeps : Outcome GiveUp → Type 0
  Keeps o = o.step.code ≡ 0 → UserOk W own (after u (as_call giving_up o))

  -- the write goes on with another progress
  state-on : (g : Progress) → StateOk W own (with_kept σ (with_progress σ.kept g)) u.reads
  state-on g =
      let i = ok.state in
      record {
        small = i.small;
        room = i.room;
        sized = i.sized;
        kept = i.kept;
        open_write = λ o. let w = i.open_write o in record { link = w.link; done = w.done };
        reads = i.reads;
      }

  asks_ok : (g : Progress) (m : Lent) → request_room m.request ≡ true → σ.kept.signed ≡ false
      → Keeps (asks_next s (with_kept σ (with_progress σ.kept g)) m)
  unfolding after asking returned view_after new_reads sent_by request_room give_up_want path_digest
  asks_ok g m room plain _ =
      let k = with_progress σ.kept g in
      let p : ℕ = suc σ.kept.version in
      let small = ok.state.small in
      let size = piece-length σ.path (lg p) in
      let long = leb-true least_request (length m.request) room in
      let at_p = sent-position s (give_up_want W.group.servers k) (path_digest p σ.path) m.request W.named (omega arith) (omega arith) in
      record { seen = ok.seen; state = state-on g; call = (at_p, plain); out = λ _. tt }

  -- the write is closed
  closed_ok : (g : Progress) (m : Lent) → Keeps (closed_with s (with_kept σ (with_progress σ.kept g)) m)
  unfolding after done returned view_after new_reads sent_by closed
  closed_ok g m _ =
      let i = ok.state in
      record {
        seen = ok.seen;
        state = record {
          small = i.small;
          room = i.room;
          sized = i.sized;
          kept = i.kept;
          open_write = λ o. not_both false o refl;
          reads = i.reads;
        };
        call = tt;
        out = λ e. absurd (omega arith);
      }

  goes_ok : (g : Progress) (m : Lent) → request_room m.request ≡ true → σ.kept.signed ≡ false
      → Keeps (give_up_goes s (with_kept σ (with_progress σ.kept g)) m)
  goes_ok g m room plain = by_goes s (with_kept σ (with_progress σ.kept g)) m Keeps (λ _. closed_ok g m) (λ _. asks_ok g m room plain)

  pub give_up_started_ok : (m : Lent) → Keeps (give_up_started s σ m)
  unfolding refused beginning
  give_up_started_ok m = by_started s σ m Keeps (λ n z. absurd (n z)) (λ r. goes_ok _ m r.room (unsigned s σ.kept m.request r))

  pub give_up_taken_ok : (c : GiveUp) (a : List ℕ) → Keeps (give_up_taken s σ u.lent c a)
  unfolding refused told
  give_up_taken_ok c a =
      by_taken s σ u.lent c a Keeps (λ n z. absurd (n z))
      (λ t. goes_ok _ u.lent t.setup.room (unsigned s σ.kept u.lent.request t.setup))
