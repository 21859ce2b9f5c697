-- A valid Write of an honest run starts: with its Update where nothing is open, and at the first Reserve where its write is open.
use mathlib.Core.Path.{◌≡◌, refl, ap, sym, ◌∙◌, subst}
use mathlib.Core.Bool.{true, false}
use mathlib.Core.List.{List}
use Prim.Native.Nat.{ℕ, suc, ◌≤◌, ◌<◌}
use native.Mathlib.Omega.{arith}
use native.Mathlib.Nat.{zero-add}
use lib.ListN.{length}
use Rattle.sha256.proofs.Cases.{by_bool}
use Rattle.tree.proofs.Cases.{not_both}
use Rattle.user_list.specs.Users.{longest_tree}
use Rattle.user.specs.Asking.{asking}
use Rattle.user.specs.Outcome.{Key, Lent, Outcome}
use Rattle.user_update.specs.Update.{fresh_update, update_answers}
use Rattle.user_update.proofs.UpdateRules.{going_on}
use Rattle.user_write.specs.declared.call.Write.{Write}
use Rattle.user_write.specs.Write.{with_update, fresh_write, write_waits, write_started, write_answers}
use Rattle.user_write.proofs.Writes.{commit_positive}
use Rattle.user_calls.specs.Calls.{writing, start_write, as_call, stepped}
use Rattle.whole_run.specs.World.{User, returned, new_reads, after}
use Rattle.whole_run.proofs.Requests.{entry-sizes}
use Rattle.honest_run.specs.Network.{HonestSetup, InRange, settings_in, Run, entries_of, Network}
use Rattle.honest_run.specs.Claim.{ValidWrite, ValidInput, ValidCall, answers_of, count_of}
use Rattle.honest_run.proofs.Invariant.{OpenOk}
use Rattle.honest_run.proofs.Frames.{memory_holds}
use Rattle.honest_run.proofs.Keys.{tree_size_lem}
use Rattle.honest_run.proofs.Answers.{Fit}
use Rattle.honest_run.proofs.Opening.{write-starts, entry-held, holding}
use Rattle.honest_run.proofs.Writes.{write-resumes}
use Rattle.honest_run.proofs.Calls.{ToOpen, WriteCall, CallOk, Between, Started, WriteMemory, memory-hands-out}
use Rattle.honest_run.proofs.OpenRequests.{AsksOpen, asks_next, asks_next_lem, asks-call}
use Rattle.honest_run.proofs.Starts.{fit_user, first_status, start-goes, first_updates}

module _ (c : HonestSetup) (range : InRange c) (r : Run Network) (a : ℕ) (m : Lent) (entry randomizer : List ℕ) (between : Between c r)
    (valid : ValidCall c r a (start_write m entry randomizer)) where
  abbrev user : User
  user = r.network.users a

  abbrev n : ℕ
  n = count_of c r a (start_write m entry randomizer)

  given : ValidWrite c r a user.state.kept m entry randomizer
  unfolding ValidInput
  given = valid.input

  fit : Fit c between.log between.w a user.state.kept
  fit = fit_user c range between.log between.w between.g a r.begun r.network valid.one valid.listed between.good

  whole : longest_tree ≤ length m.key.tree
  whole = subst (λ (k : Key). longest_tree ≤ length k.tree) (sym given.key) (tree_size_lem c a)

  abbrev fresh : Write
  fresh = fresh_write user.state.kept entry randomizer

  -- the memory with the entry in it
  memory : WriteMemory c a entry (holding m entry) fresh
  unfolding fresh_write
  memory =
      record {
        valid = memory_holds m entry given.memory;
        key = given.key;
        randomizer = given.random;
        entry-fits = given.shaped;
        held = entry-held user.state.kept entry randomizer m.held given.memory.held (entry-sizes entry given.shaped).1;
      }

  some : 0 < n
  unfolding answers_of write_answers
  some = omega arith

  -- nothing is open
  module _ (shut : user.state.kept.opened ≡ false) where
    abbrev waiting : Outcome Write
    waiting = write_waits user.state fresh (going_on (settings_in c a) user.state (holding m entry) fresh_update)

    new_is : write_started (settings_in c a) user.state m entry randomizer ≡ waiting
    new_is =
        write-starts (settings_in c a) user.state m entry randomizer fit.settings-fit fit.kept-fit
        given.memory.request whole given.shaped given.ruled shut (given.new shut).number
        ∙ ap (write_waits user.state fresh) (first_status c range a user.state (holding m entry))

    abbrev next : User
    next = after user (as_call writing waiting)

    to_open : ToOpen c between.log between.w between.g a n entry next r.network.servers (with_update fresh fresh_update)
    unfolding after write_waits answers_of update_answers fresh_update asking
    to_open =
        let z : 0 < c.servers = omega (arith, range.two) in
        let e = sym between.holds.count in
        record {
          updates = first_updates c range r a between valid.alone shut (holding m entry) memory.valid;
          answers = omega arith;
          count = zero-add _ ∙ rw (shut, e) refl;
          number = (given.new shut).number;
          position = rw between.holds.count (given.new shut).position;
          target = rw between.holds.count (given.new shut).target;
          room = λ s one few. rw between.holds.count ((given.new shut).room s one few);
        }

    new-call : WriteCall c between.log between.w between.g a n entry next r.network.servers
    unfolding after write_waits asking fresh_write returned
    new-call =
        record {
          call = with_update fresh fresh_update;
          is = refl;
          memory = memory-hands-out c a entry (holding m entry) fresh _ memory;
          before = λ _. to_open;
          open_call = λ o. not_both user.state.kept.opened o shut;
        }

    new-start : Started c r a (start_write m entry randomizer) n
    unfolding stepped CallOk write_waits asking after new_reads
    new-start =
        start-goes c r a (start_write m entry randomizer) n (as_call writing waiting) between valid.alone some (ap (as_call writing) new_is)
        refl refl refl refl (λ o. not_both user.state.kept.opened o shut) new-call

  -- its own write is open
  module _ (opened : user.state.kept.opened ≡ true) where
    ok : OpenOk c between.log between.w between.g a entry user.state
    ok =
        subst (λ (e : List ℕ). OpenOk c between.log between.w between.g a e user.state) (sym (given.resumes opened).0)
        ((between.good.users_ok a).open_ok opened)

    asks : AsksOpen c between.log between.w between.g a n entry user.state (holding m entry) fresh
    unfolding answers_of fresh_write
    asks =
        record {
          memory = memory;
          ok = ok;
          going = opened;
          opened = opened;
          arrived = omega arith;
          few = omega arith;
          unbegun = (given.resumes opened).1;
          handed = λ _. ok.progress.some;
          ready = λ e. absurd (omega (arith, commit_positive (suc between.w)));
          count = zero-add _ ∙ rw (opened, ← between.holds.count) (zero-add _);
        }

    abbrev reserving : Outcome Write
    reserving = asks_next c between.log between.w a user.state (holding m entry) fresh

    resumed_is : write_started (settings_in c a) user.state m entry randomizer ≡ reserving
    resumed_is =
        write-resumes c range between.log between.w between.g a entry user.state m opened (given.resumes opened).1 fit.kept-fit ok
        given.memory.request whole randomizer given.shaped given.ruled
        ∙ asks_next_lem c range between.log between.w between.g a n entry user.state (holding m entry) fresh asks

    resumed_start : Started c r a (start_write m entry randomizer) n
    unfolding stepped CallOk asking after new_reads entries_of
    resumed_start =
        start-goes c r a (start_write m entry randomizer) n (as_call writing reserving) between valid.alone some (ap (as_call writing) resumed_is)
        refl refl refl refl (λ o. (given.resumes o).0)
        (asks-call c range between.log between.w between.g a n entry user.state (holding m entry) fresh asks user r.network.servers)

  -- a valid Write starts, new or resumed
  pub write_start : Started c r a (start_write m entry randomizer) n
  write_start =
      by_bool (λ t. user.state.kept.opened ≡ t → Started c r a (start_write m entry randomizer) n) user.state.kept.opened
      (λ _ e. resumed_start e) (λ _ e. new-start e) refl
