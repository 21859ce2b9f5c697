-- An answer to an open write of an honest run: its request is accepted, the next one goes out, signed before the Commit, and the accepted
-- Commit ends the Write; a lost answer loses nothing.
use mathlib.Core.Path.{◌≡◌, refl, ap, sym, ◌∙◌, subst}
use mathlib.Core.Bool.{true, false}
use mathlib.Core.List.{List, [], ◌∷◌, ◌++◌}
use Prim.Native.Nat.{ℕ, suc, ◌+◌, ◌≤◌, max, ◌<◌}
use native.Mathlib.Omega.{arith}
use lib.ListN.{length}
use Rattle.tree.specs.Level.{lg}
use Rattle.tree.proofs.Cases.{by_bool, not_both, untrue, cases_le, cases_eq}
use Rattle.user_list.specs.Users.{longest_signature, longest_tree}
use Rattle.user.specs.Asking.{kept_fits, done}
use Rattle.user.specs.Outcome.{State, Key, Lent, with_kept, Outcome, nothing, ending}
use Rattle.user.proofs.Ranges.{ProgressInRange}
use Rattle.user_write.specs.declared.call.Write.{Write}
use Rattle.user_write.specs.Write.{commit_number, handing, write_taken, opened_at, committed, write_answers, commit_signature, write_asks}
use Rattle.user_write.proofs.Handing.{handed}
use Rattle.user_calls.specs.Calls.{Call, writing, Input, start_write, as_call, taken}
use Rattle.whole_run.specs.World.{User, sent_by, returned, after}
use Rattle.honest_run.specs.Network.{HonestSetup, InRange, settings_in, Network, arrives, Run, Written, wrote, answer_bytes, generated_key, reply, entries_of}
use Rattle.honest_run.specs.Claim.{Reaches, Serves}
use Rattle.honest_run.proofs.Invariant.{Item, ServerOk, RoomLeft, OpenOk, PutRight, servers_after, digest_of}
use Rattle.honest_run.proofs.Frames.{set_same, set_other, open_progress}
use Rattle.honest_run.proofs.Keys.{tree_size_lem}
use Rattle.honest_run.proofs.Servers.{server_commits, server_signs}
use Rattle.honest_run.proofs.Puts.{put_right}
use Rattle.honest_run.proofs.Writes.{accepts, write_commits, commit_version, commit_digest, write_continues, write_signs, handed_state, signed_state, asked_progress}
use Rattle.honest_run.proofs.Signing.{signed_item, signed_log, signs_open}
use Rattle.honest_run.proofs.Moves.{Leaves, all_reached, every_server, good_change}
use Rattle.honest_run.proofs.Exchanges.{put_comes, put_leaves}
use Rattle.honest_run.proofs.Calls.{Opened, WriteCall, begun_by, OnWay, Late, Holds, begun-entry, memory_moves, Stepped}
use Rattle.honest_run.proofs.Steps.{Ends, is-over, log-digest, holds_more, GoesOn, step-taken}
use Rattle.honest_run.proofs.OpenRequests.{AsksOpen, open_leaves, open_goes-on}
use Rattle.honest_run.proofs.Starts.{fit_user}

-- what is open stays so while its requests arrive
open_moves : (c : HonestSetup) (L : ℕ → Item) (w g h a : ℕ) (entry : List ℕ) (σ : State) → OpenOk c L w g a entry σ
    → (σ.kept.signed ≡ false → h ≤ commit_number (suc w)) → (σ.kept.progress.put ≡ false → h ≤ σ.kept.progress.levels)
    → OpenOk c L w h a entry σ
open_moves c L w g h a entry σ p few unput =
    record {
      version = p.version;
      within = p.within;
      item = p.item;
      author = p.author;
      entry = p.entry;
      path_ok = p.path_ok;
      signed = p.signed;
      unsigned = λ e. (few e, (p.unsigned e).1);
      progress = p.progress;
      unput = unput;
    }

-- and while one more is handed out
open_hands : (c : HonestSetup) (L : ℕ → Item) (w g i a : ℕ) (entry : List ℕ) (σ : State) → OpenOk c L w g a entry σ
    → ProgressInRange c.servers (suc w) σ.kept.signed (handed_state σ i).kept.progress → OpenOk c L w g a entry (handed_state σ i)
open_hands c L w g i a entry σ p progress =
    let h = handed (suc σ.kept.version) i σ.kept.progress in
    open_progress c L w g a entry σ _ p progress (λ e. omega (arith, p.unput (untrue _ (λ t. not_both _ (h.put_stays t) e)), h.stays))

module _ (c : HonestSetup) (range : InRange c) (r : Run Network) (a : ℕ) (m : Lent) (entry randomizer : List ℕ) (left : ℕ) (x : Network)
    (o : OnWay c r a (start_write m entry randomizer) (suc left) x)
    (call : WriteCall c o.log o.w o.g a (suc left) entry (x.users a) x.servers) (going : call.call.opened ≡ true)
    (one : 1 ≤ a) (last : a ≤ c.count) where
  abbrev i : Input
  i = start_write m entry randomizer

  abbrev who : User
  who = x.users a

  abbrev σ : State
  σ = who.state

  abbrev now : Write
  now = call.call

  abbrev j : ℕ
  j = now.answers

  -- how many requests have arrived then, and the call
  abbrev g' : ℕ
  g' = max o.g (suc j)

  abbrev later : Write
  later = opened_at now (suc j)

  on : Opened c o.log o.w o.g a (suc left) who now
  on = call.open_call going

  ok : OpenOk c o.log o.w o.g a entry σ
  ok =
      subst (λ (e : List ℕ). OpenOk c o.log o.w o.g a e σ) (begun-entry r a m entry randomizer)
      ((o.good.users_ok a).open_ok on.opened)

  all_ok : (s : ℕ) → 1 ≤ s → s ≤ c.servers → ServerOk c o.log o.w o.g s (x.servers s)
  all_ok = every_server c o.log o.w o.g a (begun_by r a i) x o.good o.alone (λ _. on.unbegun)

  put : PutRight c o.log o.w o.g j x.servers
  put =
      put_right c range o.log o.w o.g j x.servers ok.within ok.item on.arrived on.few
      (λ e. (ok.signed (on.signed e)).1) all_ok (o.good.room_ok a on.opened)

  -- the answer is the acceptance
  abbrev given : List ℕ
  given = accepts c.servers (suc o.w) j

  comes : answer_bytes (reply c x who.sent) ≡ given
  comes = put_comes c o.log o.w o.g j x put a ok.author on.sent

  -- the servers then
  left_so : (s : ℕ) → (arrives c x a).servers s ≡ servers_after c o.log o.w j x.servers s
  left_so = put_leaves c o.log o.w o.g j x put a ok.author on.sent

  -- are as one request more leaves them
  pub servers : (s : ℕ) → 1 ≤ s → s ≤ c.servers → ServerOk c o.log o.w (max o.g (suc call.call.answers)) s ((arrives c x a).servers s)
  servers s low high = subst (ServerOk c o.log o.w g' s) (sym (left_so s)) (put.all_ok s low high)

  room : (s : ℕ) → 1 ≤ s → s ≤ c.servers → RoomLeft c o.log o.w g' s ((arrives c x a).servers s)
  room s low high = subst (RoomLeft c o.log o.w g' s) (sym (left_so s)) (put.room s low high)

  -- what the Write needs to take it
  in_range_lem : kept_fits (settings_in c a) σ.kept ≡ true
  in_range_lem = (fit_user c range o.log o.w o.g a (begun_by r a i) x one last o.good).kept-fit

  whole : longest_tree ≤ length who.lent.key.tree
  whole = subst (λ (k : Key). longest_tree ≤ length k.tree) (sym call.memory.key) (tree_size_lem c a)

  digest-now : 0 < o.w → σ.kept.digest ≡ digest_of o.log o.w
  digest-now = subst (λ q. 0 < q → σ.kept.digest ≡ digest_of o.log q) ok.version (o.good.users_ok a).digest_ok

  total : suc j + left ≡ suc (commit_number (suc o.w))
  unfolding write_answers commit_number
  total = omega (arith, on.count)

  -- the accepted Commit ends the Write
  module _ (all : left ≡ 0) where
    committing : j ≡ commit_number (suc o.w)
    committing = omega (arith, total, all)

    abbrev ended : Outcome Call
    ended = as_call writing (ending nothing (with_kept σ (committed σ.kept σ.path)) who.lent later)

    version : (committed σ.kept σ.path).version ≡ suc o.w
    version = commit_version c o.log o.w o.g a entry σ ok

    digest-is : (committed σ.kept σ.path).digest ≡ digest_of o.log (suc o.w)
    digest-is = commit_digest c o.log o.w o.g a entry σ ok

    arrived_all : g' ≡ suc (commit_number (suc o.w))
    arrived_all = omega (arith, committing, o.good.fits)

    leaves-done : Leaves c o.log (suc o.w) 0 a (begun_by r a i a) ended.state (arrives c x a).servers
    unfolding committed
    leaves-done =
        let before = o.good.users_ok a in
        record {
          servers =
              all_reached c o.log (suc o.w) 0 (arrives c x a).servers
              (λ s low high.
              server_commits c o.log o.w s ((arrives c x a).servers s)
              (subst (λ h. ServerOk c o.log o.w h s ((arrives c x a).servers s)) arrived_all (servers s low high)));
          shown = λ t. not_both false t refl;
          own =
              record {
                low = omega (arith, ok.version);
                number = before.number;
                digest_ok = λ _. digest-is ∙ ap (digest_of o.log) (sym version);
                path_size = before.path_size;
                signature_size = before.signature_size;
                open_ok = λ t. not_both false t refl;
              };
          room = λ t. not_both false t refl;
          shut = λ _. refl;
          fits = omega arith;
          items =
              λ i h.
              cases_eq i o.w (λ e. rw e (ok.item, (ok.signed (on.signed committing)).1)) (λ n. o.good.items i (omega (arith, n)));
          within = ok.within;
        }

    abbrev written_now : Written
    written_now = record { author = a; entry = entry }

    holds_then : Holds o.log (suc o.w) (r.log ++ (written_now ∷ []))
    holds_then = holds_more o.log o.w r.log written_now o.holds ok.author ok.entry

    reaches : Reaches (r.log ++ (written_now ∷ [])) (after who ended).state.kept
    unfolding Reaches after committed
    reaches = (
      version ∙ holds_then.count,
      refl,
      λ z. digest-is ∙ log-digest o.log (suc o.w) (r.log ++ (written_now ∷ [])) holds_then (omega arith),
    )

    -- what is written is one entry more
    write-ends : Ends c r a i x (writing now) given
    unfolding taken wrote entries_of returned Serves sent_by done after
    write-ends =
        record {
          outcome = ended;
          is =
              ap (as_call writing)
              (write_commits c range o.log o.w o.g a entry σ who.lent on.opened on.unbegun in_range_lem ok call.memory.valid.request whole now going
              on.few committing);
          code = refl;
          ended = refl;
          over = is-over c r a i left x o (suc o.w) 0 ended (omega arith) leaves-done holds_then refl reaches;
        }

  -- while nothing is put, every request that has arrived then was noted as handed out
  arrived-handed : σ.kept.progress.put ≡ false → g' ≤ σ.kept.progress.levels
  arrived-handed e = omega (arith, ok.unput e, on.handed e)

  -- so is the next one, once it is handed out
  handed-next : (i : ℕ) → (handing (suc σ.kept.version) σ.kept.progress i).put ≡ false
      → suc i ≤ (handing (suc σ.kept.version) σ.kept.progress i).levels
  handed-next i e =
      let h = handed (suc σ.kept.version) i σ.kept.progress in
      cases_le i (lg (suc σ.kept.version)) h.reserved (λ b. not_both _ (h.put_late b) e)

  unbegun_next : (i : ℕ) → (handing (suc σ.kept.version) σ.kept.progress i).begun ≡ false
  unbegun_next i = (handed (suc σ.kept.version) i σ.kept.progress).begun ∙ on.unbegun

  -- what is kept then is in range
  progress_then : (τ : State) → write_taken (settings_in c a) σ who.lent now given ≡ write_asks (settings_in c a) τ who.lent later
      → τ.kept.opened ≡ true → τ.kept.version ≡ o.w → ProgressInRange c.servers (suc o.w) τ.kept.signed τ.kept.progress
  progress_then τ asks_on_lem opened version =
      subst (λ v. ProgressInRange c.servers (suc v) τ.kept.signed τ.kept.progress) version
      (asked_progress (settings_in c a) σ τ who.lent who.lent now later given asks_on_lem opened)

  -- the next request goes out, of the log M, with what τ keeps
  module _ (more : 0 < left) (M : ℕ → Item) (τ : State) (old : (i : ℕ) → i < o.w → o.log i ≡ M i)
      (entry-same : (o.log o.w).entry ≡ (M o.w).entry) (open_then : OpenOk c M o.w g' a entry τ) (is_open : τ.kept.opened ≡ true)
      (unbegun : τ.kept.progress.begun ≡ false) (handed-then : τ.kept.progress.put ≡ false → suc (suc j) ≤ τ.kept.progress.levels)
      (number : τ.kept.number ≤ 1024) (same_digest : τ.kept.digest ≡ σ.kept.digest) (same-path : τ.path ≡ σ.path)
      (signature-is : length τ.signature ≡ longest_signature) (ready : suc j ≡ commit_number (suc o.w) → τ.kept.signed ≡ true)
      (servers-M : (s : ℕ) → 1 ≤ s → s ≤ c.servers → ServerOk c M o.w g' s ((arrives c x a).servers s))
      (asks_on_lem : write_taken (settings_in c a) σ who.lent now given ≡ write_asks (settings_in c a) τ who.lent later) where
    few : suc j ≤ commit_number (suc o.w)
    few = omega (arith, total, more)

    asks : AsksOpen c M o.w g' a left entry τ who.lent later
    unfolding write_answers commit_number
    asks =
        record {
          memory = memory_moves c a entry who.lent now later who.lent.hashes call.memory call.memory.valid.hashes refl refl;
          ok = open_then;
          going = refl;
          opened = is_open;
          arrived = omega arith;
          few = few;
          unbegun = unbegun;
          handed = handed-then;
          ready = ready;
          count = omega (arith, on.count);
        }

    next-on : GoesOn c r a i left x (writing now) given
    unfolding taken
    next-on =
        open_goes-on c range r a m entry randomizer left x o M g' τ old who.lent later (writing now) given asks
        (open_leaves c range r a m entry randomizer left x o M g' τ old open_then is_open unbegun number (λ z. same_digest ∙ digest-now z)
        (ap length same-path ∙ (o.good.users_ok a).path_size) signature-is servers-M
        (λ s low high. rw (← entry-same) (room s low high)) (omega (arith, total, o.good.fits, few)))
        (ap (as_call writing) asks_on_lem)

  -- no signature is to be made
  continues : 0 < left → (suc j ≡ commit_number (suc o.w) → σ.kept.signed ≡ true) → GoesOn c r a i left x (writing now) given
  continues more ready =
      let low : suc j ≤ commit_number (suc o.w) = omega (arith, total, more) in
      let asks_on_lem = write_continues c range o.log o.w o.g a entry σ who.lent on.opened on.unbegun in_range_lem ok call.memory.valid.request
      whole now going on.few (omega (arith, total, more)) ready in
      next-on more o.log (handed_state σ (suc j)) (λ i h. refl) refl
      (open_hands c o.log o.w g' (suc j) a entry σ
      (open_moves c o.log o.w o.g g' a entry σ ok (λ e. omega (arith, (ok.unsigned e).0, low)) arrived-handed)
      (progress_then (handed_state σ (suc j)) asks_on_lem on.opened ok.version)) on.opened (unbegun_next (suc j)) (handed-next (suc j))
      (o.good.users_ok a).number refl refl (o.good.users_ok a).signature_size ready servers asks_on_lem

  -- the Commit is next, and its signature is made
  module _ (more : 0 < left) (next : suc j ≡ commit_number (suc o.w)) (unsigned : σ.kept.signed ≡ false) where
    abbrev signature_by : Key → List ℕ
    signature_by k = commit_signature c.log (suc o.w) k σ.kept.number now.randomizer σ.path

    abbrev made : List ℕ
    made = signature_by (generated_key c a)

    abbrev M : ℕ → Item
    M = signed_log o.log o.w made

    there : M o.w ≡ signed_item (o.log o.w) made
    there = set_same o.log o.w (signed_item (o.log o.w) made)

    elsewhere : (i : ℕ) → i < o.w → o.log i ≡ M i
    elsewhere i h = sym (set_other o.log o.w (signed_item (o.log o.w) made) i (λ e. omega arith))

    same_item : (i : ℕ) → i ≤ o.w → ((o.log i).author ≡ (M i).author) × ((o.log i).entry ≡ (M i).entry)
    same_item i h =
        cases_eq i o.w
        (λ e. rw e (ap (λ (y : Item). y.author) (sym there), ap (λ (y : Item). y.entry) (sym there)))
        (λ n. let q = elsewhere i (omega (arith, n)) in (ap (λ (y : Item). y.author) q, ap (λ (y : Item). y.entry) q))

    signs : GoesOn c r a i left x (writing now) given
    signs =
        let asks_on_lem = write_signs c range o.log o.w o.g a entry σ who.lent on.opened on.unbegun in_range_lem ok call.memory.valid.request
        whole now going on.few (omega (arith, next)) next unsigned
        ∙ ap (λ (k : Key). write_asks (settings_in c a) (signed_state σ (suc j) (signature_by k)) who.lent later) call.memory.key in
        let progress = progress_then (signed_state σ (suc j) made) asks_on_lem refl ok.version in
        let signed = signs_open c range o.log o.w o.g a entry σ ok unsigned now.randomizer call.memory.randomizer (suc j) progress in
        let low : g' ≤ commit_number (suc o.w) = omega (arith, (ok.unsigned unsigned).0, next) in
        next-on more M (signed_state σ (suc j) made) elsewhere (ap (λ (y : Item). y.entry) (sym there))
        (open_moves c M o.w o.g g' a entry (signed_state σ (suc j) made) signed.1 (λ e. not_both true refl e)
        (λ e. not_both _ (progress.signed_put refl) e)) refl (unbegun_next (suc j)) (handed-next (suc j))
        (omega (arith, (ok.unsigned unsigned).1)) refl refl signed.0 (λ _. refl)
        (λ k sl sh.
        server_signs c o.log M o.w g' k ((arrives c x a).servers k) same_item
        (λ i h. ap (λ (y : Item). y.signature) (elsewhere i h)) low (servers k sl sh)) asks_on_lem

  -- the next request goes out
  open_on : 0 < left → GoesOn c r a i left x (writing now) given
  open_on more =
      cases_eq (suc j) (commit_number (suc o.w))
      (λ e.
      by_bool (λ b. σ.kept.signed ≡ b → GoesOn c r a i left x (writing now) given) σ.kept.signed
      (λ _ s. continues more (λ _. s)) (λ _ u. signs more e u) refl)
      (λ n. continues more (λ e. absurd (n e)))

  late_leaves : Leaves c o.log o.w g' a (begun_by r a i a) σ (arrives c x a).servers
  late_leaves =
      let before = o.good.users_ok a in
      open_leaves c range r a m entry randomizer left x o o.log g' σ (λ i h. refl)
      (open_moves c o.log o.w o.g g' a entry σ ok
      (λ e.
      let n : j ≡ commit_number (suc o.w) → ⊥ = λ q. not_both σ.kept.signed (on.signed q) e in
      omega (arith, (ok.unsigned e).0, on.few, n)) arrived-handed)
      on.opened on.unbegun before.number digest-now before.path_size before.signature_size servers room (omega (arith, o.good.fits, on.few))

  -- where the answer is lost, the request has arrived all the same
  pub open_late : Late c o.log o.w (begun_by r a (start_write m entry randomizer)) (arrives c x a)
  unfolding arrives
  open_late =
      record {
        g = g';
        good =
            good_change c o.log o.log o.w o.w o.g g' a (begun_by r a i) (begun_by r a i) x o.good o.alone
            (omega arith) (λ j h. refl) (arrives c x a) (λ k n. refl) late_leaves;
      }

  -- every answer to an open write is taken: the next request goes out, or the Write has ended
  pub open_step : Stepped c r a (start_write m entry randomizer) left x
  open_step = step-taken c r a i left x (writing now) given call.is comes open_on write-ends
