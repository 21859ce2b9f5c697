-- An answer to a give-up of an honest run: the next server is told, or the write is closed, and then every server is as if no request of it
-- had arrived; a lost answer loses nothing.
use mathlib.Core.Path.{◌≡◌, refl, ap, sym, ◌∙◌, subst}
use mathlib.Core.Bool.{true, false, cond}
use mathlib.Core.List.{List, [], append-nil}
use Prim.Native.Nat.{ℕ, suc, ◌-◌, ◌≤◌, ◌<◌}
use native.Mathlib.Omega.{arith}
use lib.Dec.{leb}
use borrow.Author.Tests.{le-leb}
use Rattle.tree.specs.Level.{lg}
use Rattle.tree.specs.Label.{owner}
use Rattle.tree.specs.Message.{answer}
use Rattle.tree.proofs.Cases.{by_leb, not_both, cases_le, cases_eq}
use Rattle.tree.proofs.Levels.{lg_below}
use Rattle.server.specs.Serve.{ServeOutcome}
use Rattle.user.specs.declared.ask.Want.{Want}
use Rattle.user.specs.declared.call.Kept.{Kept}
use Rattle.user.specs.Asking.{done, asking}
use Rattle.user.specs.Outcome.{State, with_kept, Lent, Outcome}
use Rattle.user_give_up.specs.declared.call.GiveUp.{GiveUp}
use Rattle.user_give_up.specs.GiveUp.{sent_to, next_told, give_up_answers, give_up_want, waiting, told, closed, give_up_goes, give_up_taken}
use Rattle.user_give_up.proofs.Servers.{Sent, First}
use Rattle.user_give_up.proofs.GiveUpRules.{by_goes, closed_with}
use Rattle.user_give_up.proofs.GiveUpSteps.{next-is}
use Rattle.user_give_up.proofs.GiveUpAnswers.{nobody_left, nobody_missed, one_less, told_highest}
use Rattle.user_calls.specs.Calls.{giving_up, Input, start_give_up, as_call, taken}
use Rattle.whole_run.specs.World.{Sent as SentOut, User, sent_by, returned, new_reads, after}
use Rattle.whole_run.specs.Runs.{Server, server_after, set}
use Rattle.honest_run.specs.Network.{HonestSetup, InRange, settings_in, Network, reply, answer_bytes, arrives, Run, wrote, entries_of}
use Rattle.honest_run.specs.Claim.{Reaches, Serves}
use Rattle.honest_run.proofs.Invariant.{digest_of, ServerOk, ServersOk, GivenUpOk, RoomLeft, OpenOk, KeptOk, serving}
use Rattle.honest_run.proofs.Frames.{by_set, set_other, reply-is, sent_for, open_progress, kept_still}
use Rattle.honest_run.proofs.Served.{left}
use Rattle.honest_run.proofs.GiveUps.{server_unsent, give_up, GivesUp, gives_up}
use Rattle.honest_run.proofs.Moves.{Leaves, all_reached, good_change}
use Rattle.honest_run.proofs.Calls.{GiveUpCall, CallOk, Holds, begun_by, OnWay, Stepped, Late}
use Rattle.honest_run.proofs.Steps.{GoesOn, Ends, goes_on_lem, is-over, log-digest, step-taken}
use Rattle.honest_run.proofs.Starts.{fit_user}
use Rattle.honest_run.proofs.GiveUpSteps.{told-answers, give_up_takes, asks_on, give_up_asks, give_up_waits}

module _ (c : HonestSetup) (range : InRange c) (r : Run Network) (a : ℕ) (m : Lent) (left-then : ℕ) (x : Network) (one : 1 ≤ a) (last : a ≤ c.count)
    (o : OnWay c r a (start_give_up m) (suc left-then) x) where
  abbrev i : Input
  i = start_give_up m

  abbrev who : User
  who = x.users a

  abbrev σ : State
  σ = who.state

  abbrev n : ℕ
  n = c.servers

  abbrev k : Kept
  k = σ.kept

  call : GiveUpCall c o.log o.w a (suc left-then) who
  unfolding CallOk
  call = o.call

  ok : OpenOk c o.log o.w o.g a (begun_by r a i a) σ
  ok = (o.good.users_ok a).open_ok call.opened

  shown_ok : GivenUpOk n o.g k o.good.servers_ok.shown
  shown_ok = o.good.shown_ok a call.opened

  -- the server that is told, and its level
  abbrev s : ℕ
  s = next_told n k

  abbrev l : ℕ
  l = (give_up_want n k).level

  first : First n (suc k.version) k.progress.levels (n - k.progress.done) s
  first = next-is n k call.next

  done-before : k.progress.done < s
  done-before = omega (arith, first.after, ok.progress.done)

  top : Sent n (suc k.version) s k.progress.levels (suc l)
  top = told_highest n k call.next

  own : owner n (suc o.w) l ≡ s
  own =
      let e : suc l - 1 ≡ l = omega arith in
      subst (λ v. owner n (suc v) l ≡ s) ok.version (rw e at top.owned)

  level : l ≤ lg (suc o.w)
  level = omega (arith, top.below, ok.progress.most)

  -- every request that a server is left with was handed out as a Reserve
  few : (t : ℕ) → o.good.servers_ok.shown t ≤ k.progress.levels
  few t = omega (arith, o.good.servers_ok.few t, ok.unput call.unput)

  reserves : (t : ℕ) → o.good.servers_ok.shown t ≤ suc (lg (suc o.w))
  reserves t = omega (arith, few t, ok.progress.most)

  abbrev at_server : ServerOk c o.log o.w (o.good.servers_ok.shown s) s (x.servers s)
  at_server = o.good.servers_ok.each s (omega (arith, done-before)) first.within

  abbrev request : List ℕ
  request = give_up c range o.log o.w (o.good.servers_ok.shown s) s (x.servers s) at_server (reserves s) ok.within ok.item l level own

  right : GivesUp c range o.log o.w (o.good.servers_ok.shown s) s (x.servers s) at_server (reserves s) ok.within ok.item l level own
  right = gives_up c range o.log o.w (o.good.servers_ok.shown s) s (x.servers s) at_server (reserves s) ok.within ok.item l level own

  -- its answer comes back
  abbrev want : Want
  want = record { kind = 9; server = s; position = suc o.w; level = l }

  want_is : give_up_want n k ≡ want
  unfolding give_up_want
  want_is = ap (λ v. record { kind = 9; server = s; position = suc v; level = (give_up_want n k).level }) ok.version

  reply-now : reply c x who.sent ≡ left c s (x.servers s) request
  reply-now =
      reply-is c x a want (digest_of o.log (suc o.w)) who.sent
      (call.sent ∙ ap (λ (z : Want). sent_for c a z (digest_of o.log (suc o.w))) want_is)
      ∙ ap (λ b. serving c b s (x.servers s) want (digest_of o.log (suc o.w))) (sym ok.author)

  abbrev answered : List ℕ
  answered = answer 9 s (suc k.version) l right.code []

  comes : answer_bytes (reply c x who.sent) ≡ answered
  comes = ap answer_bytes reply-now ∙ right.given ∙ ap (λ v. answer 9 s (suc v) l right.code []) (sym ok.version)

  -- the servers then
  abbrev now : ℕ → Server
  now = set x.servers s (server_after (left c s (x.servers s) request))

  left_so : (t : ℕ) → (arrives c x a).servers t ≡ now t
  unfolding arrives give_up_want
  left_so t =
      ap (λ (z : ServeOutcome). set x.servers who.sent.server (server_after z) t) reply-now
      ∙ ap (λ (q : SentOut). set x.servers q.server (server_after (left c s (x.servers s) request)) t) call.sent

  -- up to the one that is told they are as if no request had arrived
  back_to : (t : ℕ) → 1 ≤ t → t ≤ n → t ≤ s → ServerOk c o.log o.w 0 t (now t)
  back_to t =
      by_set (λ j y. 1 ≤ j → j ≤ n → j ≤ s → ServerOk c o.log o.w 0 j y) x.servers s _ t (λ _ _ _. right.back)
      (λ other low high upto.
      let each = o.good.servers_ok.each t low high in
      cases_le t k.progress.done
      (λ d. subst (λ h. ServerOk c o.log o.w h t (x.servers t)) (shown_ok.done t low d) each)
      (λ d.
      let none : sent_to n (suc o.w) t k.progress.levels ≡ 0 =
      subst (λ v. sent_to n (suc v) t k.progress.levels ≡ 0) ok.version
      (first.least t (omega (arith, d, ok.progress.done)) (omega (arith, upto, other))) in
      server_unsent c range o.log o.w (o.good.servers_ok.shown t) t (x.servers t) each (reserves t) k.progress.levels (few t) none))

  abbrev shown_then : ℕ → ℕ
  shown_then t = cond (leb t s) 0 (o.good.servers_ok.shown t)

  abbrev servers : ServersOk c o.log o.w o.g (arrives c x a).servers
  servers =
      record {
        shown = shown_then;
        few = λ t. by_leb (λ b. cond b 0 (o.good.servers_ok.shown t) ≤ o.g) t s (λ _. omega arith) (λ _. o.good.servers_ok.few t);
        each =
            λ t low high.
            subst (ServerOk c o.log o.w (shown_then t) t) (sym (left_so t))
            (by_leb (λ b. ServerOk c o.log o.w (cond b 0 (o.good.servers_ok.shown t)) t (now t)) t s (back_to t low high)
            (λ behind.
            subst (ServerOk c o.log o.w (o.good.servers_ok.shown t) t) (sym (set_other x.servers s _ t (λ e. omega arith)))
            (o.good.servers_ok.each t low high)));
      }

  told-shown : (t : ℕ) → t ≤ s → shown_then t ≡ 0
  told-shown t low = rw (le-leb t s low)

  room : (t : ℕ) → 1 ≤ t → t ≤ n → RoomLeft c o.log o.w o.g t ((arrives c x a).servers t)
  room t low high =
      subst (RoomLeft c o.log o.w o.g t) (sym (left_so t))
      (by_set (λ j y. 1 ≤ j → j ≤ n → RoomLeft c o.log o.w o.g j y) x.servers s _ t
      (λ p q. rw (right.used, right.store) (o.good.room_ok a call.opened s p q)) (λ _. o.good.room_ok a call.opened t) low high)

  -- the write stays open with what y keeps, of which servers up to this one are done
  still_open : (y : Kept) → y.opened ≡ true → y.progress.begun ≡ true → y.progress.done ≤ s → (next_told n y ≡ 0 → ⊥)
      → KeptOk c o.log o.w o.g a (begun_by r a i a) (with_kept σ y)
      → Leaves c o.log o.w o.g a (begun_by r a i a) (with_kept σ y) (arrives c x a).servers
  still_open y opened begun upto next own =
      record {
        servers = servers;
        shown =
            λ _.
            record {
              all = λ b. not_both y.progress.begun begun b;
              done = λ t low d. told-shown t (omega (arith, d, upto));
              left = λ _. next;
            };
        own = own;
        room = λ _. room;
        shut = λ t. not_both y.opened opened t;
        fits = o.good.fits;
        items = o.good.items;
        within = o.good.within;
      }

  -- the answer is lost: the give-up has arrived all the same
  pub give_up_late : Late c o.log o.w (begun_by r a (start_give_up m)) (arrives c x a)
  unfolding arrives
  give_up_late =
      record {
        g = o.g;
        good =
            good_change c o.log o.log o.w o.w o.g o.g a (begun_by r a i) (begun_by r a i) x o.good o.alone
            (omega arith) (λ j h. refl) (arrives c x a) (λ j e. refl)
            (still_open k call.opened call.begun (omega (arith, done-before)) call.next (o.good.users_ok a));
      }

  -- it is taken: one server more is done
  abbrev τ : State
  τ = with_kept σ (told n k)

  takes : give_up_taken (settings_in c a) σ who.lent waiting answered ≡ give_up_goes (settings_in c a) τ who.lent
  takes =
      let fit = fit_user c range o.log o.w o.g a (begun_by r a i) x one last o.good in
      let low = lg_below (suc o.w) 20 (omega (arith, ok.within)) in
      let shape =
      told-answers _ n k right.code (omega (arith, first.within, range.sixteen)) (omega (arith, ok.version, ok.within)) (omega (arith, level, low))
      right.told in
      give_up_takes (settings_in c a) σ who.lent fit.settings-fit fit.kept-fit call.opened call.unput call.memory.request answered
      right.code call.begun call.next shape.0 shape.1 right.told

  remain : give_up_answers n (told n k) ≡ left-then
  remain = omega (arith, one_less n k call.next, call.count)

  -- the next server is told
  module _ (more : 0 < left-then) where
    next-then : next_told n τ.kept ≡ 0 → ⊥
    next-then e = omega (arith, nobody_left n (told n k) e, remain, more)

    ok_then : OpenOk c o.log o.w o.g a (begun_by r a i a) τ
    unfolding told
    ok_then =
        open_progress c o.log o.w o.g a (begun_by r a i a) σ _ ok
        (record {
          some = ok.progress.some;
          most = ok.progress.most;
          signed_put = ok.progress.signed_put;
          begun_unput = λ _. call.unput;
          done = first.within;
          unbegun = λ b. not_both k.progress.begun call.begun b;
        }) ok.unput

    leaves-on : Leaves c o.log o.w o.g a (begun_by r a i a) τ (arrives c x a).servers
    unfolding told
    leaves-on =
        still_open (told n k) call.opened call.begun (omega arith) next-then
        (kept_still c o.log o.w o.g o.g a _ σ (told n k) (o.good.users_ok a) refl refl refl (λ _. ok_then))

    abbrev asks_next_lem : Outcome GiveUp
    asks_next_lem = asks_on c range o.log o.w o.g a (begun_by r a i a) τ who.lent ok_then next-then

    give_up_on : GoesOn c r a i left-then x (giving_up waiting) answered
    unfolding taken CallOk asking after new_reads told
    give_up_on =
        record {
          outcome = as_call giving_up asks_next_lem;
          is =
              ap (as_call giving_up)
              (takes ∙ give_up_asks c range o.log o.w o.g a (begun_by r a i a) τ who.lent ok_then next-then);
          code = refl;
          ended = refl;
          on_way =
              goes_on_lem c r a i left-then x o o.log o.g (as_call giving_up asks_next_lem) (λ j h. refl) leaves-on refl
              (give_up_waits c range o.log o.w o.g a (begun_by r a i a) τ who.lent ok_then next-then who left-then call.memory call.opened
              call.unput call.begun remain);
        }

  -- nobody is left, and the write is closed
  module _ (none : left-then ≡ 0) where
    all_told : next_told n τ.kept ≡ 0
    all_told = cases_eq (next_told n τ.kept) 0 (λ e. e) (λ e. absurd (omega (arith, one_less n (told n k) e, remain, none)))

    all_back : (t : ℕ) → 1 ≤ t → t ≤ n → ServerOk c o.log o.w 0 t ((arrives c x a).servers t)
    unfolding told
    all_back t low high =
        cases_le t s (λ upto. subst (ServerOk c o.log o.w 0 t) (sym (left_so t)) (back_to t low high upto))
        (λ behind.
        let none-sent : sent_to n (suc o.w) t k.progress.levels ≡ 0 =
        subst (λ v. sent_to n (suc v) t k.progress.levels ≡ 0) ok.version (nobody_missed n (told n k) all_told t behind high) in
        let same : (arrives c x a).servers t ≡ x.servers t = left_so t ∙ set_other x.servers s _ t (λ e. omega arith) in
        subst (ServerOk c o.log o.w 0 t) (sym same)
        (server_unsent c range o.log o.w (o.good.servers_ok.shown t) t (x.servers t) (o.good.servers_ok.each t low high) (reserves t)
        k.progress.levels (few t) none-sent))

    abbrev ended : Outcome GiveUp
    ended = closed_with (settings_in c a) τ who.lent

    ends_so : give_up_taken (settings_in c a) σ who.lent waiting answered ≡ ended
    ends_so = takes ∙ by_goes (settings_in c a) τ who.lent (λ z. z ≡ ended) (λ _. refl) (λ e. absurd (e all_told))

    leaves-closed : Leaves c o.log o.w 0 a (begun_by r a i a) ended.state (arrives c x a).servers
    unfolding closed told
    leaves-closed =
        record {
          servers = all_reached c o.log o.w 0 (arrives c x a).servers all_back;
          shown = λ t. not_both false t refl;
          own =
              kept_still c o.log o.w o.g 0 a _ σ (closed (told n k)) (o.good.users_ok a) refl refl refl (λ t. not_both false t refl);
          room = λ t. not_both false t refl;
          shut = λ _. refl;
          fits = omega arith;
          items = o.good.items;
          within = o.good.within;
        }

    reaches : Reaches r.log ended.state.kept
    unfolding Reaches closed told
    reaches = (
      ok.version ∙ o.holds.count,
      refl,
      λ z.
          let some : 0 < o.w = omega (arith, o.holds.count) in
          (o.good.users_ok a).digest_ok (omega (arith, ok.version)) ∙ ap (digest_of o.log) ok.version ∙ log-digest o.log o.w r.log o.holds some,
    )

    give_up_ends : Ends c r a i x (giving_up waiting) answered
    unfolding taken wrote entries_of returned Serves after sent_by done
    give_up_ends =
        record {
          outcome = as_call giving_up ended;
          is = ap (as_call giving_up) ends_so;
          code = refl;
          ended = refl;
          over =
              is-over c r a i left-then x o o.w 0 (as_call giving_up ended) (omega arith) leaves-closed
              (subst (Holds o.log o.w) (sym (append-nil r.log)) o.holds) refl reaches;
        }

  -- every answer to a give-up is taken: the next server is told, or the write is closed
  pub give_up_step_lem : Stepped c r a (start_give_up m) left-then x
  give_up_step_lem = step-taken c r a i left-then x (giving_up waiting) answered call.is comes give_up_on give_up_ends
