-- Where nobody gives a write up, document 01's premises are all that is asked.
use mathlib.Core.Path.{◌≡◌, sym, subst}
use mathlib.Core.Bool.{cond}
use mathlib.Core.List.Memᴰ
use mathlib.Core.List.{List, [], ◌∷◌, Memᴰ}
use mathlib.Core.Logic.{inl, inr}
use Prim.Native.Nat.{ℕ}
use lib.ListN.{length}
use Rattle.tree.specs.Message.{request_kind}
use Rattle.tree.proofs.Cases.{by_eqb, cases_eq}
use Rattle.tree.specs.Setup.{Settings}
use Rattle.user.proofs.Passed.{by_cond}
use Rattle.user_calls.specs.Calls.{Call, idle, updating, writing, reading, giving_up, Input, start_update, start_write, start_read, start_give_up, answer, taken, stepped}
use Rattle.whole_run.specs.World.{Setup, settings_for, handed_out, answered, User, returned, after, user_step, dropped}
use Rattle.whole_run.specs.Runs.{World, Step, user, drops, server, NewWorld, new_user, with_user, with_server, server_events, step, run}
use Rattle.fork_bound.specs.Fair.{FairInput, FairStep, Fair, Account, SinceGiveUps, Gave, as_messages, any_earlier, without_give_ups}
use Rattle.whole_run.proofs.Refusals.{refused-step, accepted-step}
use Rattle.fork_bound.specs.Claim.{StartsNone, NoGiveUp, ForkBound, BoundWithoutGiveUps}
use Rattle.fork_bound.proofs.Noted.{Whole}
use Rattle.fork_bound.proofs.Order.{noted_in, numbered}
use Rattle.fork_bound.proofs.States.{GivingUp, UserOk}
use Rattle.fork_bound.proofs.Events.{step_event}
use Rattle.fork_bound.proofs.UserSteps.{step_ok, step-behind}
use Rattle.fork_bound.proofs.Steps.{all_hold, only_answers}
use Rattle.fork_bound.proofs.Fork.{fork_bound}

-- no user's call is a give-up, and none was handed out
abbrev IsGiveUp : Call → Type 0
IsGiveUp idle = ⊥
IsGiveUp (updating c) = ⊥
IsGiveUp (writing w) = ⊥
IsGiveUp (reading r) = ⊥
IsGiveUp (giving_up g) = Unit {0}

record None (w : World) : Type 0 where
  calls : (a : ℕ) → IsGiveUp (w.users a).call → ⊥
  handed : (a s : ℕ) (r : List ℕ) → Memᴰ (handed_out a s r) w.log → request_kind r ≡ 9 → ⊥

-- a step's code is its outcome's
step-code : (s : Settings) (u : User) (i : Input) → (stepped s u.state u.lent u.call i).step.code ≡ 0 → (user_step s u i).step.code ≡ 0
unfolding user_step
step-code s u i z = z

-- the call that a step leaves is a give-up only if it was or one starts
module _ (s : Settings) (u : User) where
  taken_none : (a : List ℕ) (c : Call) → (IsGiveUp c → ⊥) → IsGiveUp (taken s u.state u.lent c a).call → ⊥
  unfolding taken
  taken_none a idle n x = x
  taken_none a (updating c) n x = x
  taken_none a (writing w) n x = x
  taken_none a (reading r) n x = x
  taken_none a (giving_up g) n x = n tt

  left-none : (i : Input) → StartsNone i → (IsGiveUp u.call → ⊥) → IsGiveUp (stepped s u.state u.lent u.call i).call → ⊥
  unfolding stepped
  left-none (start_update m) z n x = x
  left-none (start_write m entry randomizer) z n x = x
  left-none (start_read m i) z n x = x
  left-none (start_give_up m) z n x = z
  left-none (answer a) z n x = taken_none a u.call n x

  after_none : (i : Input) → StartsNone i → (IsGiveUp u.call → ⊥) → IsGiveUp (user_step s u i).user.call → ⊥
  unfolding after
  after_none i z n =
      let o = stepped s u.state u.lent u.call i in
      cases_eq (user_step s u i).step.code 0
      (λ e. subst (λ (v : User). IsGiveUp v.call → ⊥) (sym (accepted-step s u i e))
      (by_cond (λ c. IsGiveUp c → ⊥) (returned o.step) idle o.call (λ _ x. x) (λ _. left-none i z n)))
      (λ e. subst (λ (v : User). IsGiveUp v.call → ⊥) (sym (refused-step s u i e)) n)

giving_up_lem : (W : Whole) (own : ℕ) (c : Call) → GivingUp W own c → IsGiveUp c
giving_up_lem W own idle x = x
giving_up_lem W own (updating c) x = x
giving_up_lem W own (writing w) x = x
giving_up_lem W own (reading r) x = x
giving_up_lem W own (giving_up g) x = x

module _ (g : Setup) (named : length g.log ≡ 16) (H : ℕ) (account : Account) (b : NewWorld) where
  -- a step's premise, where no give-up was handed out
  given_fair : (w : World) → None w → (a : ℕ) (i : Input) → FairInput H (without_give_ups H) a w.log (w.users a) i
      → FairInput H (as_messages H account) a w.log (w.users a) i
  unfolding FairInput as_messages without_give_ups Gave SinceGiveUps
  given_fair w n a (start_update m) h = tt
  given_fair w n a (start_write m entry randomizer) h = tt
  given_fair w n a (start_read m i) h = tt
  given_fair w n a (start_give_up m) h = tt
  given_fair w n a (answer x) h = λ e.
      let j = numbered w.log (answered H (w.users a).sent.bytes x) (h e) in
      (j.0, j.1, λ _ m r y nine. absurd (n.handed a H r (noted_in w.log m _ y) nine))

  -- what a user's step hands out is no give-up
  none-handed : (W : Whole) (a : ℕ) (u : User) → UserOk W a u → (i : Input) → UserOk W a (user_step (settings_for W.group a) u i).user
      → (IsGiveUp (user_step (settings_for W.group a) u i).user.call → ⊥) → (c t : ℕ) (r : List ℕ)
      → Memᴰ (handed_out c t r) (user_step (settings_for W.group a) u i).events → request_kind r ≡ 9 → ⊥
  unfolding after
  none-handed W a u ok i new none c t r m nine =
      let s = settings_for W.group a in
      let x = step_event s u i (handed_out c t r) m in
      let same : (user_step s u i).user ≡ after u (stepped s u.state u.lent u.call i) = accepted-step s u i (step-code s u i x.0) in
      elim x.1 [
        | inl e ↦ (let sent : r ≡ (after u (stepped s u.state u.lent u.call i)).sent.bytes = cc in
            none (giving_up_lem W a (user_step s u i).user.call (new.out (rw same (rw sent at nine)))))
        | inr y ↦ step-behind W a u ok i x.0 (handed_out c t r) y
      ]

  -- So every list without give-ups is one of the claim's.
  all_fair : (xs : List Step) → NoGiveUp xs → Fair g H (without_give_ups H) (run g b) xs
      → Fair g H (as_messages H account) (run g b) xs × None (run g b xs)
  unfolding NoGiveUp Fair FairStep without_give_ups run new_user step with_user with_server dropped
  all_fair [] n h = (tt, record { calls = λ a x. x; handed = λ a s r m _. Memᴰ.not-nil m })
  all_fair (user a i ∷ xs) n h =
      let ih = all_fair xs n.1 h.1 in
      let w = run g b xs in
      let u = w.users a in
      let t = user_step (settings_for g a) u i in
      let f : FairStep g H (as_messages H account) w (user a i) = (h.0.0, λ z. given_fair w ih.1 a i (h.0.1 z)) in
      let W : Whole = record { group = g; named = named; follows = H; account = account; world = run g b (user a i ∷ xs) } in
      let before = (all_hold W b xs ih.0 (λ e m. Memᴰ.append_right t.events m)).users a in
      let new = step_ok W a u before i f.0 (λ e m. Memᴰ.append_left w.log m) in
      let none = after_none (settings_for g a) u i n.0 (ih.1.calls a) in (
        (f, ih.0),
        record {
          calls = λ c. by_eqb (λ b. IsGiveUp (cond b t.user (w.users c)).call → ⊥) c a (λ _. none) (λ _. ih.1.calls c);
          handed = λ c s r m nine. elim (Memᴰ.append_cases t.events m) [
            | inl x ↦ none-handed W a u before i new none c s r x nine
            | inr y ↦ ih.1.handed c s r y nine
          ];
        },
      )
  all_fair (drops a ∷ xs) n h =
      let ih = all_fair xs n h.1 in
      let w = run g b xs in (
        (tt, ih.0),
        record {
          calls = λ c. by_eqb (λ b. IsGiveUp (cond b (dropped (w.users a)) (w.users c)).call → ⊥) c a (λ _ x. x) (λ _. ih.1.calls c);
          handed = ih.1.handed;
        },
      )
  all_fair (server s q buffer ∷ xs) n h =
      let ih = all_fair xs n h.1 in (
        (λ e nine z. absurd (h.0 e nine z), ih.0),
        record {
          calls = ih.1.calls;
          handed = λ c t r m nine. elim (Memᴰ.append_cases (server_events s q _ _) m) [
            | inl x ↦ only_answers s q _ _ (handed_out c t r) x
            | inr y ↦ ih.1.handed c t r y nine
          ];
        },
      )

-- So document 01's claim, with document 01's premises, follows.
pub bound_without_give_ups : BoundWithoutGiveUps
unfolding BoundWithoutGiveUps ForkBound
bound_without_give_ups g named H H-some H-one b xs n h =
    fork_bound g named H H-some H-one any_earlier b xs (all_fair g named H any_earlier b xs n h).0
