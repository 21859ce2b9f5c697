-- A step that is refused, whichever call it is and whatever the code, leaves what is kept and the lent memory as they were.
use mathlib.Core.Path.{◌≡◌, refl, ap}
use mathlib.Core.Bool.{false, cond}
use mathlib.Core.List.{List, []}
use Prim.Native.Nat.{ℕ}
use Rattle.tree.specs.Setup.{Settings, first_code}
use Rattle.tree.proofs.Cases.{by_bool}
use Rattle.user.specs.Asking.{user_settings_fit, user_fits, user_setup_checks, refused}
use Rattle.user.specs.Outcome.{State, Lent, Outcome, refusal}
use Rattle.user_update.specs.declared.call.Update.{Update}
use Rattle.user_update.specs.Update.{update_setup, update_early, update_started, update_taken}
use Rattle.user_write.specs.declared.call.Write.{Write}
use Rattle.user_write.specs.Write.{write_start_checks, write_checks, write_waits, write_started, write_updates, write_goes, write_taken}
use Rattle.user_read.specs.declared.call.Read.{Read}
use Rattle.user_read.specs.Read.{read_checks, read_early, read_started, read_taken}
use Rattle.user_give_up.specs.declared.call.GiveUp.{GiveUp}
use Rattle.user_give_up.specs.GiveUp.{give_up_setup, give_up_started, give_up_taken}
use Rattle.user_update.proofs.UpdateAnswers.{update-start-refusal, update-refusal, no_update_lem}
use Rattle.user_write.proofs.WriteAnswers.{write-start-refusal, write-refusal, no_write_lem}
use Rattle.user_read.proofs.ReadAnswers.{read-start-refusal, read-refusal, no_read_lem}
use Rattle.user_give_up.proofs.GiveUpAnswers.{give_up_start-refusal, give_up_refusal, no_give_up_lem}
use Rattle.user_calls.specs.Calls.{Call, idle, updating, writing, reading, giving_up, Input, start_update, start_write, start_read}
use Rattle.user_calls.specs.Calls.{start_give_up, answer, as_call, taken, stepped}
use Rattle.user_calls.specs.Claims.{refused_step, StepRefusal, StartRefusal}

pub step-refusal : StepRefusal
unfolding StepRefusal stepped taken refused
step-refusal s σ m c (start_update l) n = ap (λ (o : Outcome Update). as_call updating o) (update-start-refusal s σ l n)
step-refusal s σ m c (start_write l entry randomizer) n =
    ap (λ (o : Outcome Write). as_call writing o) (write-start-refusal s σ l entry randomizer n)
step-refusal s σ m c (start_read l i) n = ap (λ (o : Outcome Read). as_call reading o) (read-start-refusal s σ l i n)
step-refusal s σ m c (start_give_up l) n = ap (λ (o : Outcome GiveUp). as_call giving_up o) (give_up_start-refusal s σ l n)
step-refusal s σ m idle (answer a) n = refl
step-refusal s σ m (updating u) (answer a) n = ap (λ (o : Outcome Update). as_call updating o) (update-refusal s σ m u a n)
step-refusal s σ m (writing w) (answer a) n = ap (λ (o : Outcome Write). as_call writing o) (write-refusal s σ m w a n)
step-refusal s σ m (reading r) (answer a) n = ap (λ (o : Outcome Read). as_call reading o) (read-refusal s σ m r a n)
step-refusal s σ m (giving_up g) (answer a) n = ap (λ (o : Outcome GiveUp). as_call giving_up o) (give_up_refusal s σ m g a n)

-- The call that a refused start hands back takes no answer.
pub start-refusal : StartRefusal
unfolding StartRefusal taken
start-refusal s code σ m c (start_update l) start τ n a = no_update_lem s τ n a
start-refusal s code σ m c (start_write l entry randomizer) start τ n a = no_write_lem s τ n a
start-refusal s code σ m c (start_read l i) start τ n a = no_read_lem s τ n i a
start-refusal s code σ m c (start_give_up l) start τ n a = no_give_up_lem s τ n a
start-refusal s code σ m c (answer b) start τ n a = absurd (start b refl)

-- Whichever step it is, what is kept stays.
pub refused-state : (code : ℕ) (σ : State) (m : Lent) (c : Call) (i : Input) → (refused_step code σ m c i).state ≡ σ
refused-state code σ m c (start_update l) = refl
refused-state code σ m c (start_write l entry randomizer) = refl
refused-state code σ m c (start_read l i) = refl
refused-state code σ m c (start_give_up l) = refl
refused-state code σ m c (answer a) = refl

-- 22 comes before all else: settings out of their ranges refuse every step.
update_unfit : (s : Settings) (σ : State) (m : Lent) (u : Update) (a : List ℕ) → user_settings_fit s ≡ false
    → update_taken s σ m u a ≡ refusal 22 a σ m u
unfolding update_taken update_early update_setup user_setup_checks user_fits first_code
update_unfit s σ m u a e = rw e

write_unfit : (s : Settings) (σ : State) (m : Lent) (w : Write) (a : List ℕ) → user_settings_fit s ≡ false
    → write_taken s σ m w a ≡ refusal 22 a σ m w
unfolding write_taken write_goes write_updates write_waits write_checks user_setup_checks user_fits first_code refused
write_unfit s σ m w a e =
    by_bool (λ b. cond b (write_goes s σ m w a) (write_updates s σ m w a) ≡ refusal 22 a σ m w) w.opened (λ _. rw e)
    (λ _. rw (update_unfit s σ m w.update a e))

pub step_unfit : (s : Settings) (σ : State) (m : Lent) (c : Call) (i : Input) → user_settings_fit s ≡ false
    → stepped s σ m c i ≡ refused_step 22 σ m c i
unfolding stepped taken update_started update_setup write_started write_start_checks read_started read_taken read_early read_checks
    give_up_started give_up_taken give_up_setup user_setup_checks user_fits first_code
step_unfit s σ m c (start_update l) e = rw e
step_unfit s σ m c (start_write l entry randomizer) e = rw e
step_unfit s σ m c (start_read l i) e = rw e
step_unfit s σ m c (start_give_up l) e = rw e
step_unfit s σ m idle (answer a) e = rw e
step_unfit s σ m (updating u) (answer a) e = rw (update_unfit s σ m u a e)
step_unfit s σ m (writing w) (answer a) e = rw (write_unfit s σ m w a e)
step_unfit s σ m (reading r) (answer a) e = rw e
step_unfit s σ m (giving_up g) (answer a) e = rw e
