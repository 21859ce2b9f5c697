-- What holds of every refused step of a user, whichever call it is and whatever the code.
use Rattle.std.specs.Prelude.{◌≡◌, List, [], ℕ}
use Rattle.tree.specs.Setup.{Settings}
use Rattle.user.specs.Outcome.{State, Lent, Outcome, refusal}
use Rattle.user_update.specs.Update.{no_update}
use Rattle.user_write.specs.Write.{no_write}
use Rattle.user_read.specs.Read.{no_read}
use Rattle.user_give_up.specs.GiveUp.{no_give_up}
use Rattle.user_calls.specs.Calls.{Call, updating, writing, reading, giving_up, Input, start_update, start_write, start_read, start_give_up}
use Rattle.user_calls.specs.Calls.{answer, taken, stepped}

-- What a refused step leaves: what is kept and the memory that it was lent, as they were; of an answer also the call. A start hands back a
-- call of its own, which is not the one that goes on.
abbrev pub refused_step : ℕ → State → Lent → Call → Input → Outcome Call
refused_step code σ m c (start_update l) = refusal code [] σ l (updating no_update)
refused_step code σ m c (start_write l entry randomizer) = refusal code [] σ l (writing no_write)
refused_step code σ m c (start_read l i) = refusal code [] σ l (reading (no_read i))
refused_step code σ m c (start_give_up l) = refusal code [] σ l (giving_up no_give_up)
refused_step code σ m c (answer a) = refusal code a σ m c

-- Document 01, 'Codes', what is left by each that a user's call returns: "user's state, lent buffers; an open write stays open", "same".
unfoldable pub StepRefusal : Type 0
StepRefusal =
    (s : Settings) (σ : State) (m : Lent) (c : Call) (i : Input) → ((stepped s σ m c i).step.code ≡ 0 → ⊥)
    → stepped s σ m c i ≡ refused_step (stepped s σ m c i).step.code σ m c i

abbrev pub IsStart : Input → Type 0
IsStart i = (a : List ℕ) → i ≡ answer a → ⊥

-- The call that a refused start hands back takes no answer, whoever sends it and whatever is kept and lent then.
unfoldable pub StartRefusal : Type 0
StartRefusal =
    (s : Settings) (code : ℕ) (σ : State) (m : Lent) (c : Call) (i : Input) → IsStart i → (τ : State) (l : Lent) (a : List ℕ)
    → (taken s τ l (refused_step code σ m c i).call a).step.code ≡ 0 → ⊥
