-- Document 00's third demand, as document 01 says it: the one claim about every list of steps.
use Rattle.std.specs.Prelude.{◌≡◌, ℕ, ◌+◌, ◌-◌, ◌≤◌, min, length}
use mathlib.Core.List.{List, [], ◌∷◌, Memᴰ}
use Rattle.tree.specs.Expr.{NoCollision}
use Rattle.tree.specs.Label.{wait}
use Rattle.user_calls.specs.Calls.{Input, start_update, start_write, start_read, start_give_up, answer}
use Rattle.whole_run.specs.World.{Setup, hashed, signed, accepted}
use Rattle.whole_run.specs.Runs.{World, Step, user, drops, server, NewWorld, run}
use Rattle.fork_bound.specs.Fair.{Fair, Account, as_messages, without_give_ups}

-- The first exception: "users hashed two different strings to one SHA-256 result". Here it did not happen.
unfoldable pub NoneCollide : World → Type 0
NoneCollide w = NoCollision (λ s. Memᴰ (hashed s) w.log)

-- The second: "one accepted a signature on a text that its key's owner never signed". Here it did not happen.
unfoldable pub NoneForged : World → Type 0
NoneForged w = (a : ℕ) (text : List ℕ) → Memᴰ (accepted a text) w.log → Memᴰ (signed a text) w.log

-- "It has proved and read d": user a took in this author and entry.
unfoldable pub HasRead : World → ℕ → ℕ → ℕ → List ℕ → Type 0
HasRead w a d author entry = Memᴰ (record { position = d; author = author; entry = entry }) (w.users a).reads

-- "Reads differ if either does."
unfoldable pub Differ : ℕ → List ℕ → ℕ → List ℕ → Type 0
Differ x e y f = (x ≡ y) × (e ≡ f) → ⊥

-- "Views ending at v and w after the list, with differing reads of d, have min(v, w) - d + 1 ≤ Q(d, N); where Q is 0 there is no such d."
unfoldable pub Bounded : Setup → World → ℕ → ℕ → ℕ → Type 0
Bounded g w a b d = (min (w.users a).view (w.users b).view - d + 1 ≤ wait d g.servers) × (wait d g.servers ≡ 0 → ⊥)

-- What is claimed of a world: unless one of the two exceptions happened, any two users whose reads of any d differ have views within the
-- bound.
unfoldable pub BoundHolds : Setup → World → Type 0
BoundHolds g w = NoneCollide w → NoneForged w → (a c d x y : ℕ) (e f : List ℕ) → HasRead w a d x e → HasRead w c d y f → Differ x e y f
    → Bounded g w a c d

-- The claim, for every group with a log name of 16 bytes, every server H of it, every account of what H's answers belong to, all that a
-- start leaves free, and every list of fair steps.
unfoldable pub ForkBound : Type 0
ForkBound = (g : Setup) → length g.log ≡ 16 → (H : ℕ) → 1 ≤ H → H ≤ g.servers → (account : Account) (b : NewWorld) (xs : List Step)
    → Fair g H (as_messages H account) (run g b) xs → BoundHolds g (run g b xs)

-- A list in which nobody starts a give-up, as document 01 has it.
abbrev pub StartsNone : Input → Type 0
StartsNone (start_update m) = Unit {0}
StartsNone (start_write m entry randomizer) = Unit {0}
StartsNone (start_read m i) = Unit {0}
StartsNone (start_give_up m) = ⊥
StartsNone (answer a) = Unit {0}

unfoldable pub NoGiveUp : List Step → Type 0
NoGiveUp [] = Unit {0}
NoGiveUp (user a i ∷ xs) = StartsNone i × NoGiveUp xs
NoGiveUp (drops a ∷ xs) = NoGiveUp xs
NoGiveUp (server s q buffer ∷ xs) = NoGiveUp xs

-- So document 01's claim is part of the one above: "H takes in any bytes as a request, whoever sent them", and accepts no give-up.
unfoldable pub BoundWithoutGiveUps : Type 0
BoundWithoutGiveUps = (g : Setup) → length g.log ≡ 16 → (H : ℕ) → 1 ≤ H → H ≤ g.servers → (b : NewWorld) (xs : List Step)
    → NoGiveUp xs → Fair g H (without_give_ups H) (run g b) xs → BoundHolds g (run g b xs)

-- The view is the version that a user keeps, though its four events speak of requests and answers.
unfoldable pub ViewIsVersion : Type 0
ViewIsVersion = (g : Setup) → length g.log ≡ 16 → (H : ℕ) (account : Account) (b : NewWorld) (xs : List Step)
    → Fair g H (as_messages H account) (run g b) xs → (a : ℕ)
    → ((run g b xs).users a).view ≡ ((run g b xs).users a).state.kept.version
