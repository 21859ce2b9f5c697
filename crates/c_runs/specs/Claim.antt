-- Both claims, of lists of calls of the exported functions: a list of such calls is a run.
use Rattle.std.specs.Prelude.{◌≡◌, List, [], ◌∷◌, ℕ, ◌≤◌, length}
use Rattle.whole_run.specs.World.{Setup}
use Rattle.whole_run.specs.Runs.{Step, NewWorld, Sized}
use Rattle.fork_bound.specs.Fair.{Fair, Account, as_messages}
use Rattle.fork_bound.specs.Claim.{BoundHolds}
use Rattle.honest_run.specs.Network.{HonestSetup, InRange, Act, calls}
use Rattle.honest_run.specs.Claim.{CallsServe}
use Rattle.c_runs.specs.Runs.{world_of, byte_run, in_bytes, zero_network}

-- The fork bound, of the world that the bytes stand for after every list of fair calls.
unfoldable pub ByteForkBound : Type 0
ByteForkBound = (g : Setup) → length g.log ≡ 16 → (H : ℕ) → 1 ≤ H → H ≤ g.servers → (account : Account) (b : NewWorld) (xs : List Step)
    → Fair g H (as_messages H account) (λ ys. world_of (byte_run g b ys)) xs → BoundHolds g (world_of (byte_run g b xs))

-- "randomizer has 32 bytes" (include/kozbrax.h), in each call of the list.
unfoldable pub AllSized : List Act → Type 0
AllSized [] = Unit {0}
AllSized (calls a i k late ∷ xs) = Sized i × AllSized xs

-- The honest run: no valid call is refused by the exported functions, each ends at its count of answers, and then does what it is for.
unfoldable pub ByteHonestRun : Type 0
ByteHonestRun = (c : HonestSetup) → InRange c → (b : NewWorld) (xs : List Act) → AllSized xs → CallsServe c (in_bytes c) (zero_network b) xs
