-- The claim where requests are told apart by their bytes alone, as one who sees the line can.
use Rattle.std.specs.Prelude.{◌≡◌, List, ℕ, ◌≤◌, ◌<◌, length}
use Rattle.tree.specs.Message.{request_kind, request_author}
use Rattle.whole_run.specs.World.{Setup, Event, handed_out, answered, Noted}
use Rattle.whole_run.specs.Runs.{Step, NewWorld, run}
use Rattle.fork_bound.specs.Fair.{Premises, Fair}
use Rattle.fork_bound.specs.Claim.{BoundHolds}

-- Since each give-up that user a had handed out to H, it handed out this Reserve before H gave the answer.
unfoldable pub GaveBytes : ℕ → ℕ → List Event → List ℕ → List ℕ → Type 0
GaveBytes H a log q x =
    (j : ℕ) × Noted log j (answered H q x) × (request_kind q ≡ 5 → (m : ℕ) (r : List ℕ) → Noted log m (handed_out a H r) → request_kind r ≡ 9
    → (i : ℕ) × (m < i) × (i < j) × Noted log i (handed_out a H q))

-- Its author had handed the give-up out to H, and of the requests that it handed out to H after that, H has answered none since.
unfoldable pub InTimeBytes : ℕ → List Event → List ℕ → Type 0
InTimeBytes H log q = let a = request_author q in
    (m : ℕ) × Noted log m (handed_out a H q) × ((i j : ℕ) (r x : List ℕ) → m < i → i < j → Noted log i (handed_out a H r)
    → Noted log j (answered H r x) → ⊥)

unfoldable pub as_bytes : ℕ → Premises
as_bytes H = record { gave = GaveBytes H; timely = InTimeBytes H }

unfoldable pub BoundByBytes : Type 0
BoundByBytes = (g : Setup) → length g.log ≡ 16 → (H : ℕ) → 1 ≤ H → H ≤ g.servers → (b : NewWorld) (xs : List Step)
    → Fair g H (as_bytes H) (run g b) xs → BoundHolds g (run g b xs)
