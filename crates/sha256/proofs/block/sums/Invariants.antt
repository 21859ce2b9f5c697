use Rattle.std.proofs.Common.{◌≡◌, ℕ, ◌<◌, length, get_or}
use Rattle.sha256.specs.Block.{sum_at}
use Rattle.sha256.proofs.block.sums.Given as goal

abbrev pub invariant-loop-i : goal.invariant-loop-i
invariant-loop-i l = record { long : length l.sum ≡ 8; done : (k : ℕ) → k < l.i → get_or l.sum k 0 ≡ sum_at l.x l.y k }
