use Rattle.sha256.specs.Hash.{hash_value}
use Rattle.std.proofs.Common.{◌≡◌, ℕ, ◌+◌, ◌*◌, ◌/◌, ◌%◌, List, ◌++◌, length}
use Rattle.sha256.proofs.value.whole_blocks.Given as goal

abbrev pub invariant-loop-block : goal.invariant-loop-block
invariant-loop-block l =
    (m : List ℕ) → length m % 64 ≡ 0 → l.initial.state ≡ hash_value (length m / 64) m
    → l.state ≡ hash_value ((length m + 64 * l.block-index) / 64) (m ++ l.s)
