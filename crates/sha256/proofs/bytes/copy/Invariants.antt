use Rattle.std.proofs.Common.{◌≡◌, length}
use lib.Seq.{paste}
use Rattle.sha256.proofs.bytes.copy.Given as goal

abbrev pub invariant-loop-j : goal.invariant-loop-j
invariant-loop-j l = record { long : length l.d ≡ length l.initial.d; done : l.d ≡ paste l.initial.d l.at l.src l.j }
