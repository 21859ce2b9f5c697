use Rattle.sha256.specs.Hash.{bytes}
use Rattle.std.proofs.Common.{◌≡◌, ◌*◌, length, take}
use Rattle.sha256.proofs.stream.digest.Given as goal

abbrev pub invariant-loop-i : goal.invariant-loop-i
invariant-loop-i l = record { whole : length l.out ≡ 32; written : take (4 * l.i) l.out ≡ bytes (take l.i l.word-items) }
