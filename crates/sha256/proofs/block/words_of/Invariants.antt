use Rattle.std.proofs.Common.{◌≡◌, length, take}
use Rattle.sha256.specs.Hash.{words}
use Rattle.sha256.proofs.block.words_of.Given as goal

abbrev pub invariant-loop-t : goal.invariant-loop-t
invariant-loop-t l = record { long : length l.w ≡ 16; done : take l.t l.w ≡ words l.t l.block }
