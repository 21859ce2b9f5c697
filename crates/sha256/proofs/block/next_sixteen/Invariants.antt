use Rattle.sha256.specs.Inner.{shifted_by}
use Rattle.std.proofs.Common.{◌≡◌}
use Rattle.sha256.proofs.block.next_sixteen.Given as goal

abbrev pub invariant-loop : goal.invariant-loop
invariant-loop l = l.w ≡ shifted_by l.counter l.initial.w
