use Rattle.sha256.proofs.Window.{window}
use Rattle.sha256.specs.Block.{schedule, rounds}
use Rattle.std.proofs.Common.{◌≡◌, ◌*◌, ◌<◌}
use Rattle.sha256.proofs.block.compress.Given as goal

abbrev pub invariant-loop-group : goal.invariant-loop-group
invariant-loop-group l = record {
  variables : l.v ≡ rounds (16 * l.group) (schedule 64 l.initial.w) l.initial.v;
  words : l.group < 4 → l.w ≡ window (16 * l.group) l.initial.w;
}
