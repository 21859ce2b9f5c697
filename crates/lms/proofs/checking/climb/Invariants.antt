use mathlib.Core.Path.{◌≡◌}
use Rattle.lms.specs.Check.{climb}
use Rattle.lms.proofs.checking.climb.Given as goal

abbrev pub invariant-loop-i : goal.invariant-loop-i
invariant-loop-i l = l.x ≡ climb l.node.id l.path l.node.number l.initial.x l.i
