use mathlib.Core.Path.{◌≡◌}
use lib.ListN.{take}
use Rattle.sha256.specs.Hash.{bytes}
use Rattle.lms.specs.Ots.{chain}
use Rattle.lms.proofs.onetime.chain.Given as goal

abbrev pub invariant-loop-j : goal.invariant-loop-j
invariant-loop-j l = bytes l.t ≡ chain (take 22 (bytes l.p)) l.a l.j (bytes l.initial.t)
