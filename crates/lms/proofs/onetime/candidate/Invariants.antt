use mathlib.Core.List.{◌++◌}
use mathlib.Core.Path.{◌≡◌}
use Prim.Native.Nat.{◌-◌, ◌*◌}
use lib.ListN.{take, drop}
use Rattle.sha256.specs.Inner.{streamed}
use Rattle.lms.specs.Ots.{coef, chain}
use Rattle.lms.specs.Types.{prefix, cat}
use Rattle.lms.proofs.onetime.candidate.Given as goal

abbrev pub invariant-loop-i : goal.invariant-loop-i
invariant-loop-i l =
    l.ends ≡ streamed (prefix l.key.id l.key.number 0x8080 ++ cat
    (λ j. chain (prefix l.key.id l.key.number j) (coef l.d j l.rows.ots.w) (l.k - coef l.d j l.rows.ots.w) (take 32 (drop (32 * j) l.y)))
    l.i)
