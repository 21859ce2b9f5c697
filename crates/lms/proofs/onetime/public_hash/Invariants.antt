use mathlib.Core.Path.{◌≡◌}
use mathlib.Core.List.{◌++◌}
use Rattle.sha256.specs.Hash.{bytes}
use Rattle.sha256.specs.Inner.{streamed}
use Rattle.lms.specs.Types.{prefix, cat}
use Rattle.lms.specs.Ots.{chain, secret}
use Rattle.lms.proofs.onetime.public_hash.Given as goal

abbrev pub invariant-loop-i : goal.invariant-loop-i
invariant-loop-i l =
    l.ends ≡ streamed (prefix l.key.id l.key.number 0x8080
    ++ cat (λ j. chain (prefix l.key.id l.key.number j) 0 l.k (secret l.key.id (bytes l.seed) l.key.number j)) l.i)
