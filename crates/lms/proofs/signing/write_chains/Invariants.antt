use mathlib.Core.Path.{◌≡◌}
use Rattle.sha256.specs.Hash.{bytes}
use Rattle.sha256.specs.Bytes.{written}
use Rattle.lms.specs.Ots.{coef, chain, secret}
use Rattle.lms.specs.Types.{prefix, cat}
use Rattle.lms.proofs.signing.write_chains.Given as goal

abbrev pub invariant-loop-i : goal.invariant-loop-i
invariant-loop-i l =
    l.place ≡ written l.initial.place l.at
    (cat (λ j. chain (prefix l.key.id l.key.number j) 0 (coef l.d j l.rows.ots.w) (secret l.key.id (bytes l.seed) l.key.number j)) l.i)
