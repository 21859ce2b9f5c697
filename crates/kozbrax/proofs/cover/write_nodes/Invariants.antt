use Rattle.kozbrax.specs.Tree.{nodes_bytes}
use Rattle.tree.specs.Cover.{cover}
use Rattle.sha256.specs.Bytes.{written}
use lib.ListN.{take}
use mathlib.Core.Path.{◌≡◌}
use Rattle.kozbrax.proofs.cover.write_nodes.Given as goal

abbrev pub invariant-loop-k : goal.invariant-loop-k
invariant-loop-k l = l.nodes ≡ written l.initial.nodes 0 (nodes_bytes (take l.k (cover l.v l.w)))
