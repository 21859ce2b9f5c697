use mathlib.Core.Path.{◌≡◌}
use Prim.Native.Nat.{◌/◌, ◌^◌}
use lib.Bits.{bit_xor}
use Rattle.sha256.specs.Bytes.{written}
use Rattle.lms.specs.Signature.{node_at}
use Rattle.lms.specs.Types.{cat}
use Rattle.lms.proofs.signing.write_path.Given as goal

abbrev pub invariant-loop-i : goal.invariant-loop-i
invariant-loop-i l = l.place ≡ written l.initial.place l.at (cat (λ j. node_at l.tree (bit_xor (l.leaf / 2 ^ j) 1)) l.i)
