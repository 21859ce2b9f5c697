-- What the check of a signature relies on: a path's turns, and the tests that a key and a signature pass.
use mathlib.Core.Path.{◌≡◌, refl}
use mathlib.Core.Bool.{Bool, true, false, ◌&&◌, false≢true}
use mathlib.Core.List.{List}
use Prim.Native.Nat.{ℕ, suc, ◌+◌, ◌*◌, ◌/◌, ◌^◌, ◌<◌}
use native.Mathlib.Numerals.{add-one}
use lib.Bits.{bit_xor}
use lib.Dec.{eqb}
use lib.ListN.{length, take, drop}
use borrow.Author.Tests.{eqb-true, ltb-true}
use Rattle.sha256.specs.Bytes.{number_at}
use Rattle.lms.specs.declared.Ots.{Ots}
use Rattle.lms.specs.declared.Lms.{Lms}
use Rattle.lms.specs.Signature.{path_node, signature_size}
use Rattle.lms.specs.Check.{above, climb, key_fits, type_place, signature_fits}
use Rattle.lms.proofs.Nodes.{path-node_in}

pub climb_more : (I path t : List ℕ) (n i : ℕ) → climb I path n t (i + 1) ≡ above I (n / 2 ^ i) (climb I path n t i) (take 32 (drop (32 * i) path))
unfolding climb
climb_more I path t n i = rw add-one

-- the node beside the way from leaf q, at level i
pub beside_in : (h q i leaf : ℕ) → leaf ≡ 2 ^ h + q → q < 2 ^ h → i < h → (0 < bit_xor (leaf / 2 ^ i) 1) × (bit_xor (leaf / 2 ^ i) 1 < 2 ^ suc h)
unfolding path_node
beside_in h q i leaf e few g = rw e (path-node_in h q few i g)

-- both tests passed
pub both : (a b : Bool) → (a && b) ≡ true → (a ≡ true) × (b ≡ true)
both true b e = (refl, e)
both false b e = absurd (false≢true e)

pub key-passed : (o : Ots) (l : Lms) (key : List ℕ) → key_fits o l key ≡ true → length key ≡ 56
unfolding key_fits
key-passed o l key e = eqb-true (length key) 56 (both (eqb (length key) 56) _ e).0

pub signature-passed : (o : Ots) (l : Lms) (s : List ℕ) → signature_fits o l s ≡ true → (length s ≡ signature_size o l) × (number_at 4 s 0 < 2 ^ l.h)
unfolding signature_fits
signature-passed o l s e =
    let a = both (eqb (length s) (signature_size o l)) _ e in
    let b = both (eqb (number_at 4 s 4) o.otstype) _ a.1 in
    let c = both (eqb (number_at 4 s (type_place o)) l.lmstype) _ b.1 in
    (eqb-true (length s) (signature_size o l) a.0, ltb-true (number_at 4 s 0) (2 ^ l.h) c.1)
