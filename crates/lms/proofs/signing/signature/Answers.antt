use mathlib.Core.Path.{◌≡◌, ◌∙◌}
use Prim.Native.Nat.{◌+◌, ◌*◌}
use native.Mathlib.Omega.{arith}
use lib.ListN.{length}
use borrow.Author.Rules.{rules}
use Rattle.sha256.proofs.Laws.{be-length}
use Rattle.sha256.specs.Hash.{bytes}
use Rattle.lms.specs.Signature.{path, signature, signature_size}
use Rattle.lms.specs.Ots.{text_hash, opened, ots_signature}
use Rattle.lms.specs.Types.{u32str, cat}
use Rattle.lms.proofs.Writing.{signature-laid}
use Rattle.lms.proofs.Nodes.{path-length}
use Rattle.lms.proofs.Chains.{opened-length}
use Rattle.lms.proofs.Parts.{cat-length}
use Rattle.lms.proofs.signing.signature.Goals as goal

pub write_chains-requires : goal.write_chains-requires
unfolding signature_size
write_chains-requires c = omega (arith, c.requires.1.1, c.put.auto.d, c.put-2.auto.d, c.put-3.auto.d)

pub write_path-requires : goal.write_path-requires
unfolding signature_size
write_path-requires c = (
  c.requires.0,
  (
    c.requires.1.0,
    omega (
      arith,
      c.requires.1.1,
      c.put.auto.d,
      c.put-2.auto.d,
      c.put-3.auto.d,
      c.write_chains.auto.place,
      c.put-4.auto.d,
    ),
  ),
)

pub returns : goal.returns
unfolding signature ots_signature signature_size
returns c =
    let a = c.args in
    let id = a.key.id in
    let q = a.key.number in
    let rows = a.rows.now in
    let y = opened rows.ots id (bytes a.seed) q (text_hash id q a.c a.text.now) in
    let ly : length (cat y rows.ots.p) ≡ 32 * rows.ots.p =
    cat-length y rows.ots.p (λ i _. opened-length rows.ots id (bytes a.seed) q _ i) rows.ots.p (omega arith) in
    let lp = path-length rows.lms.h q c.requires.0 a.tree.now c.requires.1.0 in
    let lc : length a.c ≡ 32 = search rules in
    signature-laid a.place.now (u32str q) (u32str rows.ots.otstype) a.c (cat y rows.ots.p) (u32str rows.lms.lmstype)
    (path rows.lms.h a.tree.now q) _ _ _ _ _ _ (40 + 32 * rows.ots.p) (be-length 4 q) (be-length 4 rows.ots.otstype) lc
    (be-length 4 rows.lms.lmstype) (omega (arith, ly)) (omega (arith, lp, c.requires.1.1)) (c.put.ensures ∙ rw c.be4.ensures)
    (c.put-2.ensures ∙ rw c.be4-2.ensures) c.put-3.ensures (c.write_chains.ensures ∙ rw c.text_hash-t.ensures)
    (c.put-4.ensures ∙ rw c.be4-3.ensures) c.write_path.ensures
