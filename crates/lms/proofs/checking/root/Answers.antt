use mathlib.Core.Path.{◌≡◌, ap}
use Prim.Native.Nat.{◌+◌, ◌*◌}
use native.Mathlib.Omega.{arith}
use lib.ListN.{length, length-drop}
use Rattle.lms.specs.Signature.{signature_size}
use Rattle.lms.specs.Check.{Tc, type_place, root_of}
use Rattle.lms.specs.Ots.{Kc}
use Rattle.lms.proofs.Growth.{height_most, height_held_32}
use Rattle.lms.proofs.Climbing.{key-passed, signature-passed}
use Rattle.lms.proofs.checking.root.Goals as goal

pub id_of-id-requires : goal.id_of-id-requires
id_of-id-requires c =
    let rows = c.args.rows.now in omega (arith, key-passed rows.ots rows.lms c.args.key.now c.requires.0)

pub overflow_add-leaf : goal.overflow_add-leaf
overflow_add-leaf c =
    let rows = c.args.rows.now in
    let big = height_most rows.lms.h rows.is_low in
    let one = height_held_32 rows.lms.h rows.is_low in
    let fit = signature-passed rows.ots rows.lms c.args.s.now c.requires.1 in omega (arith, fit.1, c.u32_at-q.ensures)

pub candidate-k-requires : goal.candidate-k-requires
unfolding signature_size
candidate-k-requires c =
    let rows = c.args.rows.now in
    let fit = signature-passed rows.ots rows.lms c.args.s.now c.requires.1 in
    omega (arith, fit.0, ap length c.from-2.ensures, length-drop 40 c.args.s.now)

pub returns : goal.returns
unfolding root_of Tc Kc type_place
returns c =
    let rows = c.args.rows.now in
    let one = height_held_32 rows.lms.h rows.is_low in
    let n : 8 + 32 * (rows.ots.p + 1) + 4 ≡ 12 + 32 * (rows.ots.p + 1) = omega arith in
    rw (
      c.climb.ensures,
      c.leaf.ensures,
      c.candidate-k.ensures,
      c.from-path.ensures,
      c.from-2.ensures,
      c.text_hash-t.ensures,
      c.front.ensures,
      c.from.ensures,
      c.id_of-id.ensures,
      c.u32_at-q.ensures,
      one,
      n,
    )
