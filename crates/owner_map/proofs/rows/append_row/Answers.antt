use native.Mathlib.Omega.{arith}
use Rattle.tree.proofs.Labels.{label-fits}
use Rattle.owner_map.proofs.Pieces.{row_laid}
use Rattle.owner_map.proofs.rows.append_row.Goals as goal

pub overflow_add-first : goal.overflow_add-first
overflow_add-first c =
    let p = c.args.p in
    omega (arith, label-fits p (omega arith), c.first_label_in-first.ensures)

pub returns : goal.returns
returns c =
    let pre = c.requires.0 in
    let first = c.first_label_in-first.ensures in
    let leaf = c.owner_of-leaf.ensures in
    let level = c.lg.ensures in
    let root = c.owner_of-root.ensures in
    let wait = c.wait.ensures in
    let put = c.append_number-a.ensures in
    let put2 = c.append_number-b.ensures in
    let put3 = c.append_number-c.ensures in
    let put4 = c.append_number-d.ensures in
    let put5 = c.append_number.ensures in
    row_laid _ _ _ _ _ _ _ _ _ _ _ _ _ _ _ _ _ _ _ pre first leaf level root wait put put2 put3 put4 put5
