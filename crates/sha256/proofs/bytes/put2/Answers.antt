use Rattle.sha256.proofs.Laws.{written-not_both, written_twice}
use Rattle.std.proofs.Common.{◌∙◌, arith}
use Rattle.sha256.proofs.bytes.put2.Goals as goal
use Rattle.sha256.proofs.bytes.put2.Goals.{else-at-d-via-then-at-d+then-first-d+else-second-d, else-at-d-via-then-at-d+else-first-d, else-at-d-via-else-at-d}

pub returns-then-second-d : goal.returns-then-second-d
returns-then-second-d c =
    let args = c.args in
    c.put-then-second-d.ensures
    ∙ rw c.put.ensures (written_twice args.d.now args.at args.first.now args.second.now (omega arith))

pub returns-else-at-d : goal.returns-else-at-d
returns-else-at-d c =
    let args = c.args in
    written-not_both args.d.now args.at args.first.now args.second.now (elim c.else-at-d.branch [
      | else-at-d-via-then-at-d+then-first-d+else-second-d w ↦ omega arith
      | else-at-d-via-then-at-d+else-first-d w ↦ omega arith
      | else-at-d-via-else-at-d w ↦ omega arith
    ])
