use Rattle.sha256.proofs.Numbers.{copied}
use Rattle.sha256.proofs.Laws.{written-not}
use Rattle.std.proofs.Common.{sym, ◌∙◌, arith}
use Rattle.sha256.proofs.bytes.put.Goals as goal
use Rattle.sha256.proofs.bytes.put.Goals.{else-src-d-via-then-src-d+else-at-d, else-src-d-via-else-src-d}

pub returns-then-at-d : goal.returns-then-at-d
returns-then-at-d c =
    let args = c.args in
    c.copy.ensures ∙ copied args.d.now args.at args.src.now (omega arith)

pub returns-else-src-d : goal.returns-else-src-d
returns-else-src-d c =
    let args = c.args in
    sym (written-not args.d.now args.at args.src.now (elim c.else-src-d.branch [
      | else-src-d-via-then-src-d+else-at-d w ↦ omega arith
      | else-src-d-via-else-src-d w ↦ omega arith
    ]))
