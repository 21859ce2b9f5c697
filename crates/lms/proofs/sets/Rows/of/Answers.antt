use Rattle.lms.proofs.ByType.{row_of, height_of}
use Rattle.lms.proofs.sets.Rows.of.Goals as goal

pub invariant_of-result : goal.invariant_of-result
invariant_of-result c = record {
  is_row = rw c.ots.ensures (row_of c.args.otstype);
  is_low = rw c.lms.ensures (height_of c.args.lmstype);
}
