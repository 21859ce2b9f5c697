use Rattle.sha256.proofs.Numbers.{number_four_from}
use Rattle.sha256.proofs.bytes.u32_at.Goals as goal

pub returns : goal.returns
returns c =
    rw (
      c.from_be_bytes.ensures,
      c.byte_at-4.ensures,
      c.byte_at-3.ensures,
      c.byte_at-2.ensures,
      c.byte_at.ensures,
      c.from-t.ensures,
    ) (number_four_from _ _)
