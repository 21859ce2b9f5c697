use Rattle.sha256.proofs.Numbers.{number-two-from}
use Rattle.sha256.proofs.bytes.u16_at.Goals as goal

pub returns : goal.returns
returns c = rw (c.from_be_bytes.ensures, c.byte_at-2.ensures, c.byte_at.ensures, c.from-t.ensures) (number-two-from _ _)
