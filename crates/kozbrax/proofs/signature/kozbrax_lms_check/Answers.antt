use Rattle.std.specs.Prelude.{◌≡◌, ℕ, Option, Some, None}
use Rattle.std.specs.Option.{unwrap_or}
use Rattle.std.proofs.Common.{refl, ◌∙◌}
use Rattle.lms.proofs.ByType.{ots_three, lms_six}
use Rattle.kozbrax.specs.Lms.{number_given}
use Rattle.kozbrax.proofs.signature.kozbrax_lms_check.Goals as goal

given : (o : Option ℕ) → unwrap_or o 4294967295 ≡ number_given o
given None = refl
given (Some n) = refl

pub returns : goal.returns
returns c = rw (← ots_three, ← lms_six, ← c.check.ensures) (c.unwrap_or.ensures ∙ given c.check.result)
