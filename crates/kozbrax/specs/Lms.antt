-- The answer of a check as one number.
use Rattle.std.specs.Prelude.{ℕ, Option, Some, None}

-- The number used, or 4294967295 for no.
abbrev pub number_given : Option ℕ → ℕ
number_given None = 4294967295
number_given (Some n) = n
