-- What the programs' arguments say. docs/OPERATING.md.
use Rattle.std.specs.Prelude.{ℕ, ◌%◌, Bool, cond, ◌&&◌, List, length, ◌==◌, nat_le}
use Rattle.lines.specs.Text.{digits_at}
use Rattle.state_files.specs.declared.arguments.LogArguments.{LogArguments}

-- The number that a word is, at most 9,999,999; 0 where it is not digits alone.
unfoldable pub number_of : List ℕ → ℕ
number_of word = cond ((digits_at word 0).next == length word) (digits_at word 0).value 0

unfoldable pub is_from : ℕ → ℕ → ℕ → Bool
is_from least most n = nat_le least n && nat_le n most

-- The public keys of 1 to 64 users, 56 bytes each.
unfoldable pub is_user_list : ℕ → Bool
is_user_list n = is_from 1 3584 n && n % 56 == 0

-- 2 to 16 servers, an own number from 1 to `most`, a log's name that is not empty, and a list of users.
unfoldable pub settings_fit : LogArguments → ℕ → List ℕ → Bool
settings_fit s most users =
    is_from 2 16 s.servers && is_from 1 most s.own && nat_le 1 s.name && is_user_list (length users)
