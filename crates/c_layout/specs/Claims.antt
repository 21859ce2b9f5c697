-- What holds of every refused call over lent bytes, whatever the code.
use Rattle.std.specs.Prelude.{◌≡◌, List, [], ℕ}
use Rattle.tree.specs.Setup.{Settings}
use Rattle.user.specs.Outcome.{Key}
use Rattle.c_layout.specs.User.{UserLent, user_lent, UserOutcome, update_begun, write_begun, read_begun, give_up_begun, user_answered}

-- A call that was refused left these bytes.
abbrev pub RefusedLeaves : UserLent → UserOutcome → Type 0
RefusedLeaves m o = (o.result.code ≡ 0 → ⊥) → o.lent ≡ m

-- Each call as C makes it: an answer, and each start in the bytes that it is lent.
pub record EachLeaves (s : Settings) : Type 0 where
  pub answer : (m : UserLent) (key : Key) (a : List ℕ) → RefusedLeaves m (user_answered s m key a)
  pub update : (kept call request : List ℕ) → RefusedLeaves (user_lent kept [] [] call [] [] request []) (update_begun s kept call request)
  pub write : (tree entry randomizer kept path call held request : List ℕ)
      → RefusedLeaves (user_lent kept path [] call [] held request []) (write_begun s tree entry randomizer kept path call held request)
  pub read : (i : ℕ) (kept call request entry : List ℕ)
      → RefusedLeaves (user_lent kept [] [] call [] [] request entry) (read_begun s i kept call request entry)
  pub give_up : (kept path call request : List ℕ)
      → RefusedLeaves (user_lent kept path [] call [] [] request []) (give_up_begun s kept path call request)

-- Document 01, 'Codes', what is left by each that a user's call returns: "user's state, lent buffers; an open write stays open", "same".
-- Every lent byte is as it was.
unfoldable pub RefusalLeavesAllBytes : Type 0
RefusalLeavesAllBytes = (s : Settings) → EachLeaves s
