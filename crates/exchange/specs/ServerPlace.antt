-- A server's place, one slice: the head at 0, the store's used length at 80, the store from 88 on.
use Rattle.std.specs.Prelude.{◌≡◌, cond, List, ◌++◌, ℕ, leb, length, take, drop}
use Rattle.sha256.specs.Bytes.{be, number_at, written}
use Rattle.c_layout.specs.declared.serving.Served.{Served}
use Rattle.c_layout.specs.Server.{ServerOutcome, server_answered}
use Rattle.exchange.specs.LogName.{log_name}

-- The head as `c_layout` has it.
unfoldable pub head_in : List ℕ → List ℕ
head_in place = take 79 place

-- The place with a head and a used length.
unfoldable pub head_laid : List ℕ → ℕ → List ℕ → List ℕ
head_laid head used place = written (written place 0 head) 80 (be 4 used)

-- What a call leaves: its result, the place and the answer.
pub record PlaceServed : Type 0 where
  pub result : Served
  pub place : List ℕ
  pub answer : List ℕ

-- A place with what the call of `c_layout` left.
unfoldable pub served_laid : List ℕ → ServerOutcome → PlaceServed
served_laid place o =
    record { result = o.result; place = head_laid o.head o.result.used (take 88 place ++ o.store); answer = o.answer }

-- Where the place has no store nothing is done, and the code is 22.
unfoldable pub no_store : List ℕ → List ℕ → PlaceServed
no_store place answer = record { result = record { code = 22; answer = 0; used = 0 }; place = place; answer = answer }

-- One call of a server, whose store goes to the place's end.
unfoldable pub place_served : ℕ → ℕ → List ℕ → List ℕ → List ℕ → List ℕ → PlaceServed
place_served servers own users place request answer =
    cond (leb 88 (length place))
    (served_laid place (server_answered servers own log_name users (head_in place) (drop 88 place) (number_at 4 place 80) request answer))
    (no_store place answer)

-- What is handed back and what is in the place and in the answer after a call are what it leaves.
abbrev pub PlaceYields : PlaceServed → Served → List ℕ → List ℕ → Type 0
PlaceYields l r place answer = (r ≡ l.result) × ((place ≡ l.place) × (answer ≡ l.answer))
