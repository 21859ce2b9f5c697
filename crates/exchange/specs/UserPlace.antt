-- A user's place: what is kept at 0, where the rest of it begins, and what a step leaves there.
use Rattle.std.specs.Prelude.{Bool, cond, List, ◌∷◌, ◌++◌, ℕ, ◌+◌, ◌%◌, eqb, take, drop, get_or, replicate}
use Rattle.lines.specs.Memory.{zeros}
use Rattle.sha256.specs.Bytes.{be, number_at, written}
use Rattle.tree.specs.Setup.{settings}
use Rattle.programs.specs.Key.{place_at, tree_at}
use Rattle.c_layout.specs.declared.user_start.Asked.{Asked}
use Rattle.c_layout.specs.declared.user_start.SettledAnswer.{SettledAnswer}
use Rattle.c_layout.specs.User.{settled_answer}
use Rattle.exchange.specs.declared.user_place.PlaceStep.{PlaceStep}
use Rattle.exchange.specs.declared.user_step.StepInput.{StepInput}
use Rattle.exchange.specs.declared.user_step.Layout.{Layout}
use Rattle.exchange.specs.LogName.{log_name}
use Rattle.exchange.specs.UserStep.{loaded, all_laid, step_made}

-- The call, the last step, and in it the length of the entry and the server that was asked.
abbrev pub call_at : ℕ
call_at = 46

abbrev pub step_at : ℕ
step_at = 128

abbrev pub ended_at : ℕ
ended_at = 131

abbrev pub length_at : ℕ
length_at = 134

abbrev pub asked_at : ℕ
asked_at = 136

-- The path, the signature, the hashes, a held entry, the request and the entry.
abbrev pub path_at : ℕ
path_at = 154

abbrev pub signature_at : ℕ
signature_at = 826

abbrev pub hashes_at : ℕ
hashes_at = 3334

abbrev pub held_at : ℕ
held_at = 4582

abbrev pub request_at : ℕ
request_at = 5608

abbrev pub entry_at : ℕ
entry_at = 8174

-- The request that was handed out last: its length stands behind the server's number.
unfoldable pub request_of : List ℕ → List ℕ
request_of place = take (number_at 2 place (asked_at + 1)) (drop request_at place)

-- The entry that a Read found.
unfoldable pub entry_of : List ℕ → List ℕ
entry_of place = take (number_at 2 place length_at) (drop entry_at place)

unfoldable pub has_ended : List ℕ → Bool
has_ended place = eqb (get_or place ended_at 0) 1

-- The place with all cleared but what is kept, the path and the signature.
unfoldable pub forgotten : List ℕ → List ℕ
forgotten place = written (written place call_at (zeros 108)) hashes_at (zeros 5864)

-- The kind of the start that came last, where a step of a kind comes now.
unfoldable pub last_start : ℕ → List ℕ → ℕ
last_start kind place = cond (eqb kind 0) (get_or place step_at 0) kind

-- The last step: the start, the code and the server's, whether the call has ended, the author and the length of the entry.
unfoldable pub step_bytes : ℕ → Asked → List ℕ
step_bytes last a = last ∷ a.code % 256 ∷ a.refusal % 256 ∷ a.ended % 256 ∷ (be 2 a.author ++ be 2 a.entry)

-- It is laid into the place of a user. A call that has ended leaves the server and the length of its last request, which stand behind it.
unfoldable pub step_laid : ℕ → Asked → ℕ → List ℕ → List ℕ
step_laid kind a user world =
    let at = place_at user in
    let laid = written world (at + step_at) (step_bytes (last_start kind (drop at world)) a) in
    cond (eqb (a.ended % 256) 0) (written laid (at + asked_at) (a.server % 256 ∷ be 2 a.length)) laid

-- Where the bytes of a user stand in a slice with the users' places and, from `keys` on, their keys.
unfoldable pub place_layout : ℕ → ℕ → ℕ → Layout
place_layout user keys name =
    let at = place_at user in
    record {
      kept = at;
      path = at + path_at;
      signature = at + signature_at;
      call = at + call_at;
      hashes = at + hashes_at;
      held = at + held_at;
      request = at + request_at;
      entry = at + entry_at;
      users = keys;
      tree = keys + tree_at name;
    }

-- What a step is made with: the own key has the own number as one byte, 16 times as its identifier and 32 times as its seed.
unfoldable pub made_with : PlaceStep → StepInput
made_with s =
    let name = s.own % 256 in
    record {
      servers = s.servers;
      own = s.own;
      log = log_name;
      id = replicate 16 name;
      seed = replicate 32 name;
      randomizer = replicate 32 (s.number % 256);
      kind = s.kind;
      position = s.number;
      users = s.users;
      tree = s.tree;
      request = s.request;
      entry = s.entry;
    }

-- The slice after a step.
unfoldable pub step_on : PlaceStep → ℕ → ℕ → List ℕ → List ℕ → List ℕ
step_on s user keys input world =
    let at = place_layout user keys (s.own % 256) in
    let o = step_made (made_with s) at input world in
    step_laid s.kind o.result user (all_laid at o.lent world)

-- What is kept, and whether the own operation at the settings' number is settled.
unfoldable pub kept_in : List ℕ → List ℕ
kept_in place = loaded place 0 (zeros 46)

unfoldable pub settled_on : PlaceStep → List ℕ → List ℕ → SettledAnswer
settled_on s keys place =
    settled_answer (settings s.servers s.own log_name (take s.users keys)) (kept_in place) s.number
