-- Users and servers as C callers keep them, in bytes, and what a call of an exported function makes of them.
use Rattle.std.specs.Prelude.{cond, List, [], ℕ, eqb, replicate}
use Rattle.tree.specs.Setup.{Settings}
use Rattle.user.specs.declared.call.StepResult.{StepResult}
use Rattle.user.specs.declared.call.Found.{Found}
use Rattle.user.specs.Outcome.{Key, key_of, Lent, Outcome}
use Rattle.user_calls.specs.Calls.{Call, idle, Input, start_update, start_write, start_read, start_give_up, answer}
use Rattle.c_layout.specs.declared.user_start.Asked.{Asked}
use Rattle.c_layout.specs.User.{UserLent, user_lent, state_in, lent_in, call_of, UserOutcome, update_begun}
use Rattle.c_layout.specs.User.{write_begun, read_begun, give_up_begun, user_answered}
use Rattle.c_layout.specs.Server.{ServerOutcome}
use Rattle.whole_run.specs.World.{Sent, none_out, Reading, User, after}
use Rattle.whole_run.specs.Runs.{NewWorld}

-- What the caller of a user's functions keeps from call to call: the bytes that it lends them, and the key. Noted of it are its last
-- request, the end of its accepted view, and what it has read.
pub record UserBytes : Type 0 where
  pub bytes : UserLent
  pub key : Key
  pub sent : Sent
  pub view : ℕ
  pub reads : List Reading

-- The user that they stand for. Its call goes on while a request is out: the bytes of a call that has ended stay as they are.
unfoldable pub user_of : UserBytes → User
user_of u =
    let b = u.bytes in
    let call = cond (eqb u.sent.server 0) idle (call_of b.call) in
    record { state = state_in b; call = call; lent = lent_in b u.key; sent = u.sent; view = u.view; reads = u.reads }

-- The step that a function's result stands for, and with the bytes after the call what the step leaves.
unfoldable pub step_of : Asked → StepResult
step_of r = record { code = r.code; refusal = r.refusal; ended = eqb r.ended 1; server = r.server; length = r.length }

unfoldable pub outcome_of : UserOutcome → Key → Outcome Call
outcome_of o key =
    let l = o.lent in
    let found : Found = record { author = o.result.author; length = o.result.entry } in
    record { step = step_of o.result; found = found; state = state_in l; call = call_of l.call; lent = lent_in l key }

-- A start's function changes buffers that it is lent. Those that it is not lent are as the caller has them, m being the memory for the new
-- call. What is kept is changed by a give-up's start alone.
unfoldable pub begun : UserLent → Lent → List ℕ → List ℕ → UserOutcome → UserOutcome
begun b m kept held o =
    let l = o.lent in
    record { result = o.result; lent = user_lent kept b.path b.signature l.call m.hashes held l.request m.entry }

-- What the exported function for an input gives and leaves, and the key that is lent with it.
unfoldable pub called : Settings → UserBytes → Input → UserOutcome
called s u (start_update m) = let b = u.bytes in begun b m b.kept m.held (update_begun s b.kept b.call m.request)
called s u (start_write m entry randomizer) = let b = u.bytes in
    let o = write_begun s m.key.tree entry randomizer b.kept b.path b.call m.held m.request in
    begun b m b.kept o.lent.held o
called s u (start_read m i) = let b = u.bytes in
    begun b m b.kept m.held (read_begun s i b.kept b.call m.request m.entry)
called s u (start_give_up m) = let b = u.bytes in
    let o = give_up_begun s b.kept b.path b.call m.request in
    begun b m o.lent.kept m.held o
called s u (answer a) = user_answered s u.bytes u.key a

unfoldable pub key_for : UserBytes → Input → Key
key_for u (start_update m) = m.key
key_for u (start_write m entry randomizer) = m.key
key_for u (start_read m i) = m.key
key_for u (start_give_up m) = m.key
key_for u (answer a) = u.key

-- The user after a call of a function, with what is noted of it. After a refusal the caller goes on with the bytes that it had: they are as
-- they were (c_layout/proofs/Refusals.antt).
unfoldable pub user_called : Settings → UserBytes → Input → UserBytes
user_called s u i =
    let o = called s u i in
    let v = after (user_of u) (outcome_of o (key_for u i)) in
    cond (eqb o.result.code 0) (record { bytes = o.lent; key = key_for u i; sent = v.sent; view = v.view; reads = v.reads }) u

-- A caller drops a user's call: zero bytes stand for none.
unfoldable pub cleared : UserLent → UserLent
cleared b = user_lent b.kept b.path b.signature (replicate 82 0) b.hashes b.held b.request b.entry

unfoldable pub call_dropped : UserBytes → UserBytes
call_dropped u = record { bytes = cleared u.bytes; key = u.key; sent = none_out; view = u.view; reads = u.reads }

-- What the caller of a server's function keeps, and that after a call.
pub record ServerBytes : Type 0 where
  pub head : List ℕ
  pub store : List ℕ
  pub used : ℕ

unfoldable pub server_bytes_after : ServerOutcome → ServerBytes
server_bytes_after o = record { head = o.head; store = o.store; used = o.result.used }

-- Callers begin with zero bytes (include/kozbrax.h): "all zero for a new user", its call's too, and a server's head "all zero at first".
-- Path, signature and store have the contents that a new world leaves free; what it says of a digest and of a head's author plays no part.
unfoldable pub new_user_bytes : NewWorld → ℕ → UserBytes
new_user_bytes b a =
    let bytes = user_lent (replicate 46 0) (b.users a).path (b.users a).signature (replicate 82 0) [] [] [] [] in
    record { bytes = bytes; key = key_of [] [] []; sent = none_out; view = 0; reads = [] }

unfoldable pub new_server_bytes : NewWorld → ℕ → ServerBytes
new_server_bytes b s = record { head = replicate 79 0; store = (b.servers s).store; used = 0 }
