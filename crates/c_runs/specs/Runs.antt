-- Lists of calls of the exported functions, over bytes: whole runs with servers that follow the rules, and honest runs with all of them.
use Rattle.std.specs.Prelude.{List, [], ◌∷◌, ℕ, take}
use Rattle.user.specs.declared.call.StepResult.{StepResult}
use Rattle.user_calls.specs.Calls.{Input, answer}
use Rattle.c_layout.specs.Server.{head_of, ServerOutcome, server_answered}
use Rattle.whole_run.specs.World.{Setup, settings_for, Sent, events_of}
use Rattle.whole_run.specs.Runs.{WorldOf, World, NewWorld, Step, user, drops, server, with_user, with_server, server_events, Server, set}
use Rattle.honest_run.specs.Network.{HonestSetup, public_to, settings_in, Network, Kind}
use Rattle.c_runs.specs.Bytes.{UserBytes, user_of, step_of, called, user_called, call_dropped, ServerBytes}
use Rattle.c_runs.specs.Bytes.{server_bytes_after, new_user_bytes, new_server_bytes}

-- All users and servers in bytes, and what was noted, the newest first; the world that they stand for.
abbrev pub ByteWorld : Type 0
ByteWorld = WorldOf UserBytes ServerBytes

unfoldable pub server_of : ServerBytes → Server
server_of h = record { head = head_of h.head; store = h.store; used = h.used }

unfoldable pub world_of : ByteWorld → World
world_of w = record { users = λ a. user_of (w.users a); servers = λ s. server_of (w.servers s); log = w.log }

-- A step is a call of an exported function, or a caller drops a user's call.
unfoldable pub call_step : Setup → ByteWorld → Step → ByteWorld
call_step g w (user a i) = let s = settings_for g a in let u = w.users a in with_user w a (user_called s u i) (events_of s (user_of u) i)
call_step g w (drops a) = with_user w a (call_dropped (w.users a)) []
call_step g w (server s q buffer) = let h = w.servers s in
    let o = server_answered g.servers s g.log g.users h.head h.store h.used q buffer in
    with_server w s (server_bytes_after o) (server_events s q o.result.answer o.answer)

-- A list of such calls, the last one first, from the zero bytes on.
unfoldable pub byte_run : Setup → NewWorld → List Step → ByteWorld
byte_run g b [] = record { users = new_user_bytes b; servers = new_server_bytes b; log = [] }
byte_run g b (x ∷ xs) = call_step g (byte_run g b xs) x

-- All users and all servers in bytes, and the network that they stand for.
pub record ByteNetwork : Type 0 where
  pub users : ℕ → UserBytes
  pub servers : ℕ → ServerBytes

unfoldable pub network_of : ByteNetwork → Network
network_of w = record { users = λ a. user_of (w.users a); servers = λ s. server_of (w.servers s) }

-- What the server that a request is sent to makes of it; its state once the request of user a has arrived, and the answer that comes back.
unfoldable pub reply_bytes : HonestSetup → ByteNetwork → Sent → ServerOutcome
reply_bytes c w x = let h = w.servers x.server in
    let users = public_to c c.count in
    server_answered c.servers x.server c.log users h.head h.store h.used x.bytes (c.answers x.server)

unfoldable pub byte_arrives : HonestSetup → ByteNetwork → ℕ → ByteNetwork
byte_arrives c w a =
    let x = (w.users a).sent in
    record { users = w.users; servers = set w.servers x.server (server_bytes_after (reply_bytes c w x)) }

unfoldable pub byte_answer : HonestSetup → ByteNetwork → ℕ → Input
byte_answer c w a = let o = reply_bytes c w (w.users a).sent in answer (take o.result.answer o.answer)

-- A call of user a's function.
unfoldable pub byte_steps : HonestSetup → ByteNetwork → ℕ → Input → ByteNetwork
byte_steps c w a i = record { users = set w.users a (user_called (settings_in c a) (w.users a) i); servers = w.servers }

-- So whole calls and lists of calls are those of `honest_run`, of this kind of network, from the zero bytes on. A step hands back what the
-- function gives.
abbrev pub in_bytes : HonestSetup → Kind
in_bytes c = let hands : ByteNetwork → ℕ → Input → StepResult = λ w a i. step_of (called (settings_in c a) (w.users a) i).result in
    let steps = byte_steps c in
    record { State = ByteNetwork; seen = network_of; arrives = byte_arrives c; steps = steps; hands = hands; comes_back = byte_answer c }

unfoldable pub zero_network : NewWorld → ByteNetwork
zero_network b = record { users = new_user_bytes b; servers = new_server_bytes b }
