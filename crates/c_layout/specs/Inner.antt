-- What only inner contracts cite: a group's numbers as the crates below take them, and the source's types of calls and buffers.
use Rattle.std.specs.Prelude.{◌≡◌, List, ℕ, min}
use Rattle.tree.specs.declared.setup.Config.{Config}
use Rattle.user_calls.specs.Calls.{Call, idle, updating, writing, reading, giving_up}
use Rattle.c_layout.specs.declared.user_call.Call.{Call as SourceCall}
use Rattle.c_layout.specs.declared.user_answer.Buffers.{Buffers}
use Rattle.c_layout.specs.User.{UserLent, user_lent}

-- A number that does not fit its bytes is taken for the greatest that does.
unfoldable pub config_of : ℕ → ℕ → List ℕ → Config
config_of servers own log = record { servers = min servers 255; own = min own 65535; log = log }

-- A value of the source's enum as the call that the definitions speak of.
abbrev pub call_meant : SourceCall → Call
call_meant SourceCall.Idle = idle
call_meant (SourceCall.Updating u) = updating u
call_meant (SourceCall.Writing w) = writing w
call_meant (SourceCall.Reading r) = reading r
call_meant (SourceCall.GivingUp g) = giving_up g

-- The bytes in the lent buffers.
abbrev pub lent_bytes : Buffers → UserLent
lent_bytes m = user_lent m.kept.now m.path.now m.signature.now m.call.now m.hashes.now m.held.now m.request.now m.entry.now

-- The second lends the same memory as the first, whatever bytes stand in it.
pub record SameBuffers (a b : Buffers) : Type 0 where
  pub kept : b.kept.ghost_name ≡ a.kept.ghost_name
  pub path : b.path.ghost_name ≡ a.path.ghost_name
  pub signature : b.signature.ghost_name ≡ a.signature.ghost_name
  pub call : b.call.ghost_name ≡ a.call.ghost_name
  pub hashes : b.hashes.ghost_name ≡ a.hashes.ghost_name
  pub held : b.held.ghost_name ≡ a.held.ghost_name
  pub request : b.request.ghost_name ≡ a.request.ghost_name
  pub entry : b.entry.ghost_name ≡ a.entry.ghost_name
