-- The zero bytes that callers begin with stand for new users and new servers; so do those of a call that is dropped for none.
use mathlib.Core.Path.{◌≡◌, refl, subst, sym}
use mathlib.Core.Bool.{true}
use mathlib.Core.List.{List}
use Prim.Native.Nat.{ℕ}
use native.Mathlib.Omega.{arith}
use lib.ListN.{replicate, length-replicate}
use Rattle.sha256.specs.Bytes.{number_at}
use Rattle.tree.specs.Setup.{Settings}
use Rattle.tree.proofs.Cases.{not_both}
use Rattle.user.specs.Asking.{refused}
use Rattle.server.specs.Serve.{none_earlier}
use Rattle.user.specs.Outcome.{no_progress, State, Lent}
use Rattle.user_calls.specs.Calls.{taken}
use Rattle.c_layout.specs.User.{progress_of, marks_fit, kept_of, call_of}
use Rattle.c_layout.specs.Server.{earlier_of, head_of}
use Rattle.whole_run.specs.World.{dropped}
use Rattle.whole_run.specs.Runs.{NewUser, NewServer, new_user, new_server, NewWorld}
use Rattle.fork_bound.proofs.Events.{stray}
use Rattle.c_runs.specs.Bytes.{UserBytes, user_of, cleared, call_dropped, new_user_bytes, new_server_bytes}
use Rattle.c_runs.proofs.Users.{Laid}
use Rattle.c_runs.proofs.Servers.{HeadSmall}

abbrev pub zero_user : NewWorld → ℕ → NewUser
zero_user b a =
    record {
      digest = replicate 32 0;
      path = (b.users a).path;
      signature = (b.users a).signature;
      path_size = (b.users a).path_size;
      signature_size = (b.users a).signature_size;
    }

abbrev pub zero_server : NewWorld → ℕ → NewServer
zero_server b s = record { author = 0; digest = replicate 32 0; store = (b.servers s).store; digest_size = length-replicate {A = ℕ} 32 0 }

pub user-zero : (b : NewWorld) (a : ℕ) → user_of (new_user_bytes b a) ≡ new_user (zero_user b a)
unfolding user_of new_user_bytes new_user kept_of marks_fit progress_of no_progress number_at
user-zero b a = refl

pub head-zero : (b : NewWorld) (s : ℕ) → head_of (new_server_bytes b s).head ≡ (new_server (zero_server b s)).head
unfolding head_of earlier_of new_server_bytes new_server none_earlier number_at
head-zero b s = refl

pub head-zero-small : (b : NewWorld) (s : ℕ) → HeadSmall (head_of (new_server_bytes b s).head)
unfolding new_server none_earlier
head-zero-small b s =
    subst HeadSmall (sym (head-zero b s))
    (record {
      now = record { at = omega arith; low = omega arith; by = omega arith; size = length-replicate {A = ℕ} 32 0 };
      before = record { at = omega arith; low = omega arith; by = omega arith; size = length-replicate {A = ℕ} 32 0 };
    })

-- zero bytes take no answer
none_over : (s : Settings) (σ : State) (m : Lent) (a : List ℕ) → (taken s σ m (call_of (replicate 82 0)) a).step.code ≡ 0 → ⊥
unfolding call_of taken refused
none_over s σ m a = stray s σ m

pub laid-zero : (s : Settings) (b : NewWorld) (a : ℕ) → Laid s (new_user_bytes b a)
unfolding new_user_bytes kept_of marks_fit number_at
laid-zero s b a =
    record {
      kept = record { digest = refl; version = omega arith; number = omega arith };
      size = length-replicate {A = ℕ} 82 0;
      goes = λ e. not_both true refl e;
      over = λ _ x. none_over s _ _ x;
    }

pub user-dropped : (u : UserBytes) → user_of (call_dropped u) ≡ dropped (user_of u)
unfolding user_of call_dropped cleared dropped
user-dropped u = refl

pub laid-dropped : (s : Settings) (u : UserBytes) → Laid s u → Laid s (call_dropped u)
unfolding call_dropped cleared
laid-dropped s u l =
    record { kept = l.kept; size = length-replicate {A = ℕ} 82 0; goes = λ e. not_both true refl e; over = λ _ x. none_over s _ _ x }
