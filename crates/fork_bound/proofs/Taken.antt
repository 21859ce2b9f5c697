-- What H accepted of a user's Reserves and was not given up since; and how it stays so while more is noted.
use mathlib.Core.Path.{◌≡◌}
use mathlib.Core.Bool.{true}
use mathlib.Core.List.{List, ◌++◌, Memᴰ}
use mathlib.Core.Logic.{◌⊎◌, inl, inr}
use Prim.Native.Nat.{ℕ, suc, ◌≤◌, ◌<◌}
use Rattle.tree.specs.Level.{lg}
use Rattle.tree.specs.Label.{owner}
use Rattle.tree.specs.Message.{request, request_kind, request_position, request_body, answer_code, signed_text}
use Rattle.user.specs.Outcome.{State}
use Rattle.user_calls.specs.Calls.{Call, idle, updating, writing, reading, giving_up}
use Rattle.whole_run.specs.World.{Event, signed, handed_out, answered, Noted, User}
use Rattle.fork_bound.specs.Fair.{Account, Belongs}
use Rattle.fork_bound.proofs.Noted.{Whole}
use Rattle.fork_bound.proofs.Order.{noted-later, noted-before}
use Rattle.fork_bound.proofs.States.{open_position, open_digest}

-- r gives up position p with digest δ
abbrev pub GivesUp : ℕ → List ℕ → List ℕ → Type 0
GivesUp p δ r = (request_kind r ≡ 9) × (request_position r ≡ p) × (request_body r ≡ δ)

-- what an answer belongs to stays so
pub belongs_later : (H : ℕ) (account : Account) (es log : List Event) (a j i : ℕ) (q : List ℕ) → Belongs H account a log j i q
    → Belongs H account a (es ++ log) j i q
unfolding Belongs
belongs_later H account es log a j i q b = (b.0, b.1, noted-later es log _ _ b.2)

module _ (W : Whole) where
  abbrev H : ℕ
  H = W.follows

  -- H accepted this Reserve of user a; its answer belongs to a handing-out since each give-up of it that the user had handed out to H
  pub record Took (log : List Event) (a p l : ℕ) (δ : List ℕ) : Type 0 where
    pub answer : List ℕ
    pub number : ℕ
    pub given : Noted log number (answered H (request 5 W.group.log a p l δ) answer)
    pub code : answer_code answer ≡ 0
    pub since : (m : ℕ) (r : List ℕ) → Noted log m (handed_out a H r) → GivesUp p δ r
        → (i : ℕ) × (m < i) × Belongs H W.account a log number i (request 5 W.group.log a p l δ)

  -- no give-up of it is handed out
  abbrev pub NoneGivesUp : List Event → ℕ → ℕ → List ℕ → Type 0
  NoneGivesUp es a p δ = (r : List ℕ) → Memᴰ (handed_out a H r) es → GivesUp p δ r → ⊥

  pub took-later : (es log : List Event) (a p l : ℕ) (δ : List ℕ) → NoneGivesUp es a p δ → Took log a p l δ → Took (es ++ log) a p l δ
  took-later es log a p l δ none t =
      record {
        answer = t.answer;
        number = t.number;
        given = noted-later es log _ _ t.given;
        code = t.code;
        since = λ m r y e. elim (noted-before es log m _ y) [
          | inl z ↦ (let i = t.since m r z e in (i.0, i.1, belongs_later H W.account es log a _ _ _ i.2))
          | inr z ↦ absurd (none r z.0 e)
        ];
      }

  -- H accepted the Reserves of levels below j that are its own to accept
  abbrev pub TookBelow : List Event → ℕ → ℕ → List ℕ → ℕ → Type 0
  TookBelow log a p δ j = (l : ℕ) → l < j → l ≤ lg p → owner W.group.servers p l ≡ H → Took log a p l δ

  -- and so those of the open write that a call goes on with
  abbrev pub CallTook : List Event → ℕ → State → Call → Type 0
  CallTook log a σ idle = Unit {0}
  CallTook log a σ (updating c) = Unit {0}
  CallTook log a σ (writing w) = w.opened ≡ true → TookBelow log a (open_position σ) (open_digest σ) w.answers
  CallTook log a σ (reading r) = Unit {0}
  CallTook log a σ (giving_up g) = Unit {0}

  -- a position that a user gives up no more: it is within the version, or the open write's, signed
  abbrev pub Passed : ℕ → State → Type 0
  Passed p σ = (p ≤ σ.kept.version) ⊎ ((p ≡ open_position σ) × (σ.kept.opened ≡ true) × (σ.kept.signed ≡ true))

  -- what stands behind a signature at H
  pub record Firm (log : List Event) (a : ℕ) (σ : State) (text : List ℕ) : Type 0 where
    pub p : ℕ
    pub δ : List ℕ
    pub is : text ≡ signed_text W.group.log p δ
    pub small : p ≤ 1048576
    pub took : TookBelow log a p δ (suc (lg p))
    pub passed : Passed p σ

  -- what holds of user a with what was noted
  pub record Guarded (log : List Event) (a : ℕ) (u : User) : Type 0 where
    pub signs : (text : List ℕ) → Memᴰ (signed a text) log → Firm log a u.state text
    pub call : CallTook log a u.state u.call

  -- steps of others: no request of user a is handed out, and nothing signed
  pub guarded_later : (es log : List Event) (a : ℕ) (u : User) → ((s : ℕ) (r : List ℕ) → Memᴰ (handed_out a s r) es → ⊥)
      → ((text : List ℕ) → Memᴰ (signed a text) (es ++ log) → Memᴰ (signed a text) log) → Guarded log a u → Guarded (es ++ log) a u
  guarded_later es log a u none old k =
      record { signs = λ t m. firm t (k.signs t (old t m)); call = on_call u.call k.call }
    where
      below : (p : ℕ) (δ : List ℕ) (j : ℕ) → TookBelow log a p δ j → TookBelow (es ++ log) a p δ j
      below p δ j t l h b o = took-later es log a p l δ (λ r y _. none H r y) (t l h b o)

      firm : (t : List ℕ) → Firm log a u.state t → Firm (es ++ log) a u.state t
      firm t f =
          record { p = f.p; δ = f.δ; is = f.is; small = f.small; took = below f.p f.δ (suc (lg f.p)) f.took; passed = f.passed }

      on_call : (c : Call) → CallTook log a u.state c → CallTook (es ++ log) a u.state c
      on_call idle t = tt
      on_call (updating c) t = tt
      on_call (writing w) t = λ e. below (open_position u.state) (open_digest u.state) w.answers (t e)
      on_call (reading r) t = tt
      on_call (giving_up g) t = tt
