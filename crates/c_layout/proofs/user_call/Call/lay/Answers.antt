use Rattle.std.proofs.Common.{ap, ap₂, List, ℕ, ◌∷◌, [], ◌++◌}
use Rattle.user_calls.specs.Calls.{updating, writing, reading, giving_up}
use Rattle.c_layout.specs.User.{call_bytes}
use Rattle.c_layout.proofs.States.{mark_cast, call-laid, call-left, call_none}
use Rattle.c_layout.proofs.user_call.Call.lay.Goals as goal

pub returns-then-code-ne0 : goal.returns-then-code-ne0
returns-then-code-ne0 c = call-left _ _ _ c.if-code-ne0.true

pub returns-in-Idle : goal.returns-in-Idle
returns-in-Idle c = rw c.in-Idle.is (call_none _ _)

pub returns-in-Updating : goal.returns-in-Updating
unfolding call_bytes
returns-in-Updating c =
    rw c.in-Updating.is (call-laid _ (updating c.in-Updating.u) _ _ _ c.if-code-ne0.false c.update_bytes.ensures c.put.ensures)

pub returns-in-Writing : goal.returns-in-Writing
unfolding call_bytes
returns-in-Writing c =
    let parts = ap₂ (λ (x y : List ℕ). x ++ y) c.update_bytes-in-Writing.ensures c.write_rest.ensures in
    rw c.in-Writing.is (call-laid _ (writing c.in-Writing.w) _ _ _ c.if-code-ne0.false parts c.put2.ensures)

pub returns-in-Reading : goal.returns-in-Reading
returns-in-Reading c =
    rw c.in-Reading.is (call-laid _ (reading c.in-Reading.r) _ _ _ c.if-code-ne0.false c.read_bytes.ensures c.put-in-Reading.ensures)

pub returns-in-GivingUp : goal.returns-in-GivingUp
unfolding call_bytes
returns-in-GivingUp c =
    let mark = ap (λ (x : ℕ). 4 ∷ x ∷ []) (mark_cast c.in-GivingUp.g.waits) in
    rw c.in-GivingUp.is (call-laid _ (giving_up c.in-GivingUp.g) _ _ _ c.if-code-ne0.false mark c.put-in-GivingUp.ensures)
