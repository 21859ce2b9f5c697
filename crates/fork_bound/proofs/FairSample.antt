-- The premises can be met by a list in which H accepts a give-up: the computed one.
use mathlib.Core.Path.{◌≡◌, refl, ap, sym, ◌∙◌, subst}
use mathlib.Core.List.{List, ◌∷◌}
use mathlib.Core.Logic.{inl}
use Prim.Native.Nat.{ℕ}
use native.Mathlib.Omega.{arith}
use lib.ListN.{length}
use Rattle.tree.specs.Message.{request_kind, request_author}
use Rattle.user_calls.specs.Calls.{answer}
use Rattle.whole_run.specs.World.{Event, handed_out, answered, Noted, User}
use Rattle.whole_run.specs.Runs.{run, step, with_server}
use Rattle.fork_bound.specs.Fair.{FairInput, FairStep, Fair, Belongs, Gave, InTime, as_messages, any_earlier}
use Rattle.fork_bound.specs.Sample.{group, zeros_first, noted, out, fresh, asks_server_1, server_1_answers, reserves, server_1_reserves}
use Rattle.fork_bound.specs.Sample.{gives_up, server_1_gives_up, given_up, closes, Asked, Reserved, GivenUp, write_given_up}
use Rattle.fork_bound.proofs.Order.{noted_below}

other_kind : (q : List ℕ) (k j : ℕ) → (k ≡ j → ⊥) → request_kind q ≡ k → request_kind q ≡ j → ⊥
other_kind q k j n a b = n (sym a ∙ b)

-- the answer noted last is one that H gave to this request, which is no Reserve
given-last : (log before : List Event) (q x : List ℕ) → log ≡ answered 1 q x ∷ before → (request_kind q ≡ 5 → ⊥) → Gave 1 any_earlier 1 log q x
unfolding Gave Noted
given-last log before q x e n = subst (λ l. Gave 1 any_earlier 1 l q x) (sym e) (length before, inl (refl, refl), λ five. absurd (n five))

-- a give-up that was handed out last is in time
in_time : (log before : List Event) (q : List ℕ) → request_author q ≡ 1 → log ≡ handed_out 1 1 q ∷ before → InTime 1 any_earlier log q
unfolding InTime Belongs Noted any_earlier
in_time log before q by e =
    let author : (l : List Event) → l ≡ handed_out 1 1 q ∷ before → Noted l (length before) (handed_out (request_author q) 1 q) =
    λ l f. rw (f, by) (inl (refl, refl)) in (
      length before,
      (refl, omega (arith, ap length e), author log e),
      λ i j r x five n b later. absurd (omega (arith, noted_below log j _ n, b.1, ap length e)),
    )

pub give_up_is_fair : Fair group 1 (as_messages 1 any_earlier) (run group zeros_first) closes
unfolding Fair FairStep FairInput as_messages run step with_server
give_up_is_fair = (
  (tt, λ _ _. told),
  (
    (λ _ _ _. in_time (noted gives_up) (noted server_1_reserves) (out gives_up) gave.2 gave.3),
    (
      (tt, λ _. tt),
      (
        (λ _ nine _. absurd (other_kind (out reserves) 5 9 (λ z. omega arith) reserved.0 nine)),
        (
          (tt, λ _ e. absurd (omega (arith, e, asked.2))),
          (
            (tt, λ _ _. status),
            (
              (λ _ nine _. absurd (other_kind (out asks_server_1) 1 9 (λ z. omega arith) asked.1 nine)),
              ((refl, λ _. tt), tt),
            ),
          ),
        ),
      ),
    ),
  ),
)
  where
    asked : Asked
    asked = write_given_up.0

    reserved : Reserved
    reserved = write_given_up.1

    gave : GivenUp
    gave = write_given_up.2

    told : Gave 1 any_earlier 1 (noted server_1_gives_up) (out gives_up) given_up
    told = given-last (noted server_1_gives_up) (noted gives_up) (out gives_up) given_up gave.4 (other_kind (out gives_up) 9 5 (λ z. omega arith) gave.0)

    status : Gave 1 any_earlier 1 (noted server_1_answers) (out asks_server_1) (fresh 1)
    status =
        given-last (noted server_1_answers) (noted asks_server_1) (out asks_server_1) (fresh 1) asked.0
        (other_kind (out asks_server_1) 1 5 (λ z. omega arith) asked.1)
