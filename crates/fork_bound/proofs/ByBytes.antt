-- The claim where requests are told apart by their bytes alone follows: an answer then belongs to every earlier handing-out of its bytes.
use mathlib.Core.Path.{refl}
use mathlib.Core.List.{List, [], ◌∷◌}
use Prim.Native.Nat.{ℕ}
use Rattle.user_calls.specs.Calls.{Input, start_update, start_write, start_read, start_give_up, answer}
use Rattle.whole_run.specs.World.{Setup, Event, User}
use Rattle.whole_run.specs.Runs.{World, Step, user, drops, server}
use Rattle.fork_bound.specs.Fair.{FairInput, FairStep, Fair, Belongs, SinceGiveUps, Gave, InTime, as_messages, any_earlier}
use Rattle.fork_bound.specs.Claim.{ForkBound}
use Rattle.fork_bound.specs.ByBytes.{GaveBytes, InTimeBytes, as_bytes, BoundByBytes}
use Rattle.fork_bound.proofs.Order.{noted_below}
use Rattle.fork_bound.proofs.Fork.{fork_bound}

module _ (H : ℕ) where
  fair_input : (a : ℕ) (log : List Event) (u : User) (i : Input) → FairInput H (as_bytes H) a log u i → FairInput H (as_messages H any_earlier) a log u i
  unfolding FairInput as_bytes GaveBytes as_messages Gave SinceGiveUps Belongs any_earlier
  fair_input a log u (start_update m) f = tt
  fair_input a log u (start_write m entry randomizer) f = tt
  fair_input a log u (start_read m i) f = tt
  fair_input a log u (start_give_up m) f = tt
  fair_input a log u (answer x) f = λ e.
      let y = f e in
      (y.0, y.1, λ five m r n nine. let z = y.2 five m r n nine in (z.0, z.1, (refl, z.2, z.3)))

  in_time : (log : List Event) (q : List ℕ) → InTimeBytes H log q → InTime H any_earlier log q
  unfolding InTimeBytes InTime Belongs any_earlier
  in_time log q t = (t.0, (refl, noted_below log _ _ t.1, t.1), λ i j r x five n b later. t.2 i j r x later b.1 b.2 n)

  fair_step : (g : Setup) (w : World) (x : Step) → FairStep g H (as_bytes H) w x → FairStep g H (as_messages H any_earlier) w x
  unfolding FairStep as_bytes as_messages
  fair_step g w (user a i) f = (f.0, λ z. fair_input a w.log (w.users a) i (f.1 z))
  fair_step g w (drops a) f = tt
  fair_step g w (server s q buffer) f = λ e nine z. in_time w.log q (f e nine z)

  all_fair : (g : Setup) (w : List Step → World) (xs : List Step) → Fair g H (as_bytes H) w xs → Fair g H (as_messages H any_earlier) w xs
  unfolding Fair
  all_fair g w [] f = tt
  all_fair g w (x ∷ xs) f = (fair_step g (w xs) x f.0, all_fair g w xs f.1)

pub bound_by_bytes : BoundByBytes
unfolding BoundByBytes ForkBound
bound_by_bytes g named H some within b xs f = fork_bound g named H some within any_earlier b xs (all_fair H g _ xs f)
