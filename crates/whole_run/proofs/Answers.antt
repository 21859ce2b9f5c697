-- What a server's call answers: the bytes that it wrote are those that it gave.
use mathlib.Core.Path.{◌≡◌, refl}
use mathlib.Core.List.{List}
use Prim.Native.Nat.{ℕ, ◌≤◌}
use native.Mathlib.Nat.{zero-add}
use native.Mathlib.Omega.{arith}
use lib.ListN.{length, take}
use borrow.Author.Tests.{leb-true}
use Rattle.tree.specs.Setup.{first_code, Settings}
use Rattle.user_list.specs.Users.{least_answer}
use Rattle.server.specs.declared.Head.{Head}
use Rattle.server.specs.Checks.{server_setup_checks}
use Rattle.server.specs.Serve.{ServeOutcome, served}
use Rattle.server.proofs.Codes.{passed}
use Rattle.store.proofs.Appended.{take-written}
use Rattle.server.proofs.Served.{given, served-passed}
use Rattle.server.proofs.Sizes.{answer-at-most_2552}

module _ (s : Settings) (h : Head) (store : List ℕ) (used : ℕ) (q buffer : List ℕ) (z : first_code (server_setup_checks s h store used buffer) ≡ 0) where
  abbrev after : ServeOutcome
  after = served s h store used q buffer

  -- an answer buffer that passed the setup's checks has room for all of it
  pub all_given : take after.out.answered after.answer ≡ given s h store used q buffer
  unfolding server_setup_checks
  all_given =
      let p = served-passed s h store used q buffer z in
      let room : least_answer ≤ length buffer = leb-true least_answer (length buffer) (passed 20 _ _ (passed 21 _ _ z).1).0 in
      let small : length (given s h store used q buffer) ≤ least_answer = rw p at (answer-at-most_2552 s h store used q buffer) in
      rw p (rw zero-add at (take-written buffer 0 (length (given s h store used q buffer)) (given s h store used q buffer) refl (omega arith)))
