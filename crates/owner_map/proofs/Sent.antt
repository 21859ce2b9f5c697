-- Pieces that are sent one after the other: the hash's state after each.
use mathlib.Core.Path.{◌≡◌, ◌∙◌, ap}
use mathlib.Core.List.{List, ◌++◌, append_assoc}
use Prim.Native.Nat.{ℕ, ◌≤◌, ◌<◌}
use native.Mathlib.Omega.{arith}
use lib.ListN.{length, take}
use Rattle.sha256.specs.declared.stream.Sha.{Sha}
use Rattle.sha256.specs.Hash.{sha256}
use Rattle.sha256.specs.Inner.{streamed}
use Rattle.owner_map.specs.Table.{head_line, rows, table}
use Rattle.owner_map.proofs.Pieces.{Filled, next-piece}

-- What `send_table` knows before each piece: the rows up to done, behind the head line, are sent.
abbrev pub Sent : ℕ → ℕ → List ℕ → Sha → ℕ → Type 0
Sent n last out sent done = (done ≤ last) × ((length out ≡ 65536) × (sent ≡ streamed (head_line ++ rows n 0 done)))

module _ (n last done : ℕ) (out : List ℕ) (sent : Sha) (s : Sent n last out sent done) where
  pub piece_sent : (p at : ℕ) (out' piece : List ℕ) (sent' : Sha) → done < last → length out' ≡ length out
      → Filled n done last out p out' at → piece ≡ take at out' → ((m : List ℕ) → sent ≡ streamed m → sent' ≡ streamed (m ++ piece))
      → (done < p) × Sent n last out' sent' p
  piece_sent p at out' piece sent' lt same filled ep update =
      let size : length out ≡ 65536 = s.1.0 in
      let next = next-piece n done last p at out out' (omega arith) lt filled in (
        next.0,
        (
          next.1.0,
          (
            omega arith,
            update (head_line ++ rows n 0 done) s.1.1
                ∙ ap streamed (append_assoc head_line (rows n 0 done) piece ∙ rw (ep, next.1.1)),
          ),
        ),
      )

  pub table-sent : (hash : List ℕ) → last ≤ done → ((m : List ℕ) → sent ≡ streamed m → hash ≡ sha256 m) → hash ≡ sha256 (table n last)
  unfolding table
  table-sent hash le finish =
      let e : done ≡ last = omega (arith, s.0) in
      rw (← e) (finish (head_line ++ rows n 0 done) s.1.1)
