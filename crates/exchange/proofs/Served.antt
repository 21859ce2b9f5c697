-- What the call of `c_layout` gives, laid into a server's place.
use mathlib.Core.Path.{◌≡◌, ◌∙◌, ap}
use mathlib.Core.List.{List, [], ◌++◌, append-nil}
use Prim.Native.Nat.{ℕ, ◌-◌, ◌%◌, ◌≤◌}
use native.Mathlib.Omega.{arith}
use lib.ListN.{length, take, drop, replicate, length-drop, length-replicate, drop_of_length-le}
use lib.Seq.{take_all, length-take-le}
use borrow.Author.Tests.{le-leb}
use borrow.Rule.Slice.PartMut.{put_mid}
use Rattle.sha256.specs.Bytes.{be, number_at, written}
use Rattle.sha256.proofs.Laws.{be-mod, written-whole}
use Rattle.c_layout.specs.declared.serving.Served.{Served}
use Rattle.c_layout.specs.Server.{server_answered, ServerYields}
use Rattle.exchange.specs.LogName.{log_name}
use Rattle.exchange.specs.ServerPlace.{head_in, head_laid, served_laid, place_served, PlaceYields}

pub be_four_mod : (n : ℕ) → be 4 (n % 4294967296) ≡ be 4 n
be_four_mod n = be-mod 4 n

-- the head's bytes fill 79
pub head_read : (place : List ℕ) → 88 ≤ length place → written (replicate 79 0) 0 (take 79 place) ≡ head_in place
unfolding head_in
head_read place h =
    let a : length (take 79 place) ≡ 79 = length-take-le 79 place (omega arith) in
    written-whole (replicate 79 0) (take 79 place) (omega (arith, a, length-replicate {A = ℕ} 79 0))

-- the store, which goes to the place's end
module _ (place : List ℕ) (h : 88 ≤ length place) where
  store-lent : take (length place - 88) (drop 88 place) ≡ drop 88 place
  store-lent = take_all (length place - 88) (drop 88 place) (omega (arith, length-drop 88 place))

  store_laid : (store : List ℕ) → put_mid 88 (length place - 88) place store ≡ take 88 place ++ store
  store_laid store =
      let e : drop (length place - 88) (drop 88 place) ≡ [] = drop_of_length-le (drop 88 place) {i = length place - 88} (omega (arith, length-drop 88 place)) in
      ap (λ (x : List ℕ). take 88 place ++ (store ++ x)) e ∙ ap (λ (x : List ℕ). take 88 place ++ x) (append-nil store)

  pub place-served : (servers own : ℕ) (users request answer head : List ℕ) (used : ℕ) → head ≡ head_in place → used ≡ number_at 4 place 80
      → (r : Served) (head' store answer' after : List ℕ)
      → ServerYields (server_answered servers own log_name users head (take (length place - 88) (drop 88 place)) used request answer) r head' store answer'
      → after ≡ head_laid head' r.used (put_mid 88 (length place - 88) place store)
      → PlaceYields (place_served servers own users place request answer) r after answer'
  unfolding place_served served_laid
  place-served servers own users request answer head used eh eu r head' store answer' after e ea =
      let l = le-leb 88 (length place) h in
      let t = rw (store-lent, eh, eu) at e in
      rw (l, ea, store_laid store) (t.0, (rw (t.1.0, t.1.1.0, t.0), t.1.1.1))
