-- The loop that lays the numbers of a text into a list.
use mathlib.Core.Path.{◌≡◌, refl, ◌∙◌, sym}
use mathlib.Core.List.{List, [], ◌∷◌, ◌++◌, append_assoc, append-nil}
use Prim.Native.Nat.{ℕ, zero, suc, ◌+◌, ◌-◌, ◌≤◌, ◌<◌}
use native.Mathlib.Numerals.{add-one}
use native.Mathlib.Omega.{arith}
use lib.ListN.{length, take, drop, set, take-append-drop}
use lib.Seq.{take-suc-set, drop-set-lt, drop-drop, length-take-le}
use borrow.Author.Tests.{le-leb, lt-leb}
use Rattle.sha256.specs.Bytes.{written}
use Rattle.sha256.proofs.Laws.{written-fits}
use Rattle.lines.specs.declared.Digits.{Digits}
use Rattle.lines.specs.Text.{after_blanks}
use Rattle.programs.specs.Listed.{signed_at, numbers_at}

none_left : (text : List ℕ) (at k : ℕ) → length text ≤ at → numbers_at text at k ≡ []
unfolding numbers_at
none_left text at zero h = refl
none_left text at (suc k) h = rw (le-leb (length text) at h)

-- `count` numbers of `whole` are laid, and the next is at a place.
module _ (text whole first out : List ℕ) (count at : ℕ) (fits : count ≤ length first) (same : length out ≡ length first)
    (laid : whole ≡ take count out ++ numbers_at text at (length first - count)) (rest : drop count out ≡ drop count first) where
  done : numbers_at text at (length first - count) ≡ [] → (count ≡ length whole) × (out ≡ written first 0 whole)
  done e =
      let all : whole ≡ take count out = laid ∙ rw e (append-nil (take count out)) in
      let n : length (take count out) ≡ count = length-take-le count out (omega arith) in
      let joined : take 0 first ++ take count out ++ drop (0 + count) first ≡ out =
      let z : 0 + count ≡ count = omega arith in rw (z, ← rest) (take-append-drop count out) in
      (rw all (sym n), sym (rw (all, written-fits first 0 (take count out) (omega arith), n) joined))

  pub text-ends : length text ≤ at → (count ≡ length whole) × (out ≡ written first 0 whole)
  text-ends h = done (none_left text at (length first - count) h)

  pub room-ends : length first ≤ count → (count ≡ length whole) × (out ≡ written first 0 whole)
  unfolding numbers_at
  room-ends h = let z : length first - count ≡ 0 = omega arith in done (rw z)

  pub one_more : at < length text → count < length first → (d : Digits) → d ≡ signed_at text at → (next : ℕ) → next ≡ after_blanks text d.next
      → (whole ≡ take (count + 1) (set out count d.value) ++ numbers_at text next (length first - (count + 1)))
      × (drop (count + 1) (set out count d.value) ≡ drop (count + 1) first)
  unfolding numbers_at
  one_more h room d e next n =
      let k : length first - count ≡ suc (length first - (count + 1)) = omega arith in
      let s : numbers_at text at (length first - count) ≡ d.value ∷ numbers_at text next (length first - (count + 1)) =
      rw (k, lt-leb (length text) at h, ← e, ← n) in (
        laid ∙ rw (s, add-one, take-suc-set out count d.value (omega arith), append_assoc),
        rw (drop-set-lt (count + 1) out count d.value (omega arith), ← drop-drop 1 count out, rest) (drop-drop 1 count first),
      )
