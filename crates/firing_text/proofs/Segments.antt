-- A turn of the loop that lays the segments of a text.
use mathlib.Core.Path.{◌≡◌, refl, sym}
use mathlib.Core.List.{List, [], ◌∷◌}
use Prim.Native.Nat.{ℕ, suc, ◌+◌, ◌-◌, ◌*◌, ◌≤◌, ◌<◌}
use native.Mathlib.Omega.{arith}
use lib.ListN.{length}
use borrow.Author.Tests.{le-leb, lt-leb}
use Rattle.script.specs.Segment.{segment_at}
use Rattle.script.specs.declared.segments.Listed.{Listed}
use Rattle.firing_text.specs.Laid.{listed_from, listed, with_segment, with_segments}

-- `count` segments of a text were laid, and the others are listed from a place on: how many there are, and the memory with all of them.
pub record Standing (text entry₀ entry : List ℕ) (at count : ℕ) : Type 0 where
  pub counted : length (listed text) ≡ count + length (listed_from (16 - count) text at)
  pub laid : with_segments entry₀ 2 (listed text) ≡ with_segments entry (2 + 6 * count) (listed_from (16 - count) text at)

-- Before the first turn none is laid.
pub at_first : (text entry : List ℕ) → Standing text entry entry 0 0
unfolding listed
at_first text entry = record { counted = omega arith; laid = refl }

-- Where none is left, those are all.
pub at_last : (text entry₀ entry : List ℕ) (at count : ℕ) → Standing text entry₀ entry at count → listed_from (16 - count) text at ≡ [] →
    (count ≡ length (listed text)) × (entry ≡ with_segments entry₀ 2 (listed text))
unfolding with_segments
at_last text entry₀ entry at count s none =
    (let e : length (listed text) ≡ count + 0 = rw none at s.counted in omega arith, sym (rw none at s.laid))

-- None is left where the text ends, and after 16.
pub text-ends : (text : List ℕ) (count at : ℕ) → count < 16 → length text ≤ at → listed_from (16 - count) text at ≡ []
unfolding listed_from
text-ends text count at more end =
    let n : 16 - count ≡ suc (16 - (count + 1)) = omega arith in rw (n, le-leb (length text) at end)

pub sixteen : (text : List ℕ) (count at : ℕ) → 16 ≤ count → listed_from (16 - count) text at ≡ []
unfolding listed_from
sixteen text count at end = let n : 16 - count ≡ 0 = omega arith in rw n

-- Where the text goes on, one is next, and the others follow it.
one_more : (text : List ℕ) (count at : ℕ) → count < 16 → at < length text →
    listed_from (16 - count) text at ≡ segment_at text at ∷ listed_from (16 - (count + 1)) text (segment_at text at).next
unfolding listed_from
one_more text count at more there =
    let n : 16 - count ≡ suc (16 - (count + 1)) = omega arith in rw (n, lt-leb (length text) at there)

-- What stands after the next one is laid.
pub after_one : (text entry₀ entry next : List ℕ) (at count : ℕ) (s : Listed) → Standing text entry₀ entry at count → count < 16 →
    at < length text → s ≡ segment_at text at → next ≡ with_segment entry (2 + 6 * count) s → Standing text entry₀ next s.next (count + 1)
unfolding with_segments
after_one text entry₀ entry next at count s stands more there i p =
    let one = one_more text count at more there in
    let place : 2 + 6 * (count + 1) ≡ 2 + 6 * count + 6 = omega arith in
    let e = rw one at stands.counted in
    record { counted = rw i (omega (arith, e)); laid = rw (place, p, i) (rw one at stands.laid) }
