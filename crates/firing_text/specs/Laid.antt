-- The entry of a schedule, laid in memory with the segments that a text lists. docs/STUDIO.md's `fire`.
use Rattle.std.specs.Prelude.{cond, List, [], ◌∷◌, ◌++◌, ℕ, zero, suc, ◌+◌, leb, length}
use Rattle.sha256.specs.Bytes.{be, written}
use Rattle.script.specs.Segment.{segment_at}
use Rattle.script.specs.declared.segments.Listed.{Listed}

-- The segments that a text lists from a place on, at most k.
unfoldable pub listed_from : ℕ → List ℕ → ℕ → List Listed
listed_from zero text at = []
listed_from (suc k) text at =
    let s = segment_at text at in cond (leb (length text) at) [] (s ∷ listed_from k text s.next)

-- All segments of a text: a schedule has at most 16.
unfoldable pub listed : List ℕ → List Listed
listed text = listed_from 16 text 0

-- The memory with a segment at a place: its rate and target, and then its hold, two bytes each. Where either does not fit whole, it is left
-- out.
unfoldable pub with_segment : List ℕ → ℕ → Listed → List ℕ
with_segment entry at s = written (written entry at (be 2 s.rate ++ be 2 s.target)) (at + 4) (be 2 s.hold)

-- The memory with segments one behind the other from a place on.
unfoldable pub with_segments : List ℕ → ℕ → List Listed → List ℕ
with_segments entry at [] = entry
with_segments entry at (s ∷ rest) = with_segments (with_segment entry at s) (at + 6) rest

-- The memory with the entry of a schedule: the byte 3, how many segments there are, and the segments.
unfoldable pub with_schedule : List ℕ → List Listed → List ℕ
with_schedule entry segments = written (with_segments entry 2 segments) 0 (3 ∷ length segments ∷ [])
