-- What a line lists after its numbers: the segments of a schedule, or the minutes of windows.
use Rattle.std.specs.Prelude.{Bool, true, false, cond, ◌||◌, List, ℕ, zero, suc, leb, length}
use Rattle.lines.specs.Text.{after_blanks}
use Rattle.script.specs.declared.Fault.{Fault}
use Rattle.script.specs.declared.Fault.TheVariants.{Nothing, UnknownWord, Number, TextLength, Rate, Target, Hold, Minute, TooMuch}
use Rattle.script.specs.declared.list.Item.{Item}
use Rattle.script.specs.Number.{next_number, two_bytes, is_within}
use Rattle.script.specs.Segment.{segment_at}

-- How many minutes or segments a line lists at most: a schedule has 16 segments. The minutes are those of 33 windows, one more than the
-- rules allow, so that the report, and not the script, refuses them.
abbrev pub most : Bool → ℕ
most minutes = cond minutes 66 16

-- The minute after the blanks at a place. That there is none at the line's end is no fault.
unfoldable pub minute_item : List ℕ → ℕ → Item
minute_item text at =
    let d = next_number text at in
    record {
      fault = cond (leb (length text) at || is_within d two_bytes) Fault.Nothing Fault.Minute;
      next = after_blanks text d.next;
    }

unfoldable pub segment_item : List ℕ → ℕ → Item
segment_item text at = record { fault = (segment_at text at).fault; next = (segment_at text at).next }

-- What is listed at a place: a minute, or a segment.
abbrev pub item_at : Bool → List ℕ → ℕ → Item
item_at minutes text at = cond minutes (minute_item text at) (segment_item text at)

abbrev pub is_fault : Fault → Bool
is_fault Nothing = false
is_fault UnknownWord = true
is_fault (Number k least most) = true
is_fault TextLength = true
is_fault Rate = true
is_fault Target = true
is_fault Hold = true
is_fault Minute = true
is_fault TooMuch = true

-- What is wrong with a list from a place on, of at most k segments or minutes: the first fault, or that the line goes on behind them.
unfoldable pub list_fault : Bool → ℕ → List ℕ → ℕ → Fault
list_fault minutes zero text at = Fault.TooMuch
list_fault minutes (suc k) text at =
    let item = item_at minutes text at in
    cond (is_fault item.fault) item.fault
    (cond (leb (length text) item.next) Fault.Nothing (list_fault minutes k text item.next))
