-- Document 02, j: "When may we begin". The words in quotes are its own.
use Rattle.std.specs.Prelude.{Bool, true, false, cond, ◌&&◌, ◌||◌, List, [], ◌∷◌, ℕ, zero, suc, ◌+◌, ◌%◌, eqb, leb, ltb, length}
use Rattle.firing.specs.Schedule.{reported}
use Rattle.opening_hours.specs.declared.opening.Start.{Start}

-- "A week is 10,080 minutes from Monday 0:00"
abbrev pub week : ℕ
week = 10080

-- "windows are given as first minute and end minute, the end not belonging": whether a minute of the week lies in one of them.
unfoldable pub in_windows : List ℕ → ℕ → Bool
in_windows [] t = false
in_windows (first ∷ []) t = false
in_windows (first ∷ end ∷ rest) t = (leb first t && ltb t end) || in_windows rest t

-- "a window empty, out of range, out of order or overlapping": whether none is, where the window before the first of them ends at `after`.
-- "A window may end at 10,080 but not pass it; two may meet." A first minute that no end follows is no window.
unfoldable pub in_order : ℕ → List ℕ → Bool
in_order after [] = true
in_order after (first ∷ []) = false
in_order after (first ∷ end ∷ rest) = leb after first && (ltb first end && (leb end week && in_order end rest))

-- "with 1 to 32 of them", two numbers each.
unfoldable pub windows_fit : List ℕ → Bool
windows_fit windows = ltb 0 (length windows) && (leb (length windows) 64 && in_order 0 windows)

-- Whether a minute, "counted round the week, lies in windows".
unfoldable pub is_open : List ℕ → ℕ → Bool
is_open windows t = in_windows windows (t % week)

-- "whose every minute, counted round the week, lies in windows": so many minutes from a start on.
unfoldable pub open_for : List ℕ → ℕ → ℕ → Bool
open_for windows zero start = true
open_for windows (suc n) start = is_open windows start && open_for windows n (suc start)

-- The first of n starts, from one on, that has all its minutes open; the number after the last of them where there is none.
unfoldable pub earliest : List ℕ → ℕ → ℕ → ℕ → ℕ
earliest windows minutes start zero = start
earliest windows minutes start (suc n) = cond (open_for windows minutes start) start (earliest windows minutes (suc start) n)

-- "From a minute m of the week, 0 to 10,079, and a length in minutes, answer the earliest start from m to m + 10,079".
unfoldable pub earliest_start : List ℕ → ℕ → ℕ → ℕ
earliest_start windows m minutes = earliest windows minutes m week

-- "33, m or the number of windows out of range, or a window empty, out of range, out of order or overlapping"; "34, exactly when no such
-- start exists, last."
unfoldable pub opening_code : List ℕ → ℕ → ℕ → ℕ
opening_code windows m minutes = cond (ltb m week && windows_fit windows) (cond (ltb (earliest_start windows m minutes) (m + week)) 0 34) 33

-- With a refusal, the start is 0.
unfoldable pub no_start : ℕ → Start
no_start code = record { code = code; start = 0 }

-- "answer the earliest start": the code, and where it is 0 the start.
unfoldable pub opening : List ℕ → ℕ → ℕ → Start
opening windows m minutes = let code = opening_code windows m minutes in
    cond (eqb code 0) (record { code = 0; start = earliest_start windows m minutes }) (no_start code)

-- For a schedule, with the total that is reported of it as the length; 33 comes "after 26", so what refuses the report comes first.
unfoldable pub schedule_opening : List ℕ → List ℕ → ℕ → Start
schedule_opening entry windows m = let r = reported entry in cond (eqb r.code 0) (opening windows m r.minutes) (no_start r.code)
