-- Document 02, j: what is claimed of its windows and starts, in the words of Starts. The words in quotes are its own.
use Rattle.std.specs.Prelude.{◌≡◌, ◌↔◌, true, List, ℕ, ◌<◌}
use Rattle.opening_hours.specs.Opening.{week, windows_fit, no_start, opening}
use Rattle.opening_hours.specs.Starts.{Fitting, EarliestOpen, NoneOpen}

-- The test that 33 goes by passes exactly the windows that fit, by their numbers.
unfoldable pub WindowsFit : Type 0
WindowsFit = (windows : List ℕ) → (windows_fit windows ≡ true) ↔ Fitting windows

-- "33, m or the number of windows out of range, or a window empty, out of range, out of order or overlapping"
unfoldable pub InputsRefused : Type 0
InputsRefused = (windows : List ℕ) (m minutes : ℕ) → (m < week → Fitting windows → ⊥) → opening windows m minutes ≡ no_start 33

-- "answer the earliest start from m to m + 10,079 whose every minute, counted round the week, lies in windows"
unfoldable pub StartAnswered : Type 0
StartAnswered =
    (windows : List ℕ) (m minutes start : ℕ) → m < week → Fitting windows
    → (opening windows m minutes ≡ record { code = 0; start = start }) ↔ EarliestOpen windows m minutes start

-- "34, exactly when no such start exists, last."
unfoldable pub NoneAnswered : Type 0
NoneAnswered =
    (windows : List ℕ) (m minutes : ℕ) → m < week → Fitting windows → (opening windows m minutes ≡ no_start 34) ↔ NoneOpen windows m minutes
