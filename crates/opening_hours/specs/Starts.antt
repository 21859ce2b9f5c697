-- Words for what is claimed of windows and of the earliest start.
use Rattle.std.specs.Prelude.{◌≡◌, true, false, List, ℕ, suc, ◌+◌, ◌*◌, ◌≤◌, ◌<◌, length, get_or}
use Rattle.opening_hours.specs.Opening.{week, is_open}

-- The first minute and the end of window k of a list, where the first window is 0.
abbrev pub first_of : List ℕ → ℕ → ℕ
first_of windows k = get_or windows (2 * k) 0

abbrev pub end_of : List ℕ → ℕ → ℕ
end_of windows k = get_or windows (2 * k + 1) 0

-- 1 to 32 windows, none of them empty or past the week's end, and each begins at the end of the one before it or later.
pub record Fitting (windows : List ℕ) : Type 0 where
  pub count : ℕ
  pub pairs : length windows ≡ 2 * count
  pub least : 1 ≤ count
  pub most : count ≤ 32
  pub some : (k : ℕ) → k < count → first_of windows k < end_of windows k
  pub within : (k : ℕ) → k < count → end_of windows k ≤ week
  pub rising : (k : ℕ) → suc k < count → end_of windows k ≤ first_of windows (suc k)

-- One of so many minutes from a start on is closed.
abbrev pub OneClosed : List ℕ → ℕ → ℕ → Type 0
OneClosed windows minutes start = (t : ℕ) × ((start ≤ t) × ((t < start + minutes) × (is_open windows t ≡ false)))

-- A start from m to m + 10,079 has all its minutes open, and each earlier one from m on has a closed one.
pub record EarliestOpen (windows : List ℕ) (m minutes start : ℕ) : Type 0 where
  pub from : m ≤ start
  pub within : start < m + week
  pub opened : (t : ℕ) → start ≤ t → t < start + minutes → is_open windows t ≡ true
  pub before : (s : ℕ) → m ≤ s → s < start → OneClosed windows minutes s

-- No start from m to m + 10,079 has all its minutes open.
abbrev pub NoneOpen : List ℕ → ℕ → ℕ → Type 0
NoneOpen windows m minutes = (s : ℕ) → m ≤ s → s < m + week → OneClosed windows minutes s
