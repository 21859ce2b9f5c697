-- Windows and starts, computed.
use Rattle.std.specs.Prelude.{◌≡◌, refl, true, false, [], ◌∷◌}
use Rattle.opening_hours.specs.Opening.{in_windows, in_order, windows_fit, is_open, open_for, earliest, earliest_start, opening_code}

-- two that meet; the whole week; an empty one; one past the week's end; two that overlap; two in the wrong order; none; one number
windows_judged :
    (windows_fit (540 ∷ 720 ∷ 720 ∷ 1080 ∷ []) ≡ true)
    × (windows_fit (0 ∷ 10080 ∷ []) ≡ true)
    × (windows_fit (540 ∷ 540 ∷ []) ≡ false)
    × (windows_fit (540 ∷ 10081 ∷ []) ≡ false)
    × (windows_fit (540 ∷ 720 ∷ 719 ∷ 1080 ∷ []) ≡ false)
    × (windows_fit (720 ∷ 1080 ∷ 540 ∷ 720 ∷ []) ≡ false)
    × (windows_fit [] ≡ false)
    × (windows_fit (540 ∷ []) ≡ false)
unfolding windows_fit in_order
windows_judged = (refl, refl, refl, refl, refl, refl, refl, refl)

-- a window's end does not belong to it; minutes are counted on past the week's end; a length of 0 has no minute that could be closed
minutes_judged :
    (is_open (100 ∷ 200 ∷ []) 100 ≡ true)
    × (is_open (100 ∷ 200 ∷ []) 200 ≡ false)
    × (is_open (100 ∷ 200 ∷ []) 10180 ≡ true)
    × (open_for (0 ∷ 20 ∷ 10070 ∷ 10080 ∷ []) 30 10070 ≡ true)
    × (open_for (0 ∷ 20 ∷ 10070 ∷ 10080 ∷ []) 31 10070 ≡ false)
    × (open_for (100 ∷ 200 ∷ []) 0 50 ≡ true)
unfolding is_open in_windows open_for
minutes_judged = (refl, refl, refl, refl, refl, refl)

-- the next window; the same window a week later, from one minute after its first; a run over the week's end, which is too short from
-- the minute asked on and so begins a week later; the last start; none
starts_found :
    (earliest_start (100 ∷ 200 ∷ []) 5 100 ≡ 100)
    × (earliest_start (100 ∷ 200 ∷ []) 101 100 ≡ 10180)
    × (earliest_start (0 ∷ 20 ∷ 10070 ∷ 10080 ∷ []) 10075 30 ≡ 20150)
    × (earliest_start (4 ∷ 5 ∷ []) 5 1 ≡ 10084)
    × (opening_code (4 ∷ 5 ∷ []) 5 1 ≡ 0)
    × (opening_code (4 ∷ 5 ∷ []) 5 2 ≡ 34)
unfolding earliest_start earliest open_for is_open in_windows opening_code windows_fit in_order
starts_found = (refl, refl, refl, refl, refl, refl)
