-- Computed examples: what is printed for the input of document 01, and which inputs are refused.
use Rattle.std.specs.Prelude.{◌≡◌, refl, [], ◌∷◌, ◌++◌, replicate}
use Rattle.tree.specs.Level.{least_from, lg}
use Rattle.tree.specs.Label.{nodes_to, label, server_of, owner, span, wait}
use Rattle.lines.specs.Text.{is_blank, is_digit, run, past, number_from, number}
use Rattle.owner_map.specs.declared.input.Asked.{Asked}
use Rattle.owner_map.specs.Input.{in_range, first_part, second_part, last_part, two_numbers, asked}
use Rattle.owner_map.specs.Table.{digits_in, decimal, cell, row, rows, head_line, table}
use Rattle.owner_map.specs.Answer.{answer}

-- Document 01: "Input `4 5` prints" these six lines.
paths_4_5 : answer (asked (52 ∷ 32 ∷ 53 ∷ 10 ∷ []))
    ≡ 112 ∷ 32 ∷ 102 ∷ 105 ∷ 114 ∷ 115 ∷ 116 ∷ 32 ∷ 108 ∷ 101 ∷ 97 ∷ 102 ∷ 32 ∷ 114 ∷ 111 ∷ 111 ∷ 116 ∷ 32 ∷ 119 ∷ 97 ∷ 105 ∷ 116 ∷ 10
    ∷ 49 ∷ 32 ∷ 49 ∷ 32 ∷ 49 ∷ 32 ∷ 49 ∷ 32 ∷ 50 ∷ 10
    ∷ 50 ∷ 32 ∷ 50 ∷ 32 ∷ 50 ∷ 32 ∷ 51 ∷ 32 ∷ 49 ∷ 10
    ∷ 51 ∷ 32 ∷ 52 ∷ 32 ∷ 52 ∷ 32 ∷ 50 ∷ 32 ∷ 49 ∷ 10
    ∷ 52 ∷ 32 ∷ 55 ∷ 32 ∷ 51 ∷ 32 ∷ 49 ∷ 32 ∷ 49 ∷ 10
    ∷ 53 ∷ 32 ∷ 49 ∷ 48 ∷ 32 ∷ 50 ∷ 32 ∷ 49 ∷ 32 ∷ 48 ∷ 10 ∷ []
unfolding least_from lg nodes_to label server_of owner span wait is_blank is_digit run past number_from number in_range first_part
    second_part last_part two_numbers asked digits_in decimal cell row rows head_line table
paths_4_5 = refl

-- Inputs longer than 64 bytes: leading zeros count for nothing, and what follows two numbers is read, however far behind them.
long_inputs : (asked (52 ∷ 32 ∷ replicate 60 48 ++ (53 ∷ [])) ≡ Asked.Table 4 5)
    × (asked (52 ∷ 32 ∷ replicate 60 48 ++ (49 ∷ 48 ∷ 52 ∷ 56 ∷ 53 ∷ 55 ∷ 55 ∷ [])) ≡ Asked.Refused)
    × (asked (52 ∷ 32 ∷ 53 ∷ replicate 61 32 ++ (103 ∷ [])) ≡ Asked.Refused)
unfolding is_blank is_digit run past number_from number in_range first_part second_part last_part two_numbers asked
long_inputs = (refl, refl, refl)
