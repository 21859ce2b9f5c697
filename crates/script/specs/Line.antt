-- A line of a script: a word, one to four numbers, and what stands behind them. docs/STUDIO.md.
use Rattle.std.specs.Prelude.{Bool, true, false, cond, ◌&&◌, List, [], ◌∷◌, ℕ, leb, eqb, length, take, drop}
use Rattle.lines.specs.Text.{is_blank, is_other, run, past, after_blanks}
use Rattle.script.specs.declared.Fault.{Fault}
use Rattle.script.specs.declared.Command.{Command}
use Rattle.script.specs.declared.Numbers.{Numbers}
use Rattle.script.specs.declared.form.Form.{Form}
use Rattle.script.specs.declared.form.Rest.{Rest}
use Rattle.script.specs.declared.form.Rest.TheVariants.{Nothing, Text, Segments, Minutes}
use Rattle.script.specs.Number.{next_number, two_bytes, is_wrong}
use Rattle.script.specs.Form.{form_of}
use Rattle.script.specs.Listed.{most, list_fault}

-- Nothing, or a comment: 35 is `#`.
unfoldable pub says_nothing : List ℕ → Bool
says_nothing [] = true
says_nothing (b ∷ s) = eqb b 35

-- Whether a line says nothing behind its blanks.
unfoldable pub is_idle : List ℕ → Bool
is_idle line = says_nothing (past is_blank line)

-- Four numbers from a place on, blanks before each.
unfoldable pub numbers_at : List ℕ → ℕ → Numbers
numbers_at line at =
    let first = next_number line at in
    let second = next_number line first.next in
    let third = next_number line second.next in
    record { first = first; second = second; third = third; fourth = next_number line third.next }

-- Where the numbers end that a command takes.
unfoldable pub end_of : Form → Numbers → ℕ
end_of form n =
    cond (leb 4 form.numbers) n.fourth.next
    (cond (leb 3 form.numbers) n.third.next (cond (leb 2 form.numbers) n.second.next n.first.next))

-- What is wrong with so many bytes behind the numbers: nothing, where they are from a least to a greatest number, and else a fault.
unfoldable pub length_fault : ℕ → ℕ → ℕ → Fault → Fault
length_fault least most n fault = cond (leb least n && leb n most) Fault.Nothing fault

-- What is wrong with what is left of a line behind its numbers: nothing may be left, or a text of 1 to 1,023 bytes, or a list.
abbrev pub left_fault : Rest → List ℕ → Fault
left_fault Nothing left = length_fault 0 0 (length left) Fault.TooMuch
left_fault Text left = length_fault 1 1023 (length left) Fault.TextLength
left_fault Segments left = list_fault false (most false) left 0
left_fault Minutes left = list_fault true (most true) left 0

-- The first of all that is wrong with a line.
unfoldable pub fault_of : Form → Numbers → List ℕ → Fault
fault_of form n left =
    let k = form.numbers in
    cond (eqb k 0) Fault.UnknownWord
    (cond (is_wrong 1 k n.first form.first) (Fault.Number 1 form.first.least form.first.most)
    (cond (is_wrong 2 k n.second form.second) (Fault.Number 2 form.second.least form.second.most)
    (cond (is_wrong 3 k n.third two_bytes) (Fault.Number 3 0 65535)
    (cond (is_wrong 4 k n.fourth two_bytes) (Fault.Number 4 0 65535) (left_fault form.rest left)))))

-- The command of a line on a log of so many servers: its word ends at the first space, 32.
unfoldable pub command_of : List ℕ → ℕ → Command
command_of line servers = let size = run (is_other 32) line in let form = form_of (take size line) servers in
    let n = numbers_at line size in let text = after_blanks line (end_of form n) in
    record {
      word = form.word;
      first = n.first.value;
      second = n.second.value;
      third = n.third.value;
      fourth = n.fourth.value;
      text = text;
      fault = fault_of form n (drop text line);
    }
