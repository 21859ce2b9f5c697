-- The digits that `rows::digits` lays are those of the definition, and a number with the byte behind it.
use mathlib.Core.Path.{◌≡◌, ◌∙◌, sym, ap}
use mathlib.Core.List.{List, [], ◌∷◌, ◌++◌, append_assoc, append-nil}
use Prim.Native.Nat.{ℕ, zero, suc, ◌+◌, ◌-◌, ◌/◌, ◌%◌, ◌^◌, ◌≤◌, ◌<◌}
use native.Mathlib.Nat.{pow-suc}
use native.Mathlib.Omega.{arith}
use lib.ListN.{length, drop, set, length-append, length-drop, length-set, drop_of_length-le}
use borrow.Author.Tests.{lt-ltb, le-ltb}
use Rattle.std.proofs.lemmas.Grind.{drop-set_at}
use Rattle.sha256.proofs.Cases.{cases_lt}
use Rattle.sha256.specs.Bytes.{written}
use Rattle.owner_map.specs.Table.{digits_in, decimal, cell}

-- more places than the digits need change nothing
digits_enough : (f g n : ℕ) → n < f → n < g → digits_in f n ≡ digits_in g n
unfolding digits_in
digits_enough zero g n h k = absurd (omega arith)
digits_enough (suc f) zero n h k = absurd (omega arith)
digits_enough (suc f) (suc g) n h k =
    cases_lt n 10
    (λ s. rw (lt-ltb n 10 s))
    (λ b. rw (le-ltb n 10 b, digits_enough f g (n / 10) (omega arith) (omega arith)))

-- one digit, and a digit behind others
decimal_one : (n : ℕ) → n < 10 → decimal n ≡ (48 + n) ∷ []
unfolding decimal digits_in
decimal_one n h = rw (lt-ltb n 10 h)

decimal_more : (n : ℕ) → 10 ≤ n → decimal n ≡ decimal (n / 10) ++ ((48 + n % 10) ∷ [])
unfolding decimal digits_in
decimal_more n h = rw (le-ltb n 10 h, digits_enough n (suc (n / 10)) (n / 10) (omega arith) (omega arith))

-- The loop of `rows::digits`: the digits of n are those of what is left and then those that the text has behind place `at`.
abbrev pub Cut : ℕ → List ℕ → ℕ → ℕ → Type 0
Cut n text at rest =
    (at < 20) × ((length text ≡ 20) × ((rest < 10 ^ suc at) × (decimal n ≡ decimal rest ++ drop (at + 1) text)))

pub cut_none : (n : ℕ) (text : List ℕ) → length text ≡ 20 → n < 18446744073709551616 → Cut n text 19 n
cut_none n text l small =
    (omega arith, (l, (omega arith, rw (drop_of_length-le text {i = 20} (omega arith), append-nil (decimal n)))))

pub cut_more : (n : ℕ) (text : List ℕ) (at rest : ℕ) → Cut n text at rest → 10 ≤ rest
    → (0 < at) × Cut n (set text at (48 + rest % 10)) (at - 1) (rest / 10)
cut_more n text zero rest c h = absurd (omega (arith, c.1.1.0, pow-suc 10 0))
cut_more n text (suc at) rest c h =
    let e : suc at - 1 ≡ at = omega arith in
    let laid = drop-set_at text (suc at) (at + 1) (48 + rest % 10) (omega arith) (omega (arith, c.0, c.1.0)) in
    let size = length-set text (suc at) (48 + rest % 10) in
    let less = pow-suc 10 (suc at) in (
      omega arith,
      rw e (
        omega (arith, c.0),
        (
          omega (arith, size, c.1.0),
          (
            omega (arith, less, c.1.1.0),
            c.1.1.1 ∙ rw (laid, decimal_more rest h) (append_assoc (decimal (rest / 10)) ((48 + rest % 10) ∷ []) _),
          ),
        ),
      ),
    )

pub cut_last : (n : ℕ) (text : List ℕ) (at rest : ℕ) → Cut n text at rest → rest < 10 → drop at (set text at (48 + rest)) ≡ decimal n
cut_last n text at rest c h =
    drop-set_at text at at (48 + rest) (omega arith) (omega (arith, c.0, c.1.0)) ∙ sym (c.1.1.1 ∙ rw (decimal_one rest h))

-- a number and the byte behind it, laid
pub cell-laid : (n at first end : ℕ) (d text after : List ℕ) → length text ≡ 20 → first < 20 → drop first text ≡ decimal n
    → after ≡ written d at (drop first text ++ (end ∷ []))
    → (after ≡ written d at (cell n end))
    × ((at + (20 - first) + 1 ≡ at + length (cell n end)) × (at + (20 - first) + 1 ≤ at + 21))
unfolding cell
cell-laid n at first end d text after size h t ea =
    let l : length (decimal n) ≡ 20 - first = sym (ap length t) ∙ length-drop first text ∙ rw size in
    (ea ∙ rw t, (omega (arith, l, length-append (decimal n) (end ∷ [])), omega arith))
