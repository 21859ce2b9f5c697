-- Laws of the definitions: a number that is printed reads back, and every table can be asked for.
use mathlib.Core.Path.{◌≡◌, ◌∙◌}
use mathlib.Core.Bool.{Bool, true, false}
use mathlib.Core.List.{List, [], ◌∷◌, ◌++◌, append_assoc, append-nil}
use Prim.Native.Nat.{ℕ, zero, suc, ◌+◌, ◌-◌, ◌*◌, ◌/◌, ◌%◌, ◌^◌, ◌≤◌, ◌<◌}
use native.Mathlib.Nat.{pow-suc}
use native.Mathlib.Omega.{arith}
use lib.Dec.{ltb}
use lib.ListN.{length, length-append}
use borrow.Author.Tests.{le-leb, lt-ltb, le-ltb, ne_eqb}
use Rattle.sha256.proofs.Cases.{cases_lt}
use Rattle.lines.specs.Text.{is_blank, is_digit, run, past, number_from, number}
use Rattle.owner_map.specs.declared.input.Asked.{Asked}
use Rattle.owner_map.specs.Input.{in_range, first_part, second_part, last_part, two_numbers, asked}
use Rattle.owner_map.specs.Table.{digits_in, decimal}
use Rattle.owner_map.proofs.Inputs.{in_range_lem}

-- The digits xs of n, whatever follows them: no blank is in front, a digit is, and what is read is n and then what follows.
pub record Printed (n : ℕ) (xs : List ℕ) : Type 0 where
  pub reads : (t : List ℕ) → number_from 0 (xs ++ t) ≡ number_from n t
  pub passes : (t : List ℕ) → past is_digit (xs ++ t) ≡ past is_digit t
  pub begins : (t : List ℕ) → run is_blank (xs ++ t) ≡ 0
  pub found : (t : List ℕ) → ltb 0 (run is_digit (xs ++ t)) ≡ true

module _ (d : ℕ) (small : d < 10) where
  is_digit_lem : is_digit (48 + d) ≡ true
  unfolding is_digit
  is_digit_lem = rw (le-leb 48 (48 + d) (omega arith), le-leb (48 + d) 57 (omega arith))

  no_blank : is_blank (48 + d) ≡ false
  unfolding is_blank
  no_blank =
      rw (
        ne_eqb (48 + d) 32 (λ e. omega arith),
        ne_eqb (48 + d) 9 (λ e. omega arith),
        ne_eqb (48 + d) 10 (λ e. omega arith),
        ne_eqb (48 + d) 13 (λ e. omega arith),
      )

  -- one digit, behind the value v
  digit-read : (v : ℕ) (t : List ℕ) → number_from v ((48 + d) ∷ t) ≡ number_from (v * 10 + d) t
  unfolding number_from
  digit-read v t = let e : 48 + d - 48 ≡ d = omega arith in rw (is_digit_lem, e)

  digit-passed : (t : List ℕ) → past is_digit ((48 + d) ∷ t) ≡ past is_digit t
  unfolding past run
  digit-passed t = rw is_digit_lem

  one-digit : Printed d ((48 + d) ∷ [])
  unfolding run
  one-digit =
      let z : 0 * 10 + d ≡ d = omega arith in
      record {
        reads = λ t. digit-read 0 t ∙ rw z;
        passes = digit-passed;
        begins = λ t. rw no_blank;
        found = λ t. rw is_digit_lem (lt-ltb 0 (suc (run is_digit t)) (omega arith));
      }

  digit_more : (n : ℕ) (xs : List ℕ) → Printed n xs → Printed (n * 10 + d) (xs ++ ((48 + d) ∷ []))
  digit_more n xs p =
      let a : (t : List ℕ) → (xs ++ ((48 + d) ∷ [])) ++ t ≡ xs ++ ((48 + d) ∷ t) = λ t. append_assoc xs ((48 + d) ∷ []) t in
      record {
        reads = λ t. rw (a t) (p.reads ((48 + d) ∷ t) ∙ digit-read n t);
        passes = λ t. rw (a t) (p.passes ((48 + d) ∷ t) ∙ digit-passed t);
        begins = λ t. rw (a t) (p.begins ((48 + d) ∷ t));
        found = λ t. rw (a t) (p.found ((48 + d) ∷ t));
      }

digits_printed : (f n : ℕ) → n < f → Printed n (digits_in f n)
unfolding digits_in
digits_printed zero n h = absurd (omega arith)
digits_printed (suc f) n h =
    cases_lt n 10
    (λ s. rw (lt-ltb n 10 s) (one-digit n s))
    (λ b.
    let e : n / 10 * 10 + n % 10 ≡ n = omega arith in
    rw (le-ltb n 10 b) (rw e at (digit_more (n % 10) (omega arith) (n / 10) (digits_in f (n / 10))
    (digits_printed f (n / 10) (omega arith)))))

pub decimal_printed : (n : ℕ) → Printed n (decimal n)
unfolding decimal
decimal_printed n = digits_printed (suc n) n (omega arith)

-- a number below 10^k has at most k digits
digits_short : (f k n : ℕ) → n < 10 ^ suc k → length (digits_in f n) ≤ suc k
unfolding digits_in
digits_short zero k n h = omega arith
digits_short (suc f) zero n h = rw (lt-ltb n 10 (omega (arith, pow-suc 10 0))) (omega arith)
digits_short (suc f) (suc k) n h =
    let fewer : length (digits_in f (n / 10)) ≤ suc k = digits_short f k (n / 10) (omega (arith, pow-suc 10 (suc k))) in
    cases_lt n 10
    (λ s. rw (lt-ltb n 10 s) (omega arith))
    (λ b. rw (le-ltb n 10 b) (omega (arith, length-append (digits_in f (n / 10)) ((48 + n % 10) ∷ []))))

decimal_short : (k n : ℕ) → n < 10 ^ suc k → length (decimal n) ≤ suc k
unfolding decimal
decimal_short k n h = digits_short (suc n) k n h

past-none : (t : ℕ → Bool) (s : List ℕ) → run t s ≡ 0 → past t s ≡ s
unfolding past
past-none t s e = rw e

-- Two numbers in range, printed with a space between them, ask for their table.
module _ (n last : ℕ) (r : in_range n last ≡ true) where
  last-alone : decimal last ++ [] ≡ decimal last
  last-alone = append-nil (decimal last)

  first-is : first_part (decimal n ++ (32 ∷ decimal last)) ≡ decimal n ++ (32 ∷ decimal last)
  unfolding first_part
  first-is = past-none is_blank (decimal n ++ (32 ∷ decimal last)) ((decimal_printed n).begins (32 ∷ decimal last))

  second_is : second_part (decimal n ++ (32 ∷ decimal last)) ≡ decimal last
  unfolding second_part past run is_digit is_blank
  second_is =
      let none : run is_blank (decimal last) ≡ 0 = rw last-alone at ((decimal_printed last).begins []) in
      rw (first-is, (decimal_printed n).passes (32 ∷ decimal last), none)

  rest-is : last_part (decimal n ++ (32 ∷ decimal last)) ≡ []
  unfolding last_part past run
  rest-is =
      let none : past is_digit (decimal last) ≡ past is_digit [] = rw last-alone at ((decimal_printed last).passes []) in
      rw (second_is, none)

  pub every_table-is-asked_for : asked (decimal n ++ (32 ∷ decimal last)) ≡ Asked.Table n last
  unfolding asked two_numbers number number_from is_digit
  every_table-is-asked_for =
      let small = in_range_lem n last r in
      let l : length (decimal n ++ (32 ∷ decimal last)) ≤ 4096 =
      omega (
        arith,
        length-append (decimal n) (32 ∷ decimal last),
        decimal_short 1 n (omega (arith, small.0)),
        decimal_short 6 last (omega (arith, small.1)),
      ) in
      let f : ltb 0 (run is_digit (decimal last)) ≡ true = rw last-alone at ((decimal_printed last).found []) in
      let v : number_from 0 (decimal last) ≡ last = rw last-alone at ((decimal_printed last).reads []) in
      rw (
        first-is,
        second_is,
        rest-is,
        le-leb (length (decimal n ++ (32 ∷ decimal last))) 4096 l,
        (decimal_printed n).found (32 ∷ decimal last),
        f,
        (decimal_printed n).reads (32 ∷ decimal last),
        v,
        r,
      )
