-- Rows by their types' numbers: what holds of each, which pairs are sets, and which keys a check by types refuses.
use mathlib.Core.Path.{◌≡◌, refl, ◌∙◌, sym, subst}
use mathlib.Core.Bool.{Bool, true, false, cond, ◌&&◌, false≢true}
use mathlib.Core.List.{List}
use Rattle.std.specs.Prelude.{None}
use mathlib.Core.Logic.{⊎_elim, ◌⊎◌, inl, inr}
use Prim.Native.Nat.{ℕ, ◌^◌, ◌≤◌, ◌<◌}
use native.Mathlib.Omega.{arith}
use lib.Dec.{leb, eqb}
use lib.ListN.{length}
use borrow.Author.Tests.{eqb-true, eqb-false, leb-true, le-leb, lt-leb}
use Rattle.sha256.specs.Bytes.{number_at}
use Rattle.sha256.proofs.Cases.{by_bool}
use Rattle.lms.specs.declared.Ots.{Ots}
use Rattle.lms.specs.declared.Lms.{Lms}
use Rattle.lms.specs.Types.{LMOTS_SHA256_N32_W1, LMOTS_SHA256_N32_W2, LMOTS_SHA256_N32_W4, LMOTS_SHA256_N32_W8}
use Rattle.lms.specs.Types.{LMS_SHA256_M32_H5, LMS_SHA256_M32_H10}
use Rattle.lms.specs.Inner.{Row}
use Rattle.lms.specs.Sets.{other_type, ots_of, lms_of, is_set, key_lms_type, key_ots_type}
use Rattle.lms.specs.Tree.{tree_size}
use Rattle.lms.specs.Check.{key_fits, check_of}
use Rattle.lms.specs.Claims.{Set}
use Rattle.lms.proofs.Climbing.{both}

pub ots_three : ots_of 3 ≡ LMOTS_SHA256_N32_W4
unfolding ots_of
ots_three = refl

pub lms_six : lms_of 6 ≡ LMS_SHA256_M32_H10
unfolding lms_of
lms_six = refl

-- a number, and what stands for it as the type of a row that is in no table
record Apart (t x : ℕ) : Type 0 where
  differs : x ≡ t → ⊥
  no_type : (x ≡ 0) ⊎ (x ≡ 4294967295)

other_apart : (t : ℕ) → Apart t (other_type t)
unfolding other_type
other_apart t =
    by_bool (λ b. Apart t (cond b 4294967295 0)) (eqb t 0)
    (λ e. record { differs = λ q. absurd (omega (arith, eqb-true t 0 e)); no_type = inr refl })
    (λ e. record { differs = λ q. eqb-false t 0 e (sym q); no_type = inl refl })

-- a row that is chosen by a test
choose : {A : Type 0} (P : A → Type 0) (b : Bool) (x y : A) → (b ≡ true → P x) → (b ≡ false → P y) → P (cond b x y)
choose P true x y f g = f refl
choose P false x y f g = g refl

-- the row of a number that is in no table
abbrev no_ots : ℕ → Ots
no_ots x = record { otstype = x; w = 4; p = 67; ls = 4 }

abbrev no_lms : ℕ → Lms
no_lms x = record { lmstype = x; h = 10 }

-- what holds of the four rows of Table 1, and of the row of any other number, holds of every row
module _ (P : ℕ → Ots → Type 0) (one : P 1 LMOTS_SHA256_N32_W1) (two : P 2 LMOTS_SHA256_N32_W2) (three : P 3 LMOTS_SHA256_N32_W4)
    (four : P 4 LMOTS_SHA256_N32_W8) (other : (t x : ℕ) → Apart t x → (1 ≤ t → t ≤ 4 → ⊥) → P t (no_ots x)) where
  abbrev from_4 : ℕ → Ots
  from_4 t = cond (eqb t 4) LMOTS_SHA256_N32_W8 (no_ots (other_type t))

  abbrev from_3 : ℕ → Ots
  from_3 t = cond (eqb t 3) LMOTS_SHA256_N32_W4 (from_4 t)

  abbrev from_2 : ℕ → Ots
  from_2 t = cond (eqb t 2) LMOTS_SHA256_N32_W2 (from_3 t)

  at : (t n : ℕ) (o : Ots) → P n o → eqb t n ≡ true → P t o
  at t n o h q = subst (λ k. P k o) (sym (eqb-true t n q)) h

  by_ots : (t : ℕ) → P t (ots_of t)
  unfolding ots_of
  by_ots t =
      choose (P t) (eqb t 1) LMOTS_SHA256_N32_W1 (from_2 t) (at t 1 LMOTS_SHA256_N32_W1 one)
      (λ n1.
      choose (P t) (eqb t 2) LMOTS_SHA256_N32_W2 (from_3 t) (at t 2 LMOTS_SHA256_N32_W2 two)
      (λ n2.
      choose (P t) (eqb t 3) LMOTS_SHA256_N32_W4 (from_4 t) (at t 3 LMOTS_SHA256_N32_W4 three)
      (λ n3.
      choose (P t) (eqb t 4) LMOTS_SHA256_N32_W8 (no_ots (other_type t)) (at t 4 LMOTS_SHA256_N32_W8 four)
      (λ n4.
      other t (other_type t) (other_apart t)
      (λ lo hi. omega (arith, eqb-false t 1 n1, eqb-false t 2 n2, eqb-false t 3 n3, eqb-false t 4 n4))))))

-- the same of Table 2, up to height 10
by_lms : (P : ℕ → Lms → Type 0) → P 5 LMS_SHA256_M32_H5 → P 6 LMS_SHA256_M32_H10
    → ((t x : ℕ) → Apart t x → (5 ≤ t → t ≤ 6 → ⊥) → P t (no_lms x)) → (t : ℕ) → P t (lms_of t)
unfolding lms_of
by_lms P five six other t =
    choose (P t) (eqb t 5) LMS_SHA256_M32_H5 (cond (eqb t 6) LMS_SHA256_M32_H10 (no_lms (other_type t)))
    (λ q. subst (λ k. P k LMS_SHA256_M32_H5) (sym (eqb-true t 5 q)) five)
    (λ n5.
    choose (P t) (eqb t 6) LMS_SHA256_M32_H10 (no_lms (other_type t)) (λ q. subst (λ k. P k LMS_SHA256_M32_H10) (sym (eqb-true t 6 q)) six)
    (λ n6. other t (other_type t) (other_apart t) (λ lo hi. omega (arith, eqb-false t 5 n5, eqb-false t 6 n6))))

-- each is a row, the four of the table and the one of no type, by computation
pub row_of : (t : ℕ) → Row (ots_of t)
row_of =
    by_ots (λ _ o. Row o)
    (record { w_some = omega arith; w_divides = refl; digits_fill = refl; sum_fits = omega arith })
    (record { w_some = omega arith; w_divides = refl; digits_fill = refl; sum_fits = omega arith })
    (record { w_some = omega arith; w_divides = refl; digits_fill = refl; sum_fits = omega arith })
    (record { w_some = omega arith; w_divides = refl; digits_fill = refl; sum_fits = omega arith })
    (λ t x a n. record { w_some = omega arith; w_divides = refl; digits_fill = refl; sum_fits = omega arith })

pub height_of : (t : ℕ) → (lms_of t).h ≤ 25
height_of = by_lms (λ _ l. l.h ≤ 25) (omega arith) (omega arith) (λ t x a n. omega arith)

-- a buffer that is shorter than the tree of type t, whose row is l and whose length is computed as `size`
pub tree_short : (t size : ℕ) (l : Lms) (nodes : List ℕ) → l ≡ lms_of t → size ≡ tree_size l.h → length nodes < size
    → leb (tree_size (lms_of t).h) (length nodes) ≡ false
tree_short t size l nodes row computed short = lt-leb _ (length nodes) (rw (computed, row) at short)

-- of a table with the types `first` to `last`: a row's type x is the t that is asked for exactly where the table has it, and a type of the
-- table is asked for by its own number only
record Asked (first last t x : ℕ) : Type 0 where
  named : first ≤ t → t ≤ last → x ≡ t
  only : x ≡ t → (first ≤ t) × (t ≤ last)
  own : first ≤ x → x ≤ last → x ≡ t
  fits : x < 2 ^ 32

asked_in : (first last t : ℕ) → first ≤ t → t ≤ last → t < 2 ^ 32 → Asked first last t t
asked_in first last t lo hi small = record { named = λ _ _. refl; only = λ _. (lo, hi); own = λ _ _. refl; fits = small }

asked_other : (first last t x : ℕ) → 1 ≤ first → last ≤ 6 → Apart t x → (first ≤ t → t ≤ last → ⊥) → Asked first last t x
asked_other first last t x low high a n =
    record {
      named = λ lo hi. absurd (n lo hi);
      only = λ e. absurd (a.differs e);
      own = λ lo hi. ⊎_elim (λ (z : x ≡ 0). absurd (omega arith)) (λ (z : x ≡ 4294967295). absurd (omega arith)) a.no_type;
      fits = ⊎_elim (λ (z : x ≡ 0). omega arith) (λ (z : x ≡ 4294967295). omega arith) a.no_type;
    }

ots_asked : (t : ℕ) → Asked 1 4 t (ots_of t).otstype
ots_asked =
    by_ots (λ t o. Asked 1 4 t o.otstype) (asked_in 1 4 1 (omega arith) (omega arith) (omega arith))
    (asked_in 1 4 2 (omega arith) (omega arith) (omega arith)) (asked_in 1 4 3 (omega arith) (omega arith) (omega arith))
    (asked_in 1 4 4 (omega arith) (omega arith) (omega arith)) (λ t x. asked_other 1 4 t x (omega arith) (omega arith))

lms_asked : (t : ℕ) → Asked 5 6 t (lms_of t).lmstype
lms_asked =
    by_lms (λ t l. Asked 5 6 t l.lmstype) (asked_in 5 6 5 (omega arith) (omega arith) (omega arith))
    (asked_in 5 6 6 (omega arith) (omega arith) (omega arith)) (λ t x. asked_other 5 6 t x (omega arith) (omega arith))

-- so the round trip holds of the rows of every pair of types
pub set_of : (lmstype otstype : ℕ) → Set (ots_of otstype) (lms_of lmstype)
set_of u t =
    record { ots_fits = (ots_asked t).fits; type_fits = (lms_asked u).fits; numbers_fit = omega (arith, height_of u) }

-- the pairs of types that are sets
pub set_types : (lmstype otstype : ℕ) → is_set lmstype otstype ≡ true
    → ((5 ≤ lmstype) × (lmstype ≤ 6)) × ((1 ≤ otstype) × (otstype ≤ 4))
unfolding is_set
set_types u t e =
    let p = both (leb 5 u && leb u 6) _ e in
    let a = both (leb 5 u) (leb u 6) p.0 in
    let b = both (leb 1 t) (leb t 4) p.1 in
    ((leb-true 5 u a.0, leb-true u 6 a.1), (leb-true 1 t b.0, leb-true t 4 b.1))

pub types_set : (lmstype otstype : ℕ) → 5 ≤ lmstype → lmstype ≤ 6 → 1 ≤ otstype → otstype ≤ 4 → is_set lmstype otstype ≡ true
unfolding is_set
types_set u t a b c d = rw (le-leb 5 u a, le-leb u 6 b, le-leb 1 t c, le-leb t 4 d)

-- a pair is a set exactly where both rows are of the types asked
pub set-rows : (lmstype otstype : ℕ) → is_set lmstype otstype ≡ true → ((lms_of lmstype).lmstype ≡ lmstype) × ((ots_of otstype).otstype ≡ otstype)
set-rows u t e =
    let n = set_types u t e in
    ((lms_asked u).named n.0.0 n.0.1, (ots_asked t).named n.1.0 n.1.1)

pub rows-set : (lmstype otstype : ℕ) → (lms_of lmstype).lmstype ≡ lmstype → (ots_of otstype).otstype ≡ otstype → is_set lmstype otstype ≡ true
rows-set u t a b =
    let m = (lms_asked u).only a in
    let n = (ots_asked t).only b in
    types_set u t m.0 m.1 n.0 n.1

-- a key that does not name the two rows' types is refused
key_unfit : (o : Ots) (l : Lms) (key : List ℕ) → (key_lms_type key ≡ l.lmstype → key_ots_type key ≡ o.otstype → ⊥) → key_fits o l key ≡ false
unfolding key_fits key_lms_type key_ots_type
key_unfit o l key n =
    by_bool (λ b. b ≡ false) (key_fits o l key)
    (λ e.
    let p = both (eqb (length key) 56) _ e in
    let q = both (eqb (number_at 4 key 0) l.lmstype) _ p.1 in
    absurd (n (eqb-true (number_at 4 key 0) l.lmstype q.0) (eqb-true (number_at 4 key 4) o.otstype q.1)))
    (λ e. refl)

refused : (o : Ots) (l : Lms) (key message s : List ℕ) → (key_lms_type key ≡ l.lmstype → key_ots_type key ≡ o.otstype → ⊥)
    → check_of o l key message s ≡ None
unfolding check_of
refused o l key message s n = rw (key_unfit o l key n)

module _ (lmstype otstype : ℕ) (key message s : List ℕ) where
  -- under a set a key of other types is refused
  pub other_key-refused : is_set lmstype otstype ≡ true → (key_lms_type key ≡ lmstype → key_ots_type key ≡ otstype → ⊥)
      → check_of (ots_of otstype) (lms_of lmstype) key message s ≡ None
  other_key-refused e n =
      let r = set-rows lmstype otstype e in
      refused (ots_of otstype) (lms_of lmstype) key message s (λ a b. n (a ∙ r.0) (b ∙ r.1))

  -- a key of a set is refused under any other pair of types, a set or not
  pub other_types_refuse : is_set (key_lms_type key) (key_ots_type key) ≡ true → (key_lms_type key ≡ lmstype → key_ots_type key ≡ otstype → ⊥)
      → check_of (ots_of otstype) (lms_of lmstype) key message s ≡ None
  other_types_refuse e n =
      let k = set_types (key_lms_type key) (key_ots_type key) e in
      refused (ots_of otstype) (lms_of lmstype) key message s
      (λ a b.
      n (a ∙ (lms_asked lmstype).own (rw (← a) k.0.0) (rw (← a) k.0.1))
      (b ∙ (ots_asked otstype).own (rw (← b) k.1.0) (rw (← b) k.1.1)))

-- a key whose types are no set is refused under its own types
pub no_set-refused : (key message s : List ℕ) → is_set (key_lms_type key) (key_ots_type key) ≡ false
    → check_of (ots_of (key_ots_type key)) (lms_of (key_lms_type key)) key message s ≡ None
no_set-refused key message s e =
    refused (ots_of (key_ots_type key)) (lms_of (key_lms_type key)) key message s
    (λ a b. false≢true (sym e ∙ rows-set (key_lms_type key) (key_ots_type key) (sym a) (sym b)))
