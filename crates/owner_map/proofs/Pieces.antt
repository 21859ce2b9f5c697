-- Rows laid one after the other, and what a piece of the table is.
use mathlib.Core.Path.{◌≡◌, refl, ◌∙◌, sym}
use mathlib.Core.Bool.{cond}
use mathlib.Core.List.{List, [], ◌++◌, append_assoc, append-nil}
use Prim.Native.Nat.{ℕ, zero, suc, ◌+◌, ◌-◌, ◌%◌, ◌≤◌, ◌<◌}
use native.Mathlib.Numerals.{add-one}
use native.Mathlib.Nat.{add-zero}
use native.Mathlib.Omega.{arith}
use lib.Dec.{eqb, ltb}
use lib.ListN.{length, take, drop, length-append}
use lib.Seq.{take_at}
use borrow.Author.Tests.{lt-ltb, le-ltb}
use Rattle.sha256.specs.Bytes.{written}
use Rattle.sha256.proofs.Cases.{by_bool}
use Rattle.sha256.proofs.Laws.{written-fits, written_after}
use Rattle.tree.specs.Level.{lg}
use Rattle.tree.specs.Label.{label, server_of, owner, wait}
use Rattle.tree.proofs.Labels.{label-at-top, owner_by_label}
use Rattle.owner_map.specs.Table.{cell, row, rows, fitting, piece}

-- s laid at place a of d: what is there then, and the place behind it, at most m bytes on
abbrev pub Put : List ℕ → ℕ → List ℕ → ℕ → List ℕ → ℕ → Type 0
Put d a s m d' a' = (d' ≡ written d a s) × ((a' ≡ a + length s) × (a' ≤ a + m))

-- s and then t
put_twice : (d d' d'' s t : List ℕ) (a a' a'' m k : ℕ) → a + (m + k) ≤ length d → Put d a s m d' a' → Put d' a' t k d'' a''
    → Put d a (s ++ t) (m + k) d'' a''
put_twice d d' d'' s t a a' a'' m k h p q =
    let l : length (s ++ t) ≡ length s + length t = length-append s t in (
      q.0 ∙ rw p.0 (written_after d s t a a' (sym p.1.0) (omega (arith, p.1.0, p.1.1, q.1.0, q.1.1))),
      (omega (arith, p.1.0, q.1.0), omega (arith, p.1.1, q.1.1)),
    )

-- the five numbers of a row
pub row_laid : (n p : ℕ) (d₀ d₁ d₂ d₃ d₄ d₅ : List ℕ) (a₀ a₁ a₂ a₃ a₄ a₅ : ℕ) (l f h g w : ℕ) → a₀ + 105 ≤ length d₀
    → l ≡ label p 0 → f ≡ cond (eqb n 0) 0 (server_of n (l % n)) → h ≡ lg p
    → g ≡ cond (eqb n 0) 0 (server_of n ((l + h) % n)) → w ≡ wait p n
    → Put d₀ a₀ (cell p 32) 21 d₁ a₁ → Put d₁ a₁ (cell l 32) 21 d₂ a₂ → Put d₂ a₂ (cell f 32) 21 d₃ a₃
    → Put d₃ a₃ (cell g 32) 21 d₄ a₄ → Put d₄ a₄ (cell w 10) 21 d₅ a₅ → Put d₀ a₀ (row n p) 105 d₅ a₅
unfolding row
row_laid n p d₀ d₁ d₂ d₃ d₄ d₅ a₀ a₁ a₂ a₃ a₄ a₅ l f h g w room el ef eh eg ew p₁ p₂ p₃ p₄ p₅ =
    let q₂ = put_twice d₀ d₁ d₂ (cell p 32) (cell l 32) a₀ a₁ a₂ 21 21 (omega arith) p₁ p₂ in
    let q₃ = put_twice d₀ d₂ d₃ _ (cell f 32) a₀ a₂ a₃ 42 21 (omega arith) q₂ p₃ in
    let q₄ = put_twice d₀ d₃ d₄ _ (cell g 32) a₀ a₃ a₄ 63 21 (omega arith) q₃ p₄ in
    let q₅ = put_twice d₀ d₄ d₅ _ (cell w 10) a₀ a₄ a₅ 84 21 (omega arith) q₄ p₅ in
    let top : l + h ≡ label p (lg p) = omega (arith, label-at-top p) in
    let leaf : f ≡ owner n p 0 = ef ∙ owner_by_label n p 0 l el in
    let root : g ≡ owner n p (lg p) = eg ∙ owner_by_label n p (lg p) (l + h) top in
    rw (← el, ← leaf, ← root, ← ew) q₅

-- The loop of `rows::fill`: d after the rows from done + 1 to p, which take the first `at` bytes.
pub record Laid (n done last : ℕ) (d₀ : List ℕ) (p : ℕ) (d : List ℕ) (at : ℕ) : Type 0 where
  pub on : done ≤ p
  pub same : length d ≡ length d₀
  pub within : at ≤ length d₀
  pub laid : d ≡ written d₀ 0 (rows n done (p - done))
  pub count : at ≡ length (rows n done (p - done))
  pub left : fitting n done (last - done) (length d₀) ≡ p - done + fitting n p (last - p) (length d₀ - at)

abbrev pub Filled : ℕ → ℕ → ℕ → List ℕ → ℕ → List ℕ → ℕ → Type 0
Filled n done last d₀ p d at =
    (d ≡ written d₀ 0 (piece n done last (length d₀)))
    × ((at ≡ length (piece n done last (length d₀)))
    × ((at ≤ length d₀) × (p ≡ done + fitting n done (last - done) (length d₀))))

pub laid_none : (n done last : ℕ) (d : List ℕ) → Laid n done last d done d 0
unfolding rows
laid_none n done last d =
    let z : done - done ≡ 0 = omega arith in
    let all : length d - 0 ≡ length d = omega arith in
    record {
      on = omega arith;
      same = refl;
      within = omega arith;
      laid = rw z (sym (written-fits d 0 [] (omega arith)));
      count = rw z;
      left = rw (z, all) (omega arith);
    }

module _ (n done last : ℕ) (d₀ : List ℕ) (p : ℕ) (d : List ℕ) (at : ℕ) (s : Laid n done last d₀ p d at) where
  pub laid_more : (d' : List ℕ) (at' : ℕ) → p < last → 105 ≤ length d₀ - at → length d' ≡ length d₀ → Put d at (row n (p + 1)) 105 d' at'
      → Laid n done last d₀ (p + 1) d' at'
  unfolding rows fitting
  laid_more d' at' lt room keeps put =
      let on = s.on in
      let k : p + 1 - done ≡ suc (p - done) = omega arith in
      let q : done + suc (p - done) ≡ p + 1 = omega arith in
      let r : rows n done (p + 1 - done) ≡ rows n done (p - done) ++ row n (p + 1) = rw (k, q) in
      let la : length (rows n done (p - done) ++ row n (p + 1)) ≡ length (rows n done (p - done)) + length (row n (p + 1)) =
      length-append (rows n done (p - done)) (row n (p + 1)) in
      let m : last - p ≡ suc (last - (p + 1)) = omega arith in
      let free : length d₀ - at - length (row n (suc p)) ≡ length d₀ - at' = rw (← add-one) (omega (arith, put.1.0)) in
      let fits : at + length (row n (p + 1)) ≤ length d₀ = omega (arith, put.1.0, put.1.1) in
      let next : fitting n p (last - p) (length d₀ - at) ≡ suc (fitting n (p + 1) (last - (p + 1)) (length d₀ - at')) =
      rw (m, le-ltb (length d₀ - at) 105 room, free, add-one) in
      record {
        on = omega arith;
        same = keeps;
        within = omega (arith, put.1.1);
        laid = put.0 ∙ rw (r, s.laid) (written_after d₀ (rows n done (p - done)) (row n (p + 1)) 0 at (omega (arith, s.count)) fits);
        count = rw r (omega (arith, s.count, put.1.0));
        left = omega (arith, s.left);
      }

  stopped : fitting n p (last - p) (length d₀ - at) ≡ 0 → Filled n done last d₀ p d at
  unfolding piece
  stopped z =
      let k : fitting n done (last - done) (length d₀) ≡ p - done = omega (arith, s.left) in
      let on = s.on in
      rw k (s.laid, (s.count, (s.within, omega arith)))

  -- no room for one more row
  pub laid_full : p < last → length d₀ - at < 105 → Filled n done last d₀ p d at
  unfolding fitting
  laid_full lt room =
      let m : last - p ≡ suc (last - suc p) = omega arith in
      stopped (rw (m, lt-ltb (length d₀ - at) 105 room))

  -- no row left
  pub laid_all : last ≤ p → Filled n done last d₀ p d at
  unfolding fitting
  laid_all le = let m : last - p ≡ 0 = omega arith in stopped (rw m)

-- no piece goes past the last position
fitting-most : (n p k room : ℕ) → fitting n p k room ≤ k
unfolding fitting
fitting-most n p zero room = omega arith
fitting-most n p (suc k) room =
    by_bool (λ t. cond t 0 (suc (fitting n (suc p) k (room - length (row n (suc p))))) ≤ suc k) (ltb room 105)
    (λ _. omega arith) (λ _. omega (arith, fitting-most n (suc p) k (room - length (row n (suc p)))))

-- rows of two pieces, one behind the other
rows_join : (n p j k : ℕ) → rows n p j ++ rows n (p + j) k ≡ rows n p (j + k)
unfolding rows
rows_join n p j zero = rw add-zero (append-nil (rows n p j))
rows_join n p j (suc k) =
    let e : p + j + suc k ≡ p + suc (j + k) = omega arith in
    let m : j + suc k ≡ suc (j + k) = omega arith in
    rw (m, ← rows_join n p j k, e) (sym (append_assoc (rows n p j) (rows n (p + j) k) (row n (p + suc (j + k)))))

rows_next : (n j k : ℕ) → rows n 0 j ++ rows n j k ≡ rows n 0 (j + k)
rows_next n j k = let z : 0 + j ≡ j = omega arith in rw z at (rows_join n 0 j k)

-- A piece that `rows::fill` laid into a buffer with room for a row: it goes on, not past the last position, and its bytes, behind those of
-- all pieces before, are the rows up to where it goes.
pub next-piece : (n done last p at : ℕ) (d₀ d : List ℕ) → 105 ≤ length d₀ → done < last → Filled n done last d₀ p d at
    → (done < p) × ((p ≤ last) × (rows n 0 done ++ take at d ≡ rows n 0 p))
unfolding piece fitting
next-piece n done last p at d₀ d room lt (ed, (ea, (within, ep))) =
    let k = fitting n done (last - done) (length d₀) in
    let m : last - done ≡ suc (last - suc done) = omega arith in
    let some : fitting n done (last - done) (length d₀)
    ≡ suc (fitting n (suc done) (last - suc done) (length d₀ - length (row n (suc done)))) =
    rw (m, le-ltb (length d₀) 105 room) in
    let most = fitting-most n done (last - done) (length d₀) in
    let r : List ℕ = rows n done (fitting n done (last - done) (length d₀)) in
    let whole : take at d ≡ rows n done (fitting n done (last - done) (length d₀)) =
    rw (ed, written-fits d₀ 0 r (omega arith)) (take_at r (drop (0 + length r) d₀) at (sym ea)) in
    (omega arith, (omega arith, rw (whole, ep) (rows_next n done (fitting n done (last - done) (length d₀)))))
