-- The nodes that an Update and a Read ask for are full nodes within the log, and a hash that is written into its place is read there.
use mathlib.Core.Path.{◌≡◌, refl, sym, ap, ◌∙◌}
use mathlib.Core.Bool.{true, cond}
use mathlib.Core.List.{List, [], ◌∷◌, ◌++◌, append_assoc}
use Prim.Native.Nat.{ℕ, zero, suc, ◌+◌, ◌-◌, ◌*◌, ◌/◌, ◌%◌, ◌^◌, ◌≤◌, ◌<◌}
use native.Mathlib.Nat.{add-mod_right, mul-mod_left, mul-le-mul_right, one-mul, two-pow-succ}
use native.Mathlib.Omega.{arith}
use lib.ListN.{length, take, drop, get_or, length-drop, take-append-drop}
use lib.Seq.{length-take-le, take-append-le, drop-append-le}
use lib.Count.{ones, ones-le, ones_cat}
use lib.Pow.{pow_pos, pow_mono}
use Rattle.tree.specs.Bytes.{written}
use Rattle.tree.specs.Level.{is_full}
use Rattle.tree.specs.Tree.{block_of}
use Rattle.tree.specs.Cover.{at, piece, peaks, tiles, cover}
use Rattle.tree.specs.Read.{peak_of, sibling_end, read_nodes}
use Rattle.tree.specs.Inner.{peak_place}
use Rattle.tree.specs.declared.cover.Node.{Node}
use Rattle.tree.proofs.ByteLaws.{written-fits, written-length}
use Rattle.tree.proofs.Cases.{by_eqb, cases_le, cases_eq}
use Rattle.tree.proofs.Levels.{full_mod, mod_full}
use Rattle.tree.proofs.Tiles.{Tiled, peaks_tile, cover-tiles, peaks_are_ones, ones_of_zero, ones_of_one}
use Rattle.tree.proofs.Peaks.{peak_holds, sibling_low, peak_level_small, read_count_lem as nodes-count, read_sibling, read-before, read-after}
use Rattle.tree.proofs.Pieces.{piece-whole}
use Rattle.user_read.specs.Read.{read_count}
use Rattle.user_write.proofs.Signing.{written_part}

-- a full node of the first w positions
pub record FullNode (w : ℕ) (n : Node) : Type 0 where
  pub full : is_full n.position n.level ≡ true
  pub low : 1 ≤ n.position
  pub high : n.position ≤ w

-- the end of an aligned block is full
end_full : (o l : ℕ) → is_full o l ≡ true → is_full (o + 2 ^ l) l ≡ true
end_full o l f = mod_full (o + 2 ^ l) l (add-mod_right o (2 ^ l) ∙ full_mod o l f)

-- tiles from o to w end at or after o
tiled_low : (o w : ℕ) (ns : List Node) → Tiled o w ns → o ≤ w
unfolding Tiled
tiled_low o w [] t = omega arith
tiled_low o w (n ∷ ns) t =
    let e = t.1 in
    let r = tiled_low n.position w ns t.2 in
    omega arith

-- each tile is a full node within w
tile_in : (o w : ℕ) (ns : List Node) (j : ℕ) → Tiled o w ns → j < length ns → FullNode w (get_or ns j (at 0 0))
unfolding Tiled
tile_in o w [] j t h = absurd (omega arith)
tile_in o w (n ∷ ns) zero t h =
    let e = t.1 in
    let z = pow_pos n.level in
    record { full = rw e (end_full o n.level t.0); low = omega arith; high = tiled_low n.position w ns t.2 }
tile_in o w (n ∷ ns) (suc j) t h = tile_in n.position w ns j t.2 (omega arith)

-- the nodes of a cover
pub cover-node : (v w j : ℕ) → v ≤ w → j < length (cover v w) → FullNode w (get_or (cover v w) j (at 0 0))
cover-node v w j h i = tile_in 0 w (cover v w) j (cover-tiles v w h) i

-- so is each peak of v
peak-node : (v j : ℕ) → j < length (peaks v) → FullNode v (get_or (tiles 0 v) j (at 0 0))
unfolding peaks
peak-node v j h = tile_in 0 v (peaks v) j (peaks_tile v) h

-- a sibling is a full node
sibling_full : (i l : ℕ) → is_full (sibling_end i l) l ≡ true
unfolding sibling_end block_of
sibling_full i l =
    let b = mod_full ((i - 1) / 2 ^ l * 2 ^ l) l (mul-mod_left ((i - 1) / 2 ^ l) (2 ^ l)) in
    let t : (i - 1) / 2 ^ l * 2 ^ l + 2 ^ suc l ≡ (i - 1) / 2 ^ l * 2 ^ l + 2 ^ l + 2 ^ l = omega (arith, two-pow-succ l) in
    by_eqb (λ x. is_full (cond x ((i - 1) / 2 ^ l * 2 ^ l + 2 ^ suc l) ((i - 1) / 2 ^ l * 2 ^ l)) l ≡ true) ((i - 1) / 2 ^ l % 2) 0
    (λ e. rw t (end_full _ l (end_full _ l b))) (λ e. b)

-- and no sibling ends at 0
sibling_some : (i l : ℕ) → 1 ≤ sibling_end i l
unfolding sibling_end block_of
sibling_some i l =
    let z = pow_pos l in
    let y = pow_pos (suc l) in
    by_eqb (λ x. 1 ≤ cond x ((i - 1) / 2 ^ l * 2 ^ l + 2 ^ suc l) ((i - 1) / 2 ^ l * 2 ^ l)) ((i - 1) / 2 ^ l % 2) 0
    (λ e. omega arith)
    (λ e. let m : 1 * 2 ^ l ≤ (i - 1) / 2 ^ l * 2 ^ l = mul-le-mul_right (2 ^ l) (omega (arith, e)) in let o = one-mul (2 ^ l) in omega arith)

-- the nodes of a read
pub read-node : (i v j : ℕ) → 1 ≤ i → i ≤ v → j < length (read_nodes i v) → FullNode v (get_or (read_nodes i v) j (at 0 0))
read-node i v j z h g =
    let n = peak_of i (peaks v) in
    let p = peak_holds i v (omega arith) h in
    let c = nodes-count i v (omega arith) h in
    let place = peak_place i (peaks v) in
    cases_le n.level j
    (λ a.
    cases_le place (j - n.level)
    (λ b. rw (read-after i v n.level place refl refl j a b) (peak-node v (j - n.level + 1) (omega arith)))
    (λ b. rw (read-before i v n.level place refl refl j a b) (peak-node v (j - n.level) (omega arith))))
    (λ a.
    rw (read_sibling i v n.level place refl refl j a)
    (record { full = sibling_full i j; low = sibling_some i j; high = let x = sibling_low i v n p j a in let y = p.low in omega arith }))

-- "A Read takes the height of i's peak plus the count of peaks"
pub read_count_lem : (i v : ℕ) → 1 ≤ i → i ≤ v → read_count i v ≡ (peak_of i (peaks v)).level + length (peaks v)
unfolding read_count
read_count_lem i v z h = omega (arith, nodes-count i v (omega arith) h)

-- below 2^20 entries a peak has a level of at most 19, and there are at most 20 peaks
read_few : (i v : ℕ) → 1 ≤ i → i ≤ v → v < 1048576 → read_count i v ≤ 39
read_few i v z h g =
    let n = peak_of i (peaks v) in
    let p = peak_holds i v (omega arith) h in
    let e = p.ends in
    let y = p.low in
    let l : n.level ≤ 19 = cases_le 20 n.level (λ j. let x : 2 ^ 20 ≤ 2 ^ n.level = pow_mono {j = n.level} j in absurd (omega arith)) (λ j. omega arith) in
    omega (arith, read_count_lem i v z h, peaks_are_ones v, ones-le 20 v g)

-- 2^20 entries have one peak
read_all : (i : ℕ) → 1 ≤ i → i ≤ 1048576 → read_count i 1048576 ≤ 39
read_all i z h =
    let o = ones_cat 20 1 0 (omega arith) in
    let a = ones_of_one in
    let b = ones_of_zero in
    let c : ones 1048576 ≡ 1 = omega arith in
    omega (arith, read_count_lem i 1048576 z h, peaks_are_ones 1048576, peak_level_small i 1048576 (omega arith))

-- the hashes of a Read fit the 39 places of the list
pub read-at-most_39 : (i v : ℕ) → 1 ≤ i → i ≤ v → v ≤ 1048576 → read_count i v ≤ 39
read-at-most_39 i v z h g = cases_eq v 1048576 (λ e. rw e (read_all i z (omega arith))) (λ n. read_few i v z h (omega arith))

-- a hash that is written into a list of hashes stands at its place
pub piece-written : (hashes body : List ℕ) (k : ℕ) → length body ≡ 32 → 32 * k + 32 ≤ length hashes → piece (written hashes (32 * k) body) k ≡ body
piece-written hashes body k l h =
    let n = written-length hashes (32 * k) body in
    piece-whole (written hashes (32 * k) body) k (omega arith) ∙ written_part hashes body (32 * k) 32 l h

-- a part of two joined lists that lies within the first
part_of_first : (n a : ℕ) (x y : List ℕ) → a + n ≤ length x → take n (drop a (x ++ y)) ≡ take n (drop a x)
part_of_first n a x y h =
    ap (take n) (drop-append-le a x y (omega arith)) ∙ take-append-le n (drop a x) y (omega (arith, length-drop a x))

-- the hashes before it stay
pub piece-before : (hashes body : List ℕ) (j k : ℕ) → length body ≡ 32 → 32 * k + 32 ≤ length hashes → j < k
    → piece (written hashes (32 * k) body) j ≡ piece hashes j
piece-before hashes body j k l h g =
    let front : List ℕ = take (32 * k) hashes in
    let f : length front ≡ 32 * k = length-take-le (32 * k) hashes (omega arith) in
    let n = written-length hashes (32 * k) body in
    piece-whole (written hashes (32 * k) body) j (omega arith)
    ∙ ap (λ (x : List ℕ). take 32 (drop (32 * j) x)) (written-fits hashes (32 * k) body (omega arith) ∙ append_assoc front body (drop (32 * k + length body) hashes))
    ∙ part_of_first 32 (32 * j) front _ (omega arith) ∙ sym (part_of_first 32 (32 * j) front (drop (32 * k) hashes) (omega arith))
    ∙ ap (λ (x : List ℕ). take 32 (drop (32 * j) x)) (take-append-drop (32 * k) hashes) ∙ sym (piece-whole hashes j (omega arith))
