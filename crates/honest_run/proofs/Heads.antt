-- Labels and heads: where the labels up to T are reserved in order, every server's head is the greatest label of its own up to T.
use mathlib.Core.Path.{◌≡◌, refl, ap, sym, ◌∙◌}
use mathlib.Core.Bool.{cond}
use Prim.Native.Nat.{ℕ, zero, suc, ◌+◌, ◌-◌, ◌*◌, ◌/◌, ◌%◌, ◌≤◌, ◌<◌}
use native.Mathlib.Nat.{div-add-mod', mod-lt, mod-eq_of_lt, mod_self, add-mod_right, mul-le-mul_right, add-mul, add-zero, add-suc}
use native.Mathlib.Omega.{arith}
use lib.Dec.{eqb}
use borrow.Author.Tests.{ne_eqb}
use Rattle.tree.specs.Level.{lg}
use Rattle.tree.specs.Label.{nodes_to, label, server_of, owner}
use Rattle.tree.proofs.Cases.{by_eqb, cases_le, cases_eq, positive}
use Rattle.tree.proofs.Labels.{label-sum}
use Rattle.honest_run.proofs.Invariant.{owner_of, HeadAt}

-- the owner of a node is that of its label
pub owner-label : (n p l : ℕ) → 0 < n → owner n p l ≡ owner_of n (label p l)
unfolding owner owner_of
owner-label n p l z = rw (ne_eqb n 0 (λ e. omega arith))

-- labels of one owner have one remainder
same_rest : (n t u : ℕ) → 0 < n → owner_of n t ≡ owner_of n u → t % n ≡ u % n
unfolding owner_of server_of
same_rest n t u z =
    let x = mod-lt t z in
    let y = mod-lt u z in
    by_eqb (λ b. cond b n (t % n) ≡ cond (eqb (u % n) 0) n (u % n) → t % n ≡ u % n) (t % n) 0
    (λ i. by_eqb (λ b. n ≡ cond b n (u % n) → t % n ≡ u % n) (u % n) 0 (λ j q. omega arith) (λ j q. absurd (omega arith)))
    (λ i. by_eqb (λ b. t % n ≡ cond b n (u % n) → t % n ≡ u % n) (u % n) 0 (λ j q. absurd (omega arith)) (λ j q. q))

-- two labels of one owner are n apart
own_gap : (n t u : ℕ) → 0 < n → owner_of n t ≡ owner_of n u → t < u → t + n ≤ u
own_gap n t u z e a =
    let r = same_rest n t u z e in
    let x : t / n * n + t % n ≡ t = div-add-mod' t n in
    let y : u / n * n + u % n ≡ u = div-add-mod' u n in
    cases_le (u / n) (t / n)
    (λ i. let m : u / n * n ≤ t / n * n = mul-le-mul_right n i in absurd (omega arith))
    (λ i.
    let m : (t / n + 1) * n ≤ u / n * n = mul-le-mul_right n (omega arith) in
    let k : (t / n + 1) * n ≡ t / n * n + n = simp add-mul (omega arith) in
    omega arith)

-- the first label of server s is s
own_self : (n s : ℕ) → 0 < s → s ≤ n → owner_of n s ≡ s
unfolding owner_of server_of
own_self n s a b =
    cases_eq s n (λ e. rw (e, mod_self n))
    (λ ne. let h : s < n = omega arith in rw (mod-eq_of_lt h, ne_eqb s 0 (λ z. omega arith)))

-- an owner is one of the n servers
pub own_range : (n t : ℕ) → 0 < n → (0 < owner_of n t) × (owner_of n t ≤ n)
unfolding owner_of server_of
own_range n t z =
    let x = mod-lt t z in
    by_eqb (λ b. (0 < cond b n (t % n)) × (cond b n (t % n) ≤ n)) (t % n) 0 (λ i. (z, omega arith)) (λ i. (omega arith, omega arith))

-- before the first Reserve no server has a head
pub at_first : (n s : ℕ) → 0 < s → HeadAt n s 0 0
at_first n s a = record { low = omega arith; none = λ e. a; mine = λ h. absurd (omega arith); last = λ h. absurd (omega arith) }

-- the owner of the next label has it for its head
pub taken : (n s T : ℕ) → 0 < n → owner_of n (suc T) ≡ s → HeadAt n s (suc T) (suc T)
taken n s T z e = record { low = omega arith; none = λ q. absurd (omega arith); mine = λ h. e; last = λ h. omega arith }

-- n labels further the owner is the same
add-own : (n t : ℕ) → owner_of n (t + n) ≡ owner_of n t
unfolding owner_of
add-own n t = rw add-mod_right

-- any other server keeps its head
pub passed : (n s T t : ℕ) → 0 < s → s ≤ n → (owner_of n (suc T) ≡ s → ⊥) → HeadAt n s T t → HeadAt n s (suc T) t
passed n s T t a b ne h =
    record {
      low = let x = h.low in omega arith;
      none = λ e. let x = h.none e in
          cases_eq (suc T) s (λ q. absurd (ne (ap (owner_of n) q ∙ own_self n s a b))) (λ q. omega arith);
      mine = h.mine;
      last = λ p. let x = h.last p in
          cases_eq (suc T) (t + n) (λ q. absurd (ne (ap (owner_of n) q ∙ add-own n t ∙ h.mine p))) (λ q. omega arith);
    }

-- a head is the same for fewer labels that it is one of
pub lowered : (n s T U t : ℕ) → U ≤ T → t ≤ U → HeadAt n s T t → HeadAt n s U t
lowered n s T U t less low h =
    record { low = low; none = λ e. let x = h.none e in omega arith; mine = h.mine; last = λ p. let x = h.last p in omega arith }

-- no label of a server up to T lies above its head
pub above-own : (n s T t x : ℕ) → 0 < n → s ≤ n → HeadAt n s T t → owner_of n x ≡ s → 0 < x → x ≤ T → x ≤ t
above-own n s T t x c b h e z a =
    cases_le x t (λ i. i)
    (λ i.
    cases_eq t 0
    (λ q. let y = h.none q in let k = own_self n x z (omega arith) in absurd (omega arith))
    (λ q.
    let y = own_gap n t x c (h.mine (positive t q) ∙ sym e) i in
    let k = h.last (positive t q) in
    absurd (omega arith)))

-- the owner of T has it for its head
pub top : (n s T t : ℕ) → 0 < T → 0 < n → s ≤ n → owner_of n T ≡ s → HeadAt n s T t → t ≡ T
top n s T t z c b e h = let x = h.low in let y = above-own n s T t T c b h e z (omega arith) in omega arith

-- a server has one head
pub one-head : (n s T t u : ℕ) → 0 < n → s ≤ n → HeadAt n s T t → HeadAt n s T u → t ≡ u
one-head n s T t u z b h i =
    let below : (a d : ℕ) → HeadAt n s T a → HeadAt n s T d → a ≤ d =
    λ a d x y. cases_eq a 0 (λ e. omega arith) (λ e. above-own n s T d a z b y (x.mine (positive a e)) (positive a e) x.low) in
    let p = below t u h i in
    let q = below u t i h in
    omega arith

-- positions and their labels: those of position p stand after nodes_to (p - 1) and end with nodes_to p
pub nodes-suc : (i : ℕ) → nodes_to (suc i) ≡ nodes_to i + (lg (suc i) + 1)
unfolding nodes_to
nodes-suc i = refl

-- before the first position there is no label
pub nodes-zero : nodes_to 0 ≡ 0
unfolding nodes_to
nodes-zero = refl

-- a position's labels stand behind those of the positions before it
pub label_is : (i l : ℕ) → label (suc i) l ≡ suc (l + nodes_to i)
unfolding label
label_is i l = omega arith

nodes_far : (p q : ℕ) → nodes_to p + q ≤ nodes_to (p + q)
nodes_far p zero = simp add-zero (omega arith)
nodes_far p (suc q) = let h = nodes_far p q in let e = nodes-suc (p + q) in rw (add-suc p q) (omega arith)

-- a later position ends with a greater label
pub nodes-lt : (p w : ℕ) → p < w → nodes_to p < nodes_to w
nodes-lt p w a =
    let e : p + (w - p) ≡ w = omega arith in
    let g : nodes_to p + (w - p) ≤ nodes_to w = rw e at (nodes_far p (w - p)) in
    omega arith

nodes-le : (p w : ℕ) → p ≤ w → nodes_to p ≤ nodes_to w
nodes-le p w a = cases_eq p w (λ e. let q : nodes_to p ≡ nodes_to w = ap nodes_to e in omega arith) (λ ne. let h = nodes-lt p w (omega arith) in omega arith)

-- position 0 has label 0
pub label-zero : (l : ℕ) → label 0 l ≡ 0
unfolding label
label-zero l = refl

-- no other position has label 0
pub label-above-zero : (p l : ℕ) → 0 < p → 0 < label p l
label-above-zero p l z = let e = label-sum p l z in omega arith

-- the labels of a position end with nodes_to p
pub label-le : (p l : ℕ) → 0 < p → l ≤ lg p → label p l ≤ nodes_to p
label-le zero l z a = absurd (omega arith)
label-le (suc i) l z a = let e = label_is i l in let f = nodes-suc i in omega arith

-- and so lie below those of later positions
pub label-within : (p l w : ℕ) → l ≤ lg p → p ≤ w → label p l ≤ nodes_to w
label-within zero l w a b = let e = label-zero l in omega arith
label-within (suc i) l w a b = let x = label-le (suc i) l (omega arith) a in let y = nodes-le (suc i) w b in omega arith

-- the position of a label
pub position-le : (p l w : ℕ) → label p l ≤ nodes_to w → p ≤ w
position-le zero l w a = omega arith
position-le (suc i) l w a =
    cases_le (suc i) w (λ k. k) (λ k. let e = label_is i l in let y = nodes-le w i (omega arith) in absurd (omega arith))

-- a label past those of w positions is one of a later position
pub position_gt : (p l w : ℕ) → l ≤ lg p → nodes_to w < label p l → w < p
position_gt zero l w a b = let e = label-zero l in absurd (omega arith)
position_gt (suc i) l w a b =
    cases_le (suc i) w
    (λ k. let e = label_is i l in let f = nodes-suc i in let y = nodes-le (suc i) w k in absurd (omega arith))
    (λ k. k)

-- the last label up to nodes_to w is one of position w
pub position-is : (p l w : ℕ) → 0 < p → l ≤ lg p → label p l ≡ nodes_to w → p ≡ w
position-is p l w z a e =
    let x = position-le p l w (omega arith) in
    let y = label-le p l z a in
    cases_eq p w (λ q. q) (λ ne. let h = nodes-lt p w (omega arith) in absurd (omega arith))

-- a label is that of one place
pub one_place : (p l q m : ℕ) → l ≤ lg p → m ≤ lg q → (p ≡ 0 → l ≡ 0) → (q ≡ 0 → m ≡ 0) → label p l ≡ label q m → (p ≡ q) × (l ≡ m)
one_place p l q m a b zl zm e =
    let x = position-le p l q (let t = label-within q m q b (omega arith) in omega arith) in
    let y = position-le q m p (let t = label-within p l p a (omega arith) in omega arith) in
    let same : p ≡ q = omega arith in
    cases_eq p 0 (λ z. (same, zl z ∙ sym (zm (sym same ∙ z))))
    (λ n.
    let f = label-sum p l (positive p n) in
    let g = label-sum q m (omega (arith, positive p n)) in
    let h : nodes_to (p - 1) ≡ nodes_to (q - 1) = ap (λ i. nodes_to (i - 1)) same in
    (same, omega arith))
