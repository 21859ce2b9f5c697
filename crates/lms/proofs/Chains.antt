-- A signature's chains, run on by the check, end where the key's chains end.
use mathlib.Core.Path.{◌≡◌, refl, ◌∙◌}
use mathlib.Core.List.{List, ◌++◌}
use Prim.Native.Nat.{ℕ, zero, suc, ◌+◌, ◌-◌, ◌*◌, ◌^◌, ◌≤◌, ◌<◌}
use native.Mathlib.Nat.{add-zero, zero-add, add-suc, mod-lt}
use native.Mathlib.Numerals.{add-one}
use native.Mathlib.Omega.{arith}
use lib.Pow.{pow_pos, le_ones}
use lib.ListN.{length, take, drop}
use Rattle.sha256.specs.Hash.{sha256}
use Rattle.lms.specs.Types.{u8str, cat, prefix}
use Rattle.lms.specs.declared.Ots.{Ots}
use Rattle.lms.specs.Ots.{coef, digit, chain, secret, ends_hash, chain_end, K, opened, closed, text_hash, Kc}
use Rattle.sha256.proofs.Hashes.{sha256-length}
use Rattle.lms.proofs.Parts.{cat_equal, cat_part}

pub chain_more : (m x : List ℕ) (a k : ℕ) → chain m a (k + 1) x ≡ sha256 (m ++ u8str (a + k) ++ chain m a k x)
unfolding chain
chain_more m x a k = rw add-one

-- a chain goes on where it stopped
pub chain-on : (m x : List ℕ) (a k : ℕ) → chain m a k (chain m 0 a x) ≡ chain m 0 (a + k) x
unfolding chain
chain-on m x a zero = rw add-zero
chain-on m x a (suc k) = rw (add-suc, chain-on m x a k, zero-add)

pub chain_length : (m x : List ℕ) (a k : ℕ) → length x ≡ 32 → length (chain m a k x) ≡ 32
unfolding chain
chain_length m x a zero l = l
chain_length m x a (suc k) l = sha256-length _

pub secret-length : (I SEED : List ℕ) (q i : ℕ) → length (secret I SEED q i) ≡ 32
unfolding secret
secret-length I SEED q i = sha256-length _

pub digit-fits : (o : Ots) (Q : List ℕ) (i : ℕ) → digit o Q i ≤ 2 ^ o.w - 1
unfolding digit coef
digit-fits o Q i = le_ones o.w (mod-lt _ (pow_pos o.w))

pub opened-length : (o : Ots) (I SEED : List ℕ) (q : ℕ) (Q : List ℕ) (i : ℕ) → length (opened o I SEED q Q i) ≡ 32
unfolding opened
opened-length o I SEED q Q i = chain_length _ _ 0 (digit o Q i) (secret-length I SEED q i)

opened-is : (o : Ots) (I SEED : List ℕ) (q : ℕ) (Q : List ℕ) (i : ℕ)
    → opened o I SEED q Q i ≡ chain (prefix I q i) 0 (digit o Q i) (secret I SEED q i)
unfolding opened
opened-is o I SEED q Q i = refl

-- the chain that Algorithm 3 opens at i, Algorithm 4b runs to its end
closed-end : (o : Ots) (I SEED : List ℕ) (q : ℕ) (Q rest : List ℕ) (i : ℕ) → i < o.p
    → closed o I q Q (cat (opened o I SEED q Q) o.p ++ rest) i ≡ chain_end o I SEED q i
unfolding closed chain_end
closed-end o I SEED q Q rest i g =
    let s : take 32 (drop (32 * i) (cat (opened o I SEED q Q) o.p ++ rest)) ≡ chain (prefix I q i) 0 (digit o Q i) (secret I SEED q i) =
    cat_part (opened o I SEED q Q) o.p (λ j _. opened-length o I SEED q Q j) o.p i rest (omega arith) g ∙ opened-is o I SEED q Q i in
    let c : digit o Q i + (2 ^ o.w - 1 - digit o Q i) ≡ 2 ^ o.w - 1 = omega (arith, digit-fits o Q i) in
    rw (s, chain-on (prefix I q i) (secret I SEED q i) (digit o Q i) (2 ^ o.w - 1 - digit o Q i), c)

-- so the check of a one-time signature finds the key, whatever follows the strings y
pub opened-closes : (o : Ots) (I SEED : List ℕ) (q : ℕ) (C message rest : List ℕ)
    → Kc o I q C (cat (opened o I SEED q (text_hash I q C message)) o.p ++ rest) message ≡ K o I SEED q
unfolding Kc K ends_hash
opened-closes o I SEED q C message rest =
    rw (cat_equal _ _ o.p (closed-end o I SEED q (text_hash I q C message) rest))
