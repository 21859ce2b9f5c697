-- RFC 8554, section 4 and appendix A: one-time keys and signatures.
use Rattle.std.specs.Prelude.{List, ◌++◌, ℕ, zero, suc, ◌+◌, ◌-◌, ◌*◌, ◌/◌, ◌%◌, ◌^◌, get_or, take, drop}
use Rattle.sha256.specs.Hash.{sha256}
use Rattle.lms.specs.Types.{u8str, u16str, u32str, cat, prefix, D_PBLC, D_MESG}
use Rattle.lms.specs.declared.Ots.{Ots}

-- Section 3.1.3: coef(S, i, w) = (2^w - 1) AND ( byte(S, floor(i * w / 8)) >> (8 - (w * (i % (8 / w)) + w)) )
unfoldable pub coef : List ℕ → ℕ → ℕ → ℕ
coef S i w = get_or S (i * w / 8) 0 / 2 ^ (8 - (w * (i % (8 / w)) + w)) % 2 ^ w

-- Section 4.4, Algorithm 2: sum after i turns, sum = sum + (2^w - 1) - coef(S, i, w).
unfoldable pub sum_to : ℕ → List ℕ → ℕ → ℕ
sum_to w S zero = 0
sum_to w S (suc i) = sum_to w S i + (2 ^ w - 1 - coef S i w)

-- Section 4.4, Algorithm 2: Cksm(S) = sum << ls over the n * 8 / w values of S, in two bytes.
unfoldable pub Cksm : Ots → List ℕ → List ℕ
Cksm o S = u16str (sum_to o.w S (32 * 8 / o.w) * 2 ^ o.ls)

-- Algorithms 3 and 4b: a = coef(Q || Cksm(Q), i, w)
unfoldable pub digit : Ots → List ℕ → ℕ → ℕ
digit o Q i = coef (Q ++ Cksm o Q) i o.w

-- Algorithms 1, 3 and 4b: k turns from j = a on of tmp = H(I || u32str(q) || u16str(i) || u8str(j) || tmp),
-- where m is the string before u8str(j).
unfoldable pub chain : List ℕ → ℕ → ℕ → List ℕ → List ℕ
chain m a zero tmp = tmp
chain m a (suc k) tmp = sha256 (m ++ u8str (a + k) ++ chain m a k tmp)

-- Appendix A: x_q[i] = H(I || u32str(q) || u16str(i) || u8str(0xff) || SEED)
unfoldable pub secret : List ℕ → List ℕ → ℕ → ℕ → List ℕ
secret I SEED q i = sha256 (prefix I q i ++ u8str 0xff ++ SEED)

-- Algorithms 1 and 4b, last step: H(I || u32str(q) || u16str(D_PBLC) || y[0] || .. || y[p-1])
unfoldable pub ends_hash : Ots → List ℕ → ℕ → (ℕ → List ℕ) → List ℕ
ends_hash o I q y = sha256 (prefix I q D_PBLC ++ cat y o.p)

-- Section 4.3, Algorithm 1: y[i] of key q, the chain run from its secret string to its end.
unfoldable pub chain_end : Ots → List ℕ → List ℕ → ℕ → ℕ → List ℕ
chain_end o I SEED q i = chain (prefix I q i) 0 (2 ^ o.w - 1) (secret I SEED q i)

-- Section 4.3, Algorithm 1: K of key q.
unfoldable pub K : Ots → List ℕ → List ℕ → ℕ → List ℕ
K o I SEED q = ends_hash o I q (chain_end o I SEED q)

-- Algorithms 3 and 4b: Q = H(I || u32str(q) || u16str(D_MESG) || C || message)
unfoldable pub text_hash : List ℕ → ℕ → List ℕ → List ℕ → List ℕ
text_hash I q C message = sha256 (prefix I q D_MESG ++ C ++ message)

-- Section 4.5, Algorithm 3: y[i] of a signature, the chain run for a turns.
unfoldable pub opened : Ots → List ℕ → List ℕ → ℕ → List ℕ → ℕ → List ℕ
opened o I SEED q Q i = chain (prefix I q i) 0 (digit o Q i) (secret I SEED q i)

-- Section 4.5, Algorithm 3: u32str(type) || C || y[0] || .. || y[p-1]
unfoldable pub ots_signature : Ots → List ℕ → List ℕ → ℕ → List ℕ → List ℕ → List ℕ
ots_signature o I SEED q C message = u32str o.otstype ++ C ++ cat (opened o I SEED q (text_hash I q C message)) o.p

-- Section 4.6, Algorithm 4b: z[i], the chain run on from y[i] to its end; y holds y[0] || .. || y[p-1].
unfoldable pub closed : Ots → List ℕ → ℕ → List ℕ → List ℕ → ℕ → List ℕ
closed o I q Q y i = chain (prefix I q i) (digit o Q i) (2 ^ o.w - 1 - digit o Q i) (take 32 (drop (32 * i) y))

-- Section 4.6, Algorithm 4b, step 3: the candidate Kc from C, y and the message.
unfoldable pub Kc : Ots → List ℕ → ℕ → List ℕ → List ℕ → List ℕ → List ℕ
Kc o I q C y message = ends_hash o I q (closed o I q (text_hash I q C message) y)
