-- A right answer to what a user asks for is well shaped, has code 0, and its body is read back.
use mathlib.Core.Path.{◌≡◌, refl, ap, ◌∙◌}
use mathlib.Core.Bool.{Bool, true, cond}
use mathlib.Core.List.{List, [], ◌++◌, append-nil}
use Prim.Native.Nat.{ℕ, ◌+◌, ◌-◌, ◌^◌, ◌≤◌, ◌<◌}
use native.Mathlib.Omega.{arith}
use lib.ListN.{length, length-append}
use lib.Pow.{pow_mono}
use lib.Seq.{take_at, drop_at}
use borrow.Author.Tests.{le-leb, eq-eqb}
use Rattle.sha256.specs.Bytes.{be, number_at}
use Rattle.sha256.proofs.Laws.{be-length, eqs_refl}
use Rattle.tree.specs.Level.{lg, is_full}
use Rattle.tree.specs.Expr.{entry_text}
use Rattle.tree.specs.Message.{answer_header, answer, answer_code, answer_body}
use Rattle.tree.specs.Setup.{Check, first_code}
use Rattle.user_list.specs.Users.{user_count, group_fits, signature_length}
use Rattle.tree.proofs.Cases.{and-true, by_eqb, cases_le, cases_eq}
use Rattle.user_list.proofs.Lists.{GroupInRange, group-fits}
use Rattle.tree.proofs.Labels.{owner_range}
use Rattle.tree.proofs.Levels.{lg_below, full_low}
use Rattle.tree.proofs.Messages.{answer_header_length, answer-code, answer-body}
use Rattle.user_list.proofs.Lists.{one-length}
use Rattle.user.specs.declared.ask.Want.{Want}
use Rattle.user.specs.declared.call.Kept.{Kept}
use Rattle.user.specs.Asking.{user_settings_fit, kept_fits, of_node, of_status, headed, answer_body_fits, is_server_code, is_answer, answer_checks}
use Rattle.honest_run.specs.Network.{HonestSetup, public_to, settings_in}
use Rattle.honest_run.proofs.Invariant.{Item, texts, digest_of, SignedOk, ItemOk, RightBody, CanAsk}
use Rattle.honest_run.proofs.Log.{hash_size, digest_size}

-- user a keeps k, where w entries are committed
pub record Fit (c : HonestSetup) (L : ℕ → Item) (w a : ℕ) (k : Kept) : Type 0 where
  pub settings-fit : user_settings_fit (settings_in c a) ≡ true
  pub kept-fit : kept_fits (settings_in c a) k ≡ true
  pub low : k.version ≤ w
  pub within : w ≤ 1048576
  pub digest_ok : 0 < k.version → k.digest ≡ digest_of L k.version
  pub items : (i : ℕ) → i < w → ItemOk c L i × SignedOk c L i
  pub counted : user_count (public_to c c.count) ≡ c.count

-- its settings are those of a group
pub group_of : (c : HonestSetup) (a : ℕ) → user_settings_fit (settings_in c a) ≡ true → GroupInRange c.servers (public_to c c.count)
unfolding user_settings_fit
group_of c a e = group-fits c.servers (public_to c c.count) (and-true (group_fits c.servers (public_to c c.count)) _ e).0

-- the answer with code 0 and this body
abbrev pub answer_to : Want → List ℕ → List ℕ
answer_to want body = answer want.kind want.server want.position want.level 0 body

-- an answer that is headed as its request asks, has code 0 and a body of the right size is taken
pub right_answer : (users : List ℕ) (want : Want) (body : List ℕ) → want.kind < 256 → want.server < 256 → want.position < 4294967296
    → want.level < 256 → answer_body_fits users want.kind body ≡ true
    → (is_answer users want (answer_to want body) ≡ true) × (answer_code (answer_to want body) ≡ 0)
unfolding is_answer is_server_code headed answer
right_answer users want body k s p l fits =
    let header : List ℕ = answer_header want.kind want.server want.position want.level 0 in
    let n : length header ≡ 10 = answer_header_length want.kind want.server want.position want.level 0 in
    let code : answer_code (header ++ body) ≡ 0 = answer-code want.kind want.server want.position want.level 0 body k s p l (omega arith) in
    (rw (code, take_at header body 10 n, eqs_refl header, drop_at header body 10 n, fits), code)

-- so is one with another of a server's codes, which has no body
pub coded-answer : (users : List ℕ) (want : Want) (code : ℕ) → want.kind < 256 → want.server < 256 → want.position < 4294967296
    → want.level < 256 → code < 256 → is_server_code code ≡ true → (code ≡ 0 → answer_body_fits users want.kind [] ≡ true)
    → (is_answer users want (answer want.kind want.server want.position want.level code []) ≡ true)
    × (answer_code (answer want.kind want.server want.position want.level code []) ≡ code)
unfolding is_answer headed answer
coded-answer users want code k s p l small servers none =
    let header : List ℕ = answer_header want.kind want.server want.position want.level code in
    let n : length header ≡ 10 = answer_header_length want.kind want.server want.position want.level code in
    let is : answer_code (header ++ []) ≡ code = answer-code want.kind want.server want.position want.level code [] k s p l small in
    let all : length (header ++ []) ≡ 10 = ap length (append-nil header) ∙ n in (
      rw (is, take_at header [] 10 n, eqs_refl header, servers, drop_at header [] 10 n, eq-eqb (length (header ++ [])) 10 all)
          (by_eqb (λ b. cond b (answer_body_fits users want.kind []) true ≡ true) code 0 none (λ _. refl)),
      is,
    )

-- 10 and 11 pass at an answer that is waited for, well shaped and has code 0, and what is checked after them decides
pub answer-passes : (users : List ℕ) (waits : Bool) (want : Want) (a : List ℕ) (cs : List Check) → waits ≡ true
    → is_answer users want a ≡ true → answer_code a ≡ 0 → first_code (answer_checks users waits want a ++ cs) ≡ first_code cs
unfolding answer_checks first_code
answer-passes users waits want a cs w s z = rw (w, s, z)

-- a node within the log may be asked for at its owner
pub node-asks : (c : HonestSetup) (w kind p l : ℕ) → 2 ≤ kind → kind ≤ 4 → 1 ≤ p → p ≤ w → (kind ≡ 2 → is_full p l ≡ true) → (kind ≡ 3 → l ≡ 0)
    → (kind ≡ 4 → l ≡ lg p) → CanAsk c w (of_node kind c.servers p l)
unfolding of_node
node-asks c w kind p l a b z h full leaf top =
    record {
      first_kind = omega arith;
      last-kind = b;
      status = λ e. absurd (omega arith);
      low = λ _. z;
      high = λ _. h;
      owned = λ _. refl;
      full = full;
      leaf = leaf;
      top = top;
    }

-- a Status of one of the servers may be asked for
pub status-asks : (c : HonestSetup) (w server : ℕ) → 1 ≤ server → server ≤ c.servers → CanAsk c w (of_status server)
unfolding of_status
status-asks c w server a b =
    record {
      first_kind = omega arith;
      last-kind = omega arith;
      status = λ _. (refl, refl, a, b);
      low = λ h. absurd (omega arith);
      high = λ h. absurd (omega arith);
      owned = λ h. absurd (omega arith);
      full = λ e. absurd (omega arith);
      leaf = λ e. absurd (omega arith);
      top = λ e. absurd (omega arith);
    }

-- a text is its author's two bytes and the entry
pub text-size : (L : ℕ → Item) (i : ℕ) → length (texts L i) ≡ 2 + length (L i).entry
unfolding entry_text
text-size L i = length-append (be 2 (L i).author) (L i).entry ∙ omega (arith, be-length 2 (L i).author)

module _ (c : HonestSetup) (L : ℕ → Item) (w g : ℕ) (two : 2 ≤ c.servers) (sixteen : c.servers ≤ 16) (within : w ≤ 1048576)
    (items : (i : ℕ) → i < w → ItemOk c L i × SignedOk c L i) (want : Want) (ask : CanAsk c w want) where
  -- the level fits its byte
  level_small : want.level ≤ 20
  level_small =
      cases_eq want.kind 1 (λ e. let x = (ask.status e).1 in omega arith)
      (λ n.
      let h : 2 ≤ want.kind = omega (arith, n, ask.first_kind) in
      let high = ask.high h in
      cases_eq want.kind 2
      (λ e.
      let f = full_low want.position want.level (ask.low h) (ask.full e) in
      cases_le want.level 20 (λ i. i) (λ i. let p : 2 ^ 21 ≤ 2 ^ want.level = pow_mono {j = want.level} i in absurd (omega arith)))
      (λ m.
      cases_eq want.kind 3 (λ e. let x = ask.leaf e in omega arith)
      (λ o. let x = ask.top (omega (arith, m, n, o, ask.first_kind, ask.last-kind)) in omega (arith, lg_below want.position 20 (omega arith)))))

  -- the server is one of 16
  server-small : want.server ≤ 16
  server-small =
      cases_eq want.kind 1 (λ e. let x = (ask.status e).3 in omega arith)
      (λ n.
      let x = ask.owned (omega (arith, n, ask.first_kind)) in
      let r = (owner_range c.servers want.position want.level (omega arith)).1 in
      omega arith)

  -- the position is within the log
  position-small : want.position ≤ 1048576
  position-small =
      cases_eq want.kind 1 (λ e. let x = (ask.status e).0 in omega arith)
      (λ n. let x = ask.high (omega (arith, n, ask.first_kind)) in omega arith)

  module _ (body : List ℕ) (right : RightBody c L w g want body) where
    -- a head has 5 bytes
    status-size : want.kind ≡ 1 → length body ≡ 5
    unfolding RightBody
    status-size e =
        let t = right.0 e in
        ap length t.told ∙ length-append (be 4 t.position) (be 1 t.level) ∙ omega (arith, be-length 4 t.position, be-length 1 t.level)

    -- a hash has 32
    node_size : want.kind ≡ 2 → length body ≡ 32
    unfolding RightBody
    node_size e = ap length (right.1 e) ∙ hash_size L want.position want.level

    -- an author and an entry have 3 to 1,026
    operation_size : want.kind ≡ 3 → (3 ≤ length body) × (length body ≤ 1026)
    unfolding RightBody
    operation_size e =
        let h : 2 ≤ want.kind = omega arith in
        let low = ask.low h in
        let high = ask.high h in
        let i = (items (want.position - 1) (omega arith)).0 in
        let l : length body ≡ 2 + length (L (want.position - 1)).entry = ap length (right.2 e) ∙ text-size L (want.position - 1) in
        let some = i.some in
        let short = i.short in
        (omega arith, omega arith)

    -- author, digest and signature
    record_size_lem : want.kind ≡ 4 → length body ≡ 34 + signature_length (public_to c c.count) (number_at 2 body 0)
    unfolding RightBody
    record_size_lem e =
        let h : 2 ≤ want.kind = omega arith in
        let low = ask.low h in
        let high = ask.high h in
        let i = want.position - 1 in
        let s = (items i (omega arith)).1.size ∙ one-length (public_to c c.count) (L i).author in
        let d = digest_size L want.position in
        let all = one-length (public_to c c.count) (number_at 2 body 0) in
        ap length (right.3 e) ∙ simp length-append (omega (arith, be-length 2 (L i).author))

    -- the body has the size of its kind
    body-fits : answer_body_fits (public_to c c.count) want.kind body ≡ true
    unfolding answer_body_fits
    body-fits =
        cases_eq want.kind 1 (λ e. rw e (eq-eqb _ _ (status-size e)))
        (λ n.
        cases_eq want.kind 2 (λ e. rw e (eq-eqb _ _ (node_size e)))
        (λ m.
        cases_eq want.kind 3 (λ e. let x = operation_size e in rw (e, le-leb _ _ x.0, le-leb _ _ x.1))
        (λ o. let e : want.kind ≡ 4 = omega (arith, m, n, o, ask.first_kind, ask.last-kind) in rw e (eq-eqb _ _ (record_size_lem e)))))

    -- 10 and 11 pass
    passes : (is_answer (public_to c c.count) want (answer_to want body) ≡ true) × (answer_code (answer_to want body) ≡ 0)
    passes =
        let k = ask.last-kind in
        let l = level_small in
        let s = server-small in
        let p = position-small in
        right_answer (public_to c c.count) want body (omega arith) (omega arith) (omega arith) (omega arith) body-fits

    -- the answer is well shaped
    pub right-shape : is_answer (public_to c c.count) want (answer_to want body) ≡ true
    right-shape = passes.0

    -- the code is 0
    pub right-code : answer_code (answer_to want body) ≡ 0
    right-code = passes.1

    -- the body is what the answer was made from
    pub right-body : answer_body (answer_to want body) ≡ body
    right-body =
        let k = ask.last-kind in
        let l = level_small in
        let s = server-small in
        let p = position-small in
        answer-body want.kind want.server want.position want.level 0 body (omega arith) (omega arith) (omega arith) (omega arith) (omega arith)
