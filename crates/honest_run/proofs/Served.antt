-- A request of a user at a server that is ready: its fields as they are read, and the answer where every check passes.
use mathlib.Core.Path.{◌≡◌, ap, sym, ◌∙◌}
use mathlib.Core.Bool.{Bool, true, cond}
use mathlib.Core.List.{List, []}
use Prim.Native.Nat.{ℕ, ◌+◌, ◌-◌, ◌≤◌, ◌<◌}
use native.Mathlib.Omega.{arith}
use lib.ListN.{length, length-append}
use borrow.Author.Tests.{eq-eqb, ne_eqb, le-leb, eqb-true}
use Rattle.sha256.proofs.Laws.{eqs_refl}
use Rattle.tree.specs.Label.{owner}
use Rattle.tree.specs.Message.{mark_of, begins, request, request_header, request_kind, request_log, request_author, request_position, request_level, request_body, answer}
use Rattle.tree.specs.Setup.{first_code, in_log}
use Rattle.user_list.specs.Users.{user_count, is_listed, signature_length, least_answer}
use Rattle.tree.proofs.Cases.{cases_eq, and-true}
use Rattle.tree.proofs.Messages.{request_header_length, request-begins, request-kind, request-log, request-author, request-position, request_level_lem, request-body}
use Rattle.server.specs.declared.Head.{Head}
use Rattle.store.specs.Shape.{node_fits, request_body_fits, kind_fits}
use Rattle.server.specs.Checks.{request_fits}
use Rattle.server.specs.Checks.{place_fits, head_fits, server_setup_checks, kind_checks, owns_node, record_found, pull_source}
use Rattle.server.specs.Serve.{head_after, store_after, used_after, body_given, header_given, answer_given, ServeOutcome, served}
use Rattle.server.proofs.Effects.{head-refused}
use Rattle.server.proofs.Served.{code, Ready, setup_ready, Early, early_ready, served-passed}
use Rattle.server.proofs.After.{records_of, ready_after}
use Rattle.user.specs.declared.ask.Want.{Want}
use Rattle.user.specs.Asking.{asks}
use Rattle.honest_run.specs.Network.{HonestSetup, InRange, public_to, settings_in, answer_bytes}
use Rattle.whole_run.specs.Runs.{Server, server_after}
use Rattle.whole_run.proofs.Answers.{all_given}

-- a server, from its fields
pub server-is : (x : Server) (h : Head) (store : List ℕ) (used : ℕ) → h ≡ x.head → store ≡ x.store → used ≡ x.used
    → ◌≡◌ {A = Server} (record { head = h; store = store; used = used }) x
server-is x h store used a b d = rw (a, b, d)

-- a place that 22 lets pass, as a head or an earlier one
place_in_log : (users : List ℕ) (p l author : ℕ) → place_fits users p l author ≡ true → (p ≡ 0 → l ≡ 0) × (0 < p → in_log p l ≡ true)
unfolding place_fits
place_in_log users p l author e = (
  λ z. eqb-true l 0 (rw (eq-eqb p 0 z) at e),
  λ z. (and-true (in_log p l) _ (rw (ne_eqb p 0 (λ q. omega arith)) at e)).0,
)

-- a head that 22 lets pass
pub head_in_log : (users : List ℕ) (h : Head) → head_fits users h ≡ true
    → (h.position ≡ 0 → h.level ≡ 0) × (0 < h.position → in_log h.position h.level ≡ true)
unfolding head_fits
head_in_log users h e = place_in_log users h.position h.level h.author (and-true (place_fits users h.position h.level h.author) _ e).0

-- The fields of a request, and its length.
pub record Asked (c : HonestSetup) (a kind p l : ℕ) (body q : List ℕ) : Type 0 where
  pub kind-is : request_kind q ≡ kind
  log_is : request_log q ≡ c.log
  pub author-is : request_author q ≡ a
  pub position-is : request_position q ≡ p
  pub level_is : request_level q ≡ l
  pub body_is : request_body q ≡ body
  mark-is : begins (mark_of 0x52) q ≡ true
  pub long : length q ≡ 26 + length body

-- what a user asks for is read as it was meant
pub asked_fields : (c : HonestSetup) → InRange c → (a : ℕ) (want : Want) (body : List ℕ) → want.kind < 256 → a < 65536 → want.position < 4294967296
    → want.level < 256 → Asked c a want.kind want.position want.level body (asks (settings_in c a) want body)
unfolding asks request
asked_fields c range a want body hk ha hp hl =
    let k = want.kind in
    let p = want.position in
    let l = want.level in
    let n = range.named in
    record {
      kind-is = request-kind k c.log a p l body hk n ha hp hl;
      log_is = request-log k c.log a p l body hk n ha hp hl;
      author-is = request-author k c.log a p l body hk n ha hp hl;
      position-is = request-position k c.log a p l body hk n ha hp hl;
      level_is = request_level_lem k c.log a p l body hk n ha hp hl;
      body_is = request-body k c.log a p l body hk n ha hp hl;
      mark-is = request-begins k c.log a p l body hk n ha hp hl;
      long = request_long k p l n;
    }
  where
    request_long : (k p l : ℕ) → length c.log ≡ 16 → length (request k c.log a p l body) ≡ 26 + length body
    request_long k p l n =
        length-append (request_header k c.log a p l) body ∙ omega (arith, request_header_length k c.log a p l n)

-- the first three checks pass for a node of a kind that its owner is asked for
pub early-asked : (c : HonestSetup) → user_count (public_to c c.count) ≡ c.count → (a kind p l s : ℕ) (body q : List ℕ) → Asked c a kind p l body q
    → 1 ≤ a → a ≤ c.count → node_fits kind p l ≡ true → request_body_fits (signature_length (public_to c c.count) a) kind (length body) ≡ true → ((kind ≡ 1 → ⊥) → owner c.servers p l ≡ s)
    → Early (settings_in c s) q
unfolding request_fits kind_fits is_listed owns_node
early-asked c counted a kind p l s body q f one last node size own =
    let z : length q - 26 ≡ length body = omega (arith, f.long) in
    let owned : owns_node c.servers s q ≡ true =
    cases_eq kind 1
    (λ e. rw (f.kind-is, eq-eqb kind 1 e))
    (λ n. rw (f.kind-is, ne_eqb kind 1 n, f.position-is, f.level_is) (eq-eqb _ _ (own n))) in
    record {
      fits = rw (
        le-leb 26 (length q) (omega (arith, f.long)),
        f.mark-is,
        f.kind-is,
        f.position-is,
        f.level_is,
        f.author-is,
        z,
        node,
        size,
        counted,
        le-leb 1 a one,
      ) (le-leb a c.count last);
      log = rw f.log_is (eqs_refl c.log);
      owned = owned;
    }

-- a request at a server that is ready
module _ (c : HonestSetup) (s : ℕ) (x : Server) (q : List ℕ) where
  -- what it leaves
  abbrev pub left : ServeOutcome
  left = served (settings_in c s) x.head x.store x.used q (c.answers s)

  -- the records that are stored
  abbrev pub held : List (List ℕ)
  held = records_of (settings_in c s) x.store x.used

  -- the code of the kind's own checks
  abbrev pub kind_code : ℕ
  kind_code =
      first_code (kind_checks c.log (public_to c c.count) x.head (record_found held q) (pull_source held q) (length x.store - x.used) q)

  module _ (ready : Ready (settings_in c s) x.head x.store x.used) where
    -- 22 and 21 pass
    setup-zero : first_code (server_setup_checks (settings_in c s) x.head x.store x.used (c.answers s)) ≡ 0
    setup-zero =
        setup_ready (settings_in c s) x.head x.store x.used (c.answers s) ready
        ∙ ap (λ (b : Bool). cond b 0 21) (le-leb least_answer (length (c.answers s)) (c.roomy s))

    module _ (early : Early (settings_in c s) q) where
      -- all other checks pass, or give the kind's code
      request-code : code (settings_in c s) x.head x.store x.used q (c.answers s) ≡ kind_code
      request-code = early_ready (settings_in c s) x.head (record_found held q) (pull_source held q) (length x.store - x.used) q early

      -- a refusal keeps the head,
      pub refused-head : (kind_code ≡ 0 → ⊥) → left.out.head ≡ x.head
      refused-head n =
          rw (served-passed (settings_in c s) x.head x.store x.used q (c.answers s) setup-zero, request-code)
          (sym (head-refused x.head q kind_code n))

      -- and is answered with its code alone
      pub refused_with : (a kind p l z : ℕ) (body : List ℕ) → Asked c a kind p l body q → kind_code ≡ z → (z ≡ 0 → ⊥)
          → answer_bytes left ≡ answer kind s p l z []
      unfolding answer_bytes answer_given header_given answer
      refused_with a kind p l z body f is n =
          all_given (settings_in c s) x.head x.store x.used q (c.answers s) setup-zero
          ∙ rw (request-code ∙ is, ne_eqb z 0 n, le-leb 25 (length q) (omega (arith, f.long)), f.kind-is, f.position-is, f.level_is)

    module _ (early : Early (settings_in c s) q) (zero-code : kind_code ≡ 0) where
      -- all other checks pass
      request-zero : code (settings_in c s) x.head x.store x.used q (c.answers s) ≡ 0
      request-zero = request-code early ∙ zero-code

      -- it is accepted,
      pub accepted : left.out.code ≡ 0
      accepted = rw (served-passed (settings_in c s) x.head x.store x.used q (c.answers s) setup-zero) request-zero

      -- with the effects of code 0,
      pub left-head : left.out.head ≡ head_after x.head q 0
      left-head = rw (served-passed (settings_in c s) x.head x.store x.used q (c.answers s) setup-zero, request-zero)

      -- the store
      pub left-store : left.store ≡ store_after (record_found held q) x.store x.used q 0
      left-store = rw (served-passed (settings_in c s) x.head x.store x.used q (c.answers s) setup-zero, request-zero)

      -- and its used length
      pub left-used : left.out.used ≡ used_after (record_found held q) x.used q 0
      left-used = rw (served-passed (settings_in c s) x.head x.store x.used q (c.answers s) setup-zero, request-zero)

      -- leaves the server ready,
      pub ready_left : Ready (settings_in c s) (server_after left).head (server_after left).store (server_after left).used
      unfolding server_after
      ready_left = ready_after (settings_in c s) x.head x.store x.used q (c.answers s) setup-zero

      -- and answered with its fields and the kind's body
      pub answered_with : (a kind p l : ℕ) (body : List ℕ) → Asked c a kind p l body q
          → answer_bytes left ≡ answer kind s p l 0 (body_given x.head (pull_source held q) q)
      unfolding answer_bytes answer_given header_given answer
      answered_with a kind p l body f =
          all_given (settings_in c s) x.head x.store x.used q (c.answers s) setup-zero
          ∙ rw (request-zero, le-leb 25 (length q) (omega (arith, f.long)), f.kind-is, f.position-is, f.level_is)
