-- A server of an honest run that is told of a give-up: it accepts it and its head comes back, or it answers 27; and then it is as if no
-- request of the write had arrived. A server that was sent no Reserve is so already.
use mathlib.Core.Path.{◌≡◌, refl, ap, sym, ◌∙◌, subst}
use mathlib.Core.Logic.{◌⊎◌, inl, inr}
use mathlib.Core.Bool.{Bool, true, false, cond, and-false}
use mathlib.Core.List.{List, []}
use Prim.Native.Nat.{ℕ, suc, ◌-◌, ◌≤◌, ◌<◌}
use native.Mathlib.Omega.{arith}
use lib.ListN.{length}
use borrow.Author.Tests.{eq-eqb, ne_eqb}
use Rattle.sha256.specs.Bytes.{eqs}
use Rattle.sha256.proofs.Laws.{eqs_refl}
use Rattle.tree.specs.Level.{lg}
use Rattle.tree.specs.Label.{label, owner}
use Rattle.tree.specs.Message.{answer}
use Rattle.tree.proofs.Cases.{cases_eq}
use Rattle.store.specs.Shape.{level_fits, node_fits, request_body_fits}
use Rattle.server.specs.Checks.{is_heads, is_givable, record_found, pull_source}
use Rattle.server.specs.Serve.{brought_back, body_given}
use Rattle.server.proofs.Codes.{code_give_up}
use Rattle.server.proofs.Effects.{head-given_up}
use Rattle.server.proofs.Served.{Ready, Early}
use Rattle.server.proofs.Theorems.{store_changes_only_by_puts}
use Rattle.user_give_up.specs.GiveUp.{sent_to}
use Rattle.user_give_up.proofs.Servers.{unsent}
use Rattle.honest_run.specs.Network.{HonestSetup, InRange, public_to, settings_in, answer_bytes}
use Rattle.whole_run.specs.Runs.{Server, server_after}
use Rattle.honest_run.proofs.Invariant.{Item, digest_of, record_of, owner_of, ServerOk, ItemOk}
use Rattle.honest_run.proofs.Heads.{owner-label, label_is, position-le}
use Rattle.honest_run.proofs.Served.{server-is, Asked, left, held, kind_code, refused-head, refused_with, answered_with, left-head, ready_left}
use Rattle.honest_run.proofs.Records.{node_in_log}
use Rattle.honest_run.proofs.Counts.{has-reserves, reached-zero, reached_low}
use Rattle.honest_run.proofs.Servers.{head_below}
use Rattle.honest_run.proofs.Reserves.{digest_request, digest_fields, digest-early}

module _ (c : HonestSetup) (range : InRange c) (L : ℕ → Item) (w g s : ℕ) (x : Server) (ok : ServerOk c L w g s x) (few : g ≤ suc (lg (suc w))) where
  -- a head that is not at the open write's position is as if no request had arrived
  server_back : (x.head.position ≡ suc w → ⊥) → ServerOk c L w 0 s x
  server_back n =
      record {
        ready = ok.ready;
        head = rw (reached-zero w) (head_below c L w g s x ok n);
        holds = ok.holds;
        earlier = ok.earlier;
        stored = λ kind p l k v o. ok.stored kind p l k v o ∙ ap (λ (b : Bool). cond b (record_of L kind p l) []) (has-reserves w g kind p l few);
      }

  -- so is that of a server that was sent no Reserve
  pub server_unsent : (levels : ℕ) → g ≤ levels → sent_to c.servers (suc w) s levels ≡ 0 → ServerOk c L w 0 s x
  server_unsent levels low none =
      server_back (λ there.
      let z : 0 < c.servers = omega (arith, range.two) in
      let same : label x.head.position x.head.level ≡ label (suc w) x.head.level = ap (λ (p : ℕ). label p x.head.level) there in
      let first = label_is w x.head.level in
      let most = reached_low w g (omega arith) in
      let own : owner c.servers (suc w) x.head.level ≡ s =
      owner-label c.servers (suc w) x.head.level z ∙ ap (λ t. owner_of c.servers t) (sym same) ∙ ok.head.mine (omega arith) in
      unsent c.servers (suc w) s levels none x.head.level (omega (arith, ok.head.low)) own)

  -- the give-up with level l
  module _ (within : w < 1048576) (item : ItemOk c L w) (l : ℕ) (level : l ≤ lg (suc w)) (own : owner c.servers (suc w) l ≡ s) where
    abbrev pub give_up : List ℕ
    give_up = digest_request c range L w s within item 9 l level own

    fields : Asked c (L w).author 9 (suc w) l (digest_of L (suc w)) give_up
    fields = digest_fields c range L w s within item 9 l level own (omega arith)

    early : Early (settings_in c s) give_up
    unfolding node_fits level_fits request_body_fits
    early = digest-early c range L w s within item 9 l level own (omega arith) (rw (node_in_log (suc w) l (omega arith) (omega arith) level)) refl

    -- 27 decides
    code_is : kind_code c s x give_up ≡ cond (is_givable x.head give_up) 0 27
    code_is =
        sym (code_give_up c.log (public_to c c.count) x.head (record_found (held c s x give_up) give_up) (pull_source (held c s x give_up) give_up)
        (length x.store - x.used) give_up 9 (sym fields.kind-is) _ refl refl)

    -- nothing is stored
    same_store : ((left c s x give_up).store ≡ x.store) × ((left c s x give_up).out.used ≡ x.used)
    same_store =
        store_changes_only_by_puts (settings_in c s) x.head x.store x.used give_up (c.answers s) (λ k. omega (arith, fields.kind-is))

    -- what it makes of the give-up
    pub record GivesUp : Type 0 where
      pub code : ℕ
      pub told : (code ≡ 0) ⊎ (code ≡ 27)
      pub given : answer_bytes (left c s x give_up) ≡ answer 9 s (suc w) l code []
      pub back : ServerOk c L w 0 s (server_after (left c s x give_up))
      pub store : (server_after (left c s x give_up)).store ≡ x.store
      pub used : (server_after (left c s x give_up)).used ≡ x.used

    -- its head is the open write's: the earlier one comes back
    module _ (there : x.head.position ≡ suc w) where
      givable : is_givable x.head give_up ≡ true
      unfolding is_givable is_heads
      givable =
          let k = ok.holds w there in
          let d : eqs (digest_of L (suc w)) x.head.digest ≡ true = ap (eqs (digest_of L (suc w))) k.1 ∙ eqs_refl (digest_of L (suc w)) in
          rw (
            (ok.earlier there).known,
            fields.position-is,
            fields.author-is,
            fields.body_is,
            eq-eqb (suc w) x.head.position (sym there),
            eq-eqb (L w).author x.head.author (sym k.0),
          ) d

      zero-code : kind_code c s x give_up ≡ 0
      zero-code = code_is ∙ ap (λ (b : Bool). cond b 0 27) givable

      abbrev back_now : Server
      back_now = record { head = brought_back x.head.earlier; store = x.store; used = x.used }

      comes_back : server_after (left c s x give_up) ≡ back_now
      unfolding server_after
      comes_back =
          server-is back_now _ _ _
          (left-head c s x give_up ok.ready early zero-code
          ∙ sym (head-given_up x.head give_up 0 9 (brought_back x.head.earlier) (sym fields.kind-is) refl refl refl))
          same_store.0 same_store.1

      back_ok : ServerOk c L w 0 s back_now
      unfolding brought_back
      back_ok =
          let e = ok.earlier there in
          record {
            ready =
                subst (λ (y : Server). Ready (settings_in c s) y.head y.store y.used) comes_back
                (ready_left c s x give_up ok.ready early zero-code);
            head = rw (reached-zero w) e.head;
            holds = e.holds;
            earlier = λ q. let low = position-le x.head.earlier.position x.head.earlier.level w e.head.low in absurd (omega arith);
            stored = λ kind p l k v o. ok.stored kind p l k v o ∙ ap (λ (b : Bool). cond b (record_of L kind p l) []) (has-reserves w g kind p l few);
          }

      accepts : GivesUp
      unfolding body_given server_after
      accepts =
          record {
            code = 0;
            told = inl refl;
            given = answered_with c s x give_up ok.ready early zero-code (L w).author 9 (suc w) l (digest_of L (suc w)) fields ∙ rw fields.kind-is;
            back = subst (ServerOk c L w 0 s) (sym comes_back) back_ok;
            store = same_store.0;
            used = same_store.1;
          }

    -- it is not: its Reserve never came, or it has taken the give-up before
    module _ (elsewhere : x.head.position ≡ suc w → ⊥) where
      not_givable : is_givable x.head give_up ≡ false
      unfolding is_givable is_heads
      not_givable = rw (fields.position-is, ne_eqb (suc w) x.head.position (λ e. elsewhere (sym e))) (and-false x.head.earlier.known)

      refused-code : kind_code c s x give_up ≡ 27
      refused-code = code_is ∙ ap (λ (b : Bool). cond b 0 27) not_givable

      stays : server_after (left c s x give_up) ≡ x
      unfolding server_after
      stays = server-is x _ _ _ (refused-head c s x give_up ok.ready early (λ z. omega (arith, refused-code))) same_store.0 same_store.1

      refuses : GivesUp
      unfolding server_after
      refuses =
          record {
            code = 27;
            told = inr refl;
            given =
                refused_with c s x give_up ok.ready early (L w).author 9 (suc w) l 27 (digest_of L (suc w)) fields refused-code (λ z. omega arith);
            back = subst (ServerOk c L w 0 s) (sym stays) (server_back elsewhere);
            store = same_store.0;
            used = same_store.1;
          }

    pub gives_up : GivesUp
    gives_up = cases_eq x.head.position (suc w) accepts refuses
