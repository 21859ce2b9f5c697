-- What a step with code 0 leaves: it fits the bytes that it is laid in, a request is out exactly if the call goes on, and a call that has
-- ended takes no answer.
use mathlib.Core.Path.{◌≡◌, refl, sym, ◌∙◌, ap₂}
use mathlib.Core.Bool.{true, false, cond, ◌&&◌}
use mathlib.Core.List.{List}
use Prim.Native.Nat.{ℕ, ◌+◌, ◌≤◌, ◌<◌, min}
use native.Mathlib.Omega.{arith}
use lib.Dec.{eqb, leb, ltb}
use lib.ListN.{length, length-replicate}
use borrow.Author.Tests.{ne_eqb, eqb-true, eqb-false, leb-true, lt-ltb, le-ltb}
use Rattle.tree.specs.Bytes.{written}
use Rattle.tree.specs.Label.{owner}
use Rattle.tree.specs.Message.{answer_body}
use Rattle.tree.specs.Setup.{Settings, first_code}
use Rattle.tree.proofs.Cases.{and-true, by_bool, cases_le, not_both}
use Rattle.tree.proofs.CheckLists.{check-passes}
use Rattle.tree.proofs.Labels.{owner_range}
use Rattle.tree.proofs.Pieces.{piece-length}
use Rattle.user_list.proofs.Lists.{one-count}
use Rattle.user.specs.declared.ask.Want.{Want}
use Rattle.user.specs.declared.call.Kept.{Kept}
use Rattle.user.specs.Asking.{user_setup_checks, request_room, of_node, of_status, refused, done, asking}
use Rattle.user.specs.Outcome.{State, with_kept, Lent, with_hashes, with_held, Outcome}
use Rattle.user.proofs.Passed.{setup-passed, by_cond}
use Rattle.user_update.specs.declared.call.Update.{Update}
use Rattle.user_update.specs.Update.{fresh_update, told_label, head_holds, status_taken, update_want, update_next, update_hashes, update_checks, arrived, update_setup, update_started, update_taken}
use Rattle.user_update.proofs.UpdateRules.{Above, Taken, by_taken, by_goes, fresh_waits, status_small}
use Rattle.user_update.proofs.UpdateAnswers.{stays-above, taken-over}
use Rattle.user_update.proofs.Updates.{told_short}
use Rattle.user_write.specs.declared.call.Write.{Write}
use Rattle.user_write.specs.Write.{path_digest, signs_next, write_want, write_asks, write_waits, write_room, write_start_checks, fresh_write}
use Rattle.user_write.specs.Write.{write_started, opening, signing, committed, goes_on, write_updates, write_goes, write_taken}
use Rattle.user_write.proofs.WriteRules.{by_going, by_opening}
use Rattle.user_write.proofs.WriteAnswers.{by_updating, write-opens, committed-over}
use Rattle.user_read.specs.declared.call.Read.{Read}
use Rattle.user_read.specs.Read.{read_want, read_checks, read_count, read_at, read_asks, read_ends, read_next, read_collected, read_started, read_taken}
use Rattle.user_read.proofs.ReadRules as Reads
use Rattle.user_read.proofs.ReadAnswers.{read-state, read-place, read-ends}
use Rattle.user_give_up.specs.declared.call.GiveUp.{GiveUp}
use Rattle.user_give_up.specs.GiveUp.{next_told, give_up_want, beginning, told, closed, give_up_goes, give_up_started, give_up_taken}
use Rattle.user_give_up.proofs.GiveUpRules as Gives
use Rattle.user_give_up.proofs.GiveUpAnswers.{no_give_up_lem}
use Rattle.user_calls.specs.Calls.{Call, idle, updating, writing, reading, giving_up, answer, as_call, taken}
use Rattle.whole_run.proofs.Requests.{entry-sizes}

-- the ranges
pub record KeptFits (k : Kept) : Type 0 where
  pub digest : length k.digest ≡ 32
  pub version : k.version < 4294967296
  pub number : k.number < 4294967296

pub record UpdateFits (u : Update) : Type 0 where
  pub digest : length u.digest ≡ 32
  pub greatest : u.greatest < 33554432
  pub least : u.least < 33554432
  pub position : u.position ≤ 1048576

pub record WriteFits (w : Write) : Type 0 where
  pub update : UpdateFits w.update
  pub random : length w.randomizer ≡ 32
  pub short : w.length ≤ 1024

pub record ReadFits (r : Read) : Type 0 where
  pub position : r.position ≤ 1048576
  pub short : r.length ≤ 1026

abbrev pub CallFits : Call → Type 0
CallFits idle = ⊥
CallFits (updating u) = UpdateFits u
CallFits (writing w) = WriteFits w
CallFits (reading r) = ReadFits r
CallFits (giving_up g) = Unit {0}

-- once all heads are told, an Update is for no position below the version
abbrev pub CallAbove : Settings → State → Call → Type 0
CallAbove s σ idle = Unit {0}
CallAbove s σ (updating u) = Above s.servers σ.kept.version u
CallAbove s σ (writing w) = Unit {0}
CallAbove s σ (reading r) = Unit {0}
CallAbove s σ (giving_up g) = Unit {0}

pub record Fits (m : Lent) (o : Outcome Call) : Type 0 where
  pub kept : KeptFits o.state.kept
  pub call : CallFits o.call
  pub out : eqb o.step.server 0 ≡ o.step.ended
  pub key : o.lent.key ≡ m.key

pub record StepOk (s : Settings) (m : Lent) (o : Outcome Call) : Type 0 where
  pub fits : Fits m o
  pub above : o.step.ended ≡ false → CallAbove s o.state o.call
  pub over : o.step.ended ≡ true → (l : Lent) (a : List ℕ) → (taken s o.state l o.call a).step.code ≡ 0 → ⊥

module _ (s : Settings) where
  abbrev n : ℕ
  n = s.servers

  -- every request goes to a server
  node-served : (p l : ℕ) → 0 < n → eqb (owner n p l) 0 ≡ false
  node-served p l h = let r = owner_range n p l h in ne_eqb (owner n p l) 0 (λ e. omega arith)

  update-served : (v : ℕ) (c : Update) → 0 < n → eqb (update_want n v c).server 0 ≡ false
  unfolding update_want of_status of_node
  update-served v c h =
      by_cond (λ (w : Want). eqb w.server 0 ≡ false) (ltb c.answers n) _ _ (λ _. ne_eqb (c.answers + 1) 0 (λ e. omega arith))
      (λ _. by_cond (λ (w : Want). eqb w.server 0 ≡ false) (eqb c.answers n) _ _ (λ _. node-served _ _ h) (λ _. node-served _ _ h))

  read-served : (v : ℕ) (r : Read) → 0 < n → eqb (read_want n v r).server 0 ≡ false
  unfolding read_want of_node
  read-served v r h =
      by_cond (λ (w : Want). eqb w.server 0 ≡ false) (eqb r.answers 0) _ _ (λ _. node-served _ _ h) (λ _. node-served _ _ h)

  -- an Update
  fresh-fits : UpdateFits fresh_update
  unfolding fresh_update
  fresh-fits = record { digest = length-replicate {A = ℕ} 32 0; greatest = omega arith; least = omega arith; position = omega arith }

  module _ (σ : State) (m : Lent) (c : Update) (a : List ℕ) where
    abbrev next : Update
    next = update_next n c (answer_body a)

    abbrev collected : Lent
    collected = with_hashes m (update_hashes n c (answer_body a) m.hashes)

    told-small : Taken s σ m c a → c.answers < n → told_label (answer_body a) < 33554432
    unfolding update_checks
    told-small t h =
        let e = rw (lt-ltb c.answers n h) at t.checks in
        told_short n (c.answers + 1) (answer_body a)
        (check-passes 10 (head_holds n (c.answers + 1) (answer_body a)) _ (λ z. omega arith) e).0

    status_fits : Taken s σ m c a → UpdateFits c → c.answers < n → UpdateFits next
    unfolding update_next status_taken
    status_fits t f h =
        let told : ℕ = told_label (answer_body a) in
        let small = told-small t h in
        let g = f.greatest in
        let l = f.least in
        let p = status_small s σ m c a t f.position h in
        rw (lt-ltb c.answers n h)
        (record {
          digest = f.digest;
          greatest = omega arith;
          least = by_cond (λ x. x < 33554432) (eqb c.answers 0) told (min c.least told) (λ _. small) (λ _. omega arith);
          position = rw (lt-ltb c.answers n h) at p;
        })

    later-fits : UpdateFits c → n ≤ c.answers → UpdateFits next
    unfolding update_next
    later-fits f h =
        rw (le-ltb c.answers n h)
        (record {
          digest = by_cond (λ (x : List ℕ). length x ≡ 32) (eqb c.answers n) _ _ (λ _. piece-length _ 0) (λ _. f.digest);
          greatest = f.greatest;
          least = f.least;
          position = f.position;
        })

    next_fits : Taken s σ m c a → UpdateFits c → UpdateFits next
    next_fits t f = cases_le n c.answers (λ h. later-fits f h) (λ h. status_fits t f (omega arith))

    arrived-fits : KeptFits σ.kept → UpdateFits next → KeptFits (arrived σ.kept next)
    unfolding arrived
    arrived-fits k f =
        let p = f.position in
        by_cond (λ (x : Kept). KeptFits x) (eqb next.position 0) _ _ (λ _. k)
        (λ _. record { digest = f.digest; version = omega arith; number = k.number })

    update-fits : KeptFits σ.kept → UpdateFits c → (update_taken s σ m c a).step.code ≡ 0 → Fits m (as_call updating (update_taken s σ m c a))
    unfolding refused done asking
    update-fits k f =
        by_taken s σ m c a (λ o. o.step.code ≡ 0 → Fits m (as_call updating o)) (λ x z. absurd (x z))
        (λ t.
        let two = t.range.two in
        let g = next_fits t f in
        by_goes s σ collected next (λ o. o.step.code ≡ 0 → Fits m (as_call updating o))
        (λ _ _. record { kept = arrived-fits k g; call = g; out = refl; key = refl })
        (λ _ _. record { kept = k; call = g; out = update-served σ.kept.version next (omega arith); key = refl }))

  -- a Write whose Update goes on, and one that is open
  module _ (σ : State) (m : Lent) (w : Write) (a : List ℕ) (k : KeptFits σ.kept) (f : WriteFits w) where
    abbrev Goes : Outcome Write → Type 0
    Goes o = o.step.code ≡ 0 → Fits m (as_call writing o)

    updates_fit : Goes (write_updates s σ m w a)
    unfolding refused asking write_asks write_waits write_want of_node opening
    updates_fit =
        let u = w.update in
        by_updating s σ m w a Goes (λ code x z. absurd (x z))
        (λ t e.
        let two = t.range.two in
        let g = next_fits σ m u a t f.update in
        let r = arrived-fits σ m u a k g in
        by_opening s σ m w _ a Goes (λ x z. absurd (x z))
        (λ h _. record {
          kept = record { digest = r.digest; version = r.version; number = r.number };
          call = record { update = g; random = f.random; short = f.short };
          out = node-served _ _ (omega arith);
          key = refl;
        }))
        (λ t e _.
        let two = t.range.two in
        let g = next_fits σ m u a t f.update in
        record {
          kept = k;
          call = record { update = g; random = f.random; short = f.short };
          out = update-served σ.kept.version _ (omega arith);
          key = refl;
        })

    goes_fit : Goes (write_goes s σ m w a)
    unfolding refused done asking write_asks write_want of_node goes_on signing committed path_digest
    goes_fit =
        by_going s σ m w a Goes (λ x z. absurd (x z))
        (λ g e _.
        let v = g.range.opened g.opened in
        record {
          kept = record { digest = piece-length σ.path _; version = omega arith; number = k.number };
          call = record { update = f.update; random = f.random; short = f.short };
          out = refl;
          key = refl;
        })
        (λ g e _.
        let two = g.range.two in
        let b = g.range.number in
        record {
          kept = record {
            digest = k.digest;
            version = k.version;
            number = by_cond (λ x. x < 4294967296) (signs_next σ.kept w) _ _
                (λ _. omega (arith, one-count s.users s.own)) (λ _. k.number);
          };
          call = record { update = f.update; random = f.random; short = f.short };
          out = node-served _ _ (omega arith);
          key = refl;
        })

    write-fits : Goes (write_taken s σ m w a)
    unfolding write_taken
    write-fits = by_bool (λ b. Goes (cond b (write_goes s σ m w a) (write_updates s σ m w a))) w.opened (λ _. goes_fit) (λ _. updates_fit)

    write-over : (write_taken s σ m w a).step.code ≡ 0 → (write_taken s σ m w a).step.ended ≡ true → (l : Lent) (b : List ℕ)
        → (write_taken s (write_taken s σ m w a).state l (write_taken s σ m w a).call b).step.code ≡ 0 → ⊥
    write-over z e l b =
        by_bool (λ x. w.opened ≡ x → (write_taken s (write_taken s σ m w a).state l (write_taken s σ m w a).call b).step.code ≡ 0 → ⊥) w.opened
        (λ _ o. committed-over s σ m w a o z e (write_taken s σ m w a).state.path (write_taken s σ m w a).state.signature l b)
        (λ _ o _. not_both _ e (write-opens s σ m w a o z).goes_on_lem) refl

  -- a Read
  module _ (σ : State) (m : Lent) (r : Read) (a : List ℕ) where
    read_fits : KeptFits σ.kept → ReadFits r → (read_taken s σ m r a).step.code ≡ 0 → Fits m (as_call reading (read_taken s σ m r a))
    unfolding refused done asking read_asks read_ends read_next read_collected
    read_fits k f =
        Reads.by_taken s σ m r a (λ o. o.step.code ≡ 0 → Fits m (as_call reading o)) (λ x z. absurd (x z))
        (λ t _ _ _. record {
          kept = k;
          call = record { position = f.position; short = Reads.next_small s σ m r a t f.short };
          out = refl;
          key = refl;
        })
        (λ t _ _.
        let two = t.range.two in
        record {
          kept = k;
          call = record { position = f.position; short = Reads.next_small s σ m r a t f.short };
          out = read-served σ.kept.version _ (omega arith);
          key = refl;
        })

    read-over : (read_taken s σ m r a).step.code ≡ 0 → (read_taken s σ m r a).step.ended ≡ true → (l : Lent) (b : List ℕ)
        → (read_taken s (read_taken s σ m r a).state l (read_taken s σ m r a).call b).step.code ≡ 0 → ⊥
    unfolding refused
    read-over z e l b =
        let o = read_taken s σ m r a in
        let count = eqb-true o.call.answers (read_count r.position σ.kept.version) (sym (read-ends s σ m r a z) ∙ e) in
        let same : read_count o.call.position o.state.kept.version ≡ read_count r.position σ.kept.version =
        ap₂ (λ (i : ℕ) (x : State). read_count i x.kept.version) (read-place s σ m r a z) (read-state s σ m r a) in
        Reads.by_taken s o.state l o.call b (λ y. y.step.code ≡ 0 → ⊥) (λ x. x) (λ w _ _ _. let q = w.waiting in omega arith)
        (λ w _ _. let q = w.waiting in omega arith)

  -- a give-up: its steps keep all but the progress
  abbrev GiveUpKeeps : Lent → Outcome GiveUp → Type 0
  GiveUpKeeps m o = o.step.code ≡ 0 → StepOk s m (as_call giving_up o)

  give_up_ok : (σ : State) (m : Lent) → KeptFits σ.kept → GiveUpKeeps m (give_up_goes s σ m)
  unfolding asking done closed give_up_want taken
  give_up_ok σ m k =
      Gives.by_goes s σ m (GiveUpKeeps m)
      (λ _ _. record {
        fits = record {
          kept = record { digest = k.digest; version = k.version; number = k.number };
          call = tt;
          out = refl;
          key = refl;
        };
        above = λ _. tt;
        over = λ _ l b z. no_give_up_lem s _ l b z;
      })
      (λ n _. record {
        fits = record { kept = k; call = tt; out = ne_eqb (next_told s.servers σ.kept) 0 n; key = refl };
        above = λ _. tt;
        over = λ y. not_both false y refl;
      })

  told_ok : (σ : State) (m : Lent) (c : GiveUp) (a : List ℕ) → KeptFits σ.kept → GiveUpKeeps m (give_up_taken s σ m c a)
  unfolding told refused
  told_ok σ m c a k =
      Gives.by_taken s σ m c a (GiveUpKeeps m) (λ n z. absurd (n z))
      (λ _. give_up_ok (with_kept σ (told s.servers σ.kept)) m (record { digest = k.digest; version = k.version; number = k.number }))

  -- an Update that goes on
  update-above : (σ : State) (m : Lent) (u : Update) (a : List ℕ) → Above n σ.kept.version u → (update_taken s σ m u a).step.code ≡ 0
      → (update_taken s σ m u a).step.ended ≡ false → Above n (update_taken s σ m u a).state.kept.version (update_taken s σ m u a).call
  unfolding refused done asking
  update-above σ m u a g z e =
      let x = stays-above s σ m u a g z in
      let same : (update_taken s σ m u a).state ≡ σ =
      by_taken s σ m u a (λ o. o.step.code ≡ 0 → o.step.ended ≡ false → o.state ≡ σ) (λ y q. absurd (y q))
      (λ t. by_goes s σ _ _ (λ o. o.step.code ≡ 0 → o.step.ended ≡ false → o.state ≡ σ) (λ _ _ y. not_both true refl y) (λ _ _ _. refl)) z e in
      rw same x

  -- an answer
  pub answer_ok : (σ : State) (m : Lent) (c : Call) (a : List ℕ) → KeptFits σ.kept → CallFits c → CallAbove s σ c → (taken s σ m c a).step.code ≡ 0
      → StepOk s m (taken s σ m c a)
  unfolding taken
  answer_ok σ m idle a k f g z = absurd f
  answer_ok σ m (updating u) a k f g z =
      record { fits = update-fits σ m u a k f z; above = λ e. update-above σ m u a g z e; over = λ e l b. taken-over s σ m u a g z e l b }
  answer_ok σ m (writing w) a k f g z =
      record { fits = write-fits σ m w a k f z; above = λ _. tt; over = λ e l b. write-over σ m w a k f z e l b }
  answer_ok σ m (reading r) a k f g z =
      record { fits = read_fits σ m r a k f z; above = λ _. tt; over = λ e l b. read-over σ m r a z e l b }
  answer_ok σ m (giving_up c) a k f g z = told_ok σ m c a k z

  -- the starts: each leaves what is kept, and has a request out
  abbrev Begins : State → Lent → Outcome Call → Type 0
  Begins σ m o = o.step.code ≡ 0 → StepOk s m o × (o.state ≡ σ)

  module _ (σ : State) (m : Lent) (k : KeptFits σ.kept) where
    first_above : 0 < n → Above n σ.kept.version fresh_update
    unfolding fresh_update
    first_above h e = absurd (omega arith)

    pub update-begins : Begins σ m (as_call updating (update_started s σ m))
    unfolding update_started update_setup refused asking
    update-begins =
        let P : Outcome Update → Type 0 = λ o. Begins σ m (as_call updating o) in
        by_cond P (eqb (first_code (update_setup s σ.kept m.request)) 0) _ _
        (λ e.
        let two = (setup-passed s σ.kept (request_room m.request) _ (eqb-true _ 0 e)).0.two in
        by_goes s σ m fresh_update P (λ y. not_both _ y (fresh_waits n σ.kept.version (omega arith)))
        (λ _ _. (
          record {
            fits = record { kept = k; call = fresh-fits; out = update-served σ.kept.version fresh_update (omega arith); key = refl };
            above = λ _. first_above (omega arith);
            over = λ y. not_both false y refl;
          },
          refl,
        )))
        (λ e z. absurd (eqb-false _ 0 e z))

    pub read-begins : (i : ℕ) → Begins σ m (as_call reading (read_started s σ m i))
    unfolding read_started read_checks read_asks refused asking
    read-begins i =
        let P : Outcome Read → Type 0 = λ o. Begins σ m (as_call reading o) in
        by_cond P (eqb (first_code (read_checks s σ.kept i m)) 0) _ _
        (λ e _.
        let first = setup-passed s σ.kept (request_room m.request && leb 1024 (length m.entry)) _ (eqb-true _ 0 e) in
        let two = first.0.two in
        let v = first.0.version in
        let within = (check-passes 24 (leb 1 i && leb i σ.kept.version) _ (λ z. omega arith) first.2).0 in
        let small = leb-true i σ.kept.version (and-true (leb 1 i) _ within).1 in (
          record {
            fits = record {
              kept = k;
              call = record { position = omega arith; short = omega arith };
              out = read-served σ.kept.version (read_at i 0) (omega arith);
              key = refl;
            };
            above = λ _. tt;
            over = λ y. not_both false y refl;
          },
          refl,
        ))
        (λ e z. absurd (eqb-false _ 0 e z))

    pub write-begins : (entry randomizer : List ℕ) → length randomizer ≡ 32 → Begins σ m (as_call writing (write_started s σ m entry randomizer))
    unfolding write_started write_start_checks user_setup_checks fresh_write write_asks write_waits write_want of_node refused asking
    write-begins entry randomizer random =
        let code = first_code (write_start_checks s σ m entry) in
        let w = fresh_write σ.kept entry randomizer in
        let m' = with_held m (written m.held 0 entry) in
        let P : Outcome Write → Type 0 = λ o. Begins σ m (as_call writing o) in
        by_cond P (eqb code 0) _ _
        (λ e.
        let first = setup-passed s σ.kept (write_room s m.key m.request) _ (eqb-true code 0 e) in
        let same = check-passes 18 _ _ (λ z. omega arith) first.2 in
        let short = (entry-sizes entry (check-passes 19 _ _ (λ z. omega arith) same.1).0).1 in
        let two = first.0.two in
        by_cond P σ.kept.opened _ _
        (λ _ _. (
          record {
            fits = record {
              kept = k;
              call = record { update = fresh-fits; random = random; short = short };
              out = node-served _ _ (omega arith);
              key = refl;
            };
            above = λ _. tt;
            over = λ y. not_both false y refl;
          },
          refl,
        ))
        (λ _.
        by_goes s σ m' fresh_update (λ o. P (write_waits σ w o)) (λ y. not_both _ y (fresh_waits n σ.kept.version (omega arith)))
        (λ _ _. (
          record {
            fits = record {
              kept = k;
              call = record { update = fresh-fits; random = random; short = short };
              out = update-served σ.kept.version fresh_update (omega arith);
              key = refl;
            };
            above = λ _. tt;
            over = λ y. not_both false y refl;
          },
          refl,
        ))))
        (λ e z. absurd (eqb-false code 0 e z))

    -- a give-up's start leaves what is kept, but for the mark that it has begun
    pub give_up_begins : (give_up_started s σ m).step.code ≡ 0 → StepOk s m (as_call giving_up (give_up_started s σ m))
    unfolding beginning refused
    give_up_begins =
        Gives.by_started s σ m (GiveUpKeeps m) (λ n y. absurd (n y))
        (λ _. give_up_ok (with_kept σ (beginning σ.kept)) m
        (record { digest = k.digest; version = k.version; number = k.number }))
