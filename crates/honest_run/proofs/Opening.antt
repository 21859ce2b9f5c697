-- A Write that nothing refuses, up to its first Reserve: its start, its Update, and the path that the write opens with.
use mathlib.Core.Path.{◌≡◌, refl, ap, ap₂, sym, ◌∙◌}
use mathlib.Core.Bool.{Bool, true, false, cond, not, ◌&&◌, ◌||◌}
use mathlib.Core.List.{List, ◌++◌}
use Prim.Native.Nat.{ℕ, zero, suc, ◌+◌, ◌*◌, ◌≤◌, ◌<◌}
use native.Mathlib.Omega.{arith}
use lib.Dec.{eqb, ltb}
use lib.ListN.{length, take, drop, get_or}
use lib.Seq.{take_at}
use borrow.Author.Tests.{le-leb, lt-ltb}
use Rattle.lms.specs.Types.{cat}
use Rattle.lms.proofs.Parts.{cat_part}
use Rattle.tree.specs.Bytes.{eqs, written}
use Rattle.tree.specs.Level.{lg}
use Rattle.tree.specs.Expr.{Expr, leaf, entry_text, value}
use Rattle.tree.specs.Tree.{leaves}
use Rattle.tree.specs.Cover.{at, piece, cover, cover_path, path_bytes, path_written}
use Rattle.tree.specs.Setup.{first_code, Settings}
use Rattle.tree.proofs.Agree.{Sized, sized-value}
use Rattle.tree.proofs.ByteLaws.{written-fits}
use Rattle.tree.proofs.Cases.{not_both}
use Rattle.tree.proofs.Cuts.{cover-path-sized}
use Rattle.tree.proofs.Honest.{TrueAnswers, true-cover-gives-path}
use Rattle.tree.proofs.Levels.{lg_below}
use Rattle.tree.proofs.Paths.{path-bytes-length, path-whole}
use Rattle.tree.proofs.Pieces.{piece-whole}
use Rattle.user_list.specs.Users.{tree_length, least_request, longest_tree}
use Rattle.user.specs.declared.call.Kept.{Kept}
use Rattle.user.specs.Asking.{user_settings_fit, kept_fits, user_fits, user_setup_checks, request_room}
use Rattle.user.specs.Outcome.{State, state_of, Lent, with_hashes, with_held, Outcome, refusal}
use Rattle.user.proofs.Ranges.{ProgressInRange}
use Rattle.firing.specs.Entry.{entry_fits}
use Rattle.firing.specs.Schedule.{rules_kept}
use Rattle.user_update.specs.declared.call.Update.{Update}
use Rattle.user_update.specs.Update.{fresh_update, update_goes, update_taken, arrived}
use Rattle.user_update.proofs.UpdateRules.{ended_with}
use Rattle.user_write.specs.declared.call.Write.{Write}
use Rattle.user_write.specs.Write.{opened_at, target_fits, own_leaf, held_entry, fresh_write, write_room, number_left, write_start_checks}
use Rattle.user_write.specs.Write.{write_started, write_asks, write_waits, opening_checks, opening, write_opens}
use Rattle.user_write.specs.Write.{write_updates, write_goes, write_taken, with_update}
use Rattle.whole_run.proofs.Requests.{entry-sizes, laid-length}
use Rattle.honest_run.specs.Network.{HonestSetup, settings_in}
use Rattle.whole_run.specs.Runs.{set}
use Rattle.honest_run.proofs.Invariant.{Item, texts, hash_of, OpenOk}
use Rattle.honest_run.proofs.Log.{same_hash}
use Rattle.honest_run.proofs.Frames.{set_same, set_other}
use Rattle.honest_run.proofs.Keys.{tree-room, left-number}
use Rattle.honest_run.proofs.Nodes.{cover-node}
use Rattle.honest_run.proofs.Updates.{Arrived}

-- the start of a Write
module _ (s : Settings) (σ : State) (m : Lent) (entry : List ℕ) (settled : user_settings_fit s ≡ true) (in_range_lem : kept_fits s σ.kept ≡ true)
    (room : least_request ≤ length m.request) (whole : longest_tree ≤ length m.key.tree) (shaped : entry_fits entry ≡ true) (ruled : rules_kept entry ≡ true) where
  -- 22, 21, 19 and 26 pass; 18 and 17 are left
  pub start-passes : (not σ.kept.opened || (not σ.kept.progress.begun && eqs (value (own_leaf s entry)) (piece σ.path 0))) ≡ true
      → ((σ.kept.opened && σ.kept.signed) || number_left s σ.kept) ≡ true → first_code (write_start_checks s σ m entry) ≡ 0
  unfolding write_start_checks user_setup_checks user_fits write_room request_room first_code
  start-passes same spare =
      rw (settled, in_range_lem, le-leb least_request (length m.request) room, le-leb (tree_length s.users s.own) (length m.key.tree) (tree-room s _ whole), same, shaped, ruled, spare)

-- the memory of a Write that starts
abbrev pub holding : Lent → List ℕ → Lent
holding m entry = with_held m (written m.held 0 entry)

-- what a start that passes leaves, by whether a write is open
abbrev pub started_with : Settings → State → Lent → List ℕ → List ℕ → Bool → Outcome Write
started_with s σ m entry randomizer opened =
    let w = fresh_write σ.kept entry randomizer in
    cond opened (write_asks s σ (holding m entry) w) (write_waits σ w (update_goes s σ (holding m entry) fresh_update))

-- a start whose checks pass leaves that
pub passed-starts : (s : Settings) (σ : State) (m : Lent) (entry randomizer : List ℕ) → first_code (write_start_checks s σ m entry) ≡ 0
    → write_started s σ m entry randomizer ≡ started_with s σ m entry randomizer σ.kept.opened
unfolding write_started
passed-starts s σ m entry randomizer z = rw z

-- with nothing open, an Update begins
pub write-starts : (s : Settings) (σ : State) (m : Lent) (entry randomizer : List ℕ) → user_settings_fit s ≡ true → kept_fits s σ.kept ≡ true
    → least_request ≤ length m.request → longest_tree ≤ length m.key.tree → entry_fits entry ≡ true → rules_kept entry ≡ true
    → σ.kept.opened ≡ false → σ.kept.number < 1024
    → write_started s σ m entry randomizer
    ≡ write_waits σ (fresh_write σ.kept entry randomizer) (update_goes s σ (holding m entry) fresh_update)
write-starts s σ m entry randomizer settled in_range_lem room whole shaped ruled shut number =
    let k = σ.kept in
    passed-starts s σ m entry randomizer
    (start-passes s σ m entry settled in_range_lem room whole shaped ruled
    (ap (λ (b : Bool). not b || (not k.progress.begun && eqs (value (own_leaf s entry)) (piece σ.path 0))) shut)
    (ap (λ (b : Bool). (b && k.signed) || number_left s k) shut ∙ left-number s k number))
    ∙ ap (started_with s σ m entry randomizer) shut

-- the entry that was laid into its buffer is the one that the call holds, whatever the call has come to
pub entry-held : (k : Kept) (entry randomizer held : List ℕ) → length held ≡ 1026 → length entry ≤ 1024
    → held_entry (fresh_write k entry randomizer) (written held 0 entry) ≡ entry
unfolding held_entry fresh_write
entry-held k entry randomizer held size h =
    ap (take (length entry)) (written-fits held 0 entry (omega arith)) ∙ take_at entry _ (length entry) refl

-- an answer that the Update of a Write takes with code 0: the Update goes on, or has had its last answer
module _ (s : Settings) (σ : State) (m : Lent) (w : Write) (a : List ℕ) (o : Outcome Update)
    (shut : w.opened ≡ false) (left : update_taken s σ m w.update a ≡ o) (code : o.step.code ≡ 0) where
  abbrev goes : Outcome Update → ℕ → Bool → Outcome Write
  goes x code ended = cond (eqb code 0 && ended) (write_opens s σ m w x a) (write_waits σ w x)

  update-takes : (ended : Bool) → o.step.ended ≡ ended → write_taken s σ m w a ≡ goes o 0 ended
  unfolding write_taken write_updates
  update-takes ended e =
      ap (λ (b : Bool). cond b (write_goes s σ m w a) (write_updates s σ m w a)) shut
      ∙ ap (λ (x : Outcome Update). goes x x.step.code x.step.ended) left
      ∙ ap₂ (goes o) code e

  -- the Update goes on
  pub write_waits_lem : o.step.ended ≡ false → write_taken s σ m w a ≡ write_waits σ w o
  write_waits_lem e = update-takes false e

  -- it has had its last answer
  pub write-arrives : o.step.ended ≡ true → write_taken s σ m w a ≡ write_opens s σ m w o a
  write-arrives e = update-takes true e

-- what is kept of the write of this entry that opens where the Update c has arrived at w
abbrev pub opens_with : Settings → State → Update → ℕ → List ℕ → List ℕ → State
opens_with s σ c w hashes entry =
    state_of (opening (arrived σ.kept c)) (path_written σ.kept.version w hashes (own_leaf s entry) σ.path) σ.signature

-- 20 and 19 pass, and the write opens
module _ (s : Settings) (σ : State) (m : Lent) (w' : Write) (a : List ℕ) (c : Update) (hashes entry : List ℕ) (w : ℕ)
    (version : (arrived σ.kept c).version ≡ w) (within : w < 1048576) (target : target_fits w entry ≡ true) (held : held_entry w' m.held ≡ entry) where
  abbrev opens : ℕ → List ℕ → Outcome Write
  opens n text =
      let code = first_code (opening_checks n text) in
      cond (eqb code 0) (write_asks s (opens_with s σ c n hashes text) (with_hashes m hashes) (opened_at (with_update w' c) 0)) (refusal code a σ m w')

  may_open : first_code (opening_checks w entry) ≡ 0
  unfolding opening_checks first_code
  may_open = rw (lt-ltb w 1048576 within, target)

  -- the first Reserve goes out, with the path laid
  pub write-opens : write_opens s σ m w' (ended_with σ (with_hashes m hashes) c) a
      ≡ write_asks s (opens_with s σ c w hashes entry) (with_hashes m hashes) (opened_at (with_update w' c) 0)
  unfolding write_opens
  write-opens = ap₂ opens version held ∙ rw may_open

-- each node of a path that was laid into 672 bytes
module _ (v w : ℕ) (hs : List ℕ) (e : Expr) (d : List ℕ) (vw : v ≤ w) (within : w < 1048576) (sized : Sized e) (size : length d ≡ 672) where
  abbrev node_bytes : ℕ → List ℕ
  node_bytes l = value (cover_path v w hs e l)

  joined : (n : ℕ) → path_bytes v w hs e n ≡ cat node_bytes n
  unfolding path_bytes cat
  joined zero = refl
  joined (suc n) = ap (λ (x : List ℕ). x ++ value (cover_path v w hs e n)) (joined n)

  path-piece : (l : ℕ) → l ≤ lg (suc w) → piece (path_written v w hs e d) l ≡ value (cover_path v w hs e l)
  path-piece l h =
      let n : ℕ = lg (suc w) + 1 in
      let low : lg (suc w) ≤ 20 = lg_below (suc w) 20 (omega arith) in
      let bytes : List ℕ = path_bytes v w hs e (lg (suc w) + 1) in
      let long = path-bytes-length v w hs e (lg (suc w) + 1) sized in
      let same = laid-length v w hs e d in
      let rest : List ℕ = drop (0 + length (path_bytes v w hs e (lg (suc w) + 1))) d in
      piece-whole (path_written v w hs e d) l (omega arith)
      ∙ ap (λ (x : List ℕ). take 32 (drop (32 * l) x)) (path-whole v w hs e d vw ∙ written-fits d 0 bytes (omega arith))
      ∙ ap (λ (x : List ℕ). take 32 (drop (32 * l) (x ++ rest))) (joined (lg (suc w) + 1))
      ∙ cat_part node_bytes n (λ i _. sized-value (cover_path v w hs e i) (cover-path-sized v w hs e i sized)) n l rest (omega arith) (omega arith)

-- over true answers it is the path of the entry in the log that has it at place w
module _ (s : Settings) (L : ℕ → Item) (v w : ℕ) (hashes entry signature d : List ℕ) (vw : v ≤ w) (within : w < 1048576) (size : length d ≡ 672)
    (true-answers : TrueAnswers (leaves (texts L)) (cover v w) hashes) where
  -- the new item
  abbrev item : Item
  item = record { author = s.own; entry = entry; signature = signature }

  -- the log with it
  abbrev M : ℕ → Item
  M = set L w item

  answers_still : TrueAnswers (leaves (texts M)) (cover v w) hashes
  answers_still j h =
      let p = cover-node v w j vw h in
      let last = p.high in
      true-answers j h
      ∙ same_hash L M (get_or (cover v w) j (at 0 0)).position (get_or (cover v w) j (at 0 0)).level p.low
      (λ i b. ap (λ (x : Item). entry_text x.author x.entry) (sym (set_other L w item i (λ e. omega arith))))

  own-leaf : value (own_leaf s entry) ≡ value (leaves (texts M) w)
  unfolding own_leaf
  own-leaf = ap (λ (x : Item). value (leaf (entry_text x.author x.entry))) (sym (set_same L w item))

  leaf-sized : Sized (own_leaf s entry)
  unfolding own_leaf Sized
  leaf-sized = tt

  opened-path : (l : ℕ) → l ≤ lg (suc w) → piece (path_written v w hashes (own_leaf s entry) d) l ≡ hash_of M (suc w) l
  opened-path l h =
      path-piece v w hashes (own_leaf s entry) d vw within leaf-sized size l h
      ∙ true-cover-gives-path v w (leaves (texts M)) hashes (own_leaf s entry) l vw own-leaf answers_still h

  -- the path's bytes stay 672
  pub opened-path_size : length (path_written v w hashes (own_leaf s entry) d) ≡ 672
  opened-path_size = laid-length v w hashes (own_leaf s entry) d ∙ size

-- the write that has opened is as it should be, in the log that has its entry at place w
module _ (c : HonestSetup) (a : ℕ) (L : ℕ → Item) (σ : State) (u : Update) (w : ℕ) (hashes entry : List ℕ)
    (one : 1 ≤ a) (listed : a ≤ c.count) (shaped : entry_fits entry ≡ true) (spare : σ.kept.number < 1024)
    (there : Arrived w L σ.kept u hashes) (vw : σ.kept.version ≤ w) (within : w < 1048576) (size : length σ.path ≡ 672) where
  -- the new item
  abbrev pub open_item : Item
  open_item = record { author = a; entry = entry; signature = σ.signature }

  -- what holds of the open write
  pub opened_ok : ProgressInRange c.servers (suc w) false (opening (arrived σ.kept u)).progress
      → OpenOk c (set L w open_item) w 0 a entry (opens_with (settings_in c a) σ u w hashes entry)
  unfolding opening
  opened_ok progress =
      let new = set_same L w open_item in
      let sizes = entry-sizes entry shaped in
      let same = there.number in
      record {
        version = there.version;
        within = within;
        item = record { one = rw new one; listed = rw new listed; some = rw new sizes.0; short = rw new sizes.1 };
        author = ap (λ (x : Item). x.author) new;
        entry = ap (λ (x : Item). x.entry) new;
        path_ok = opened-path (settings_in c a) L σ.kept.version w hashes entry σ.signature σ.path vw within size there.answers;
        signed = λ e. not_both false e refl;
        unsigned = λ _. (omega arith, omega arith);
        progress = progress;
        unput = λ _. omega arith;
      }
