-- The premises of the honest run can be met: the first Write of user 1 on two servers, of a firing schedule, is valid, and so ends with 0
-- after five answers; and it is valid still after an Update that was refused.
use mathlib.Core.Path.{◌≡◌, refl, ap, sym, ◌∙◌, subst}
use mathlib.Core.Logic.{inr}
use mathlib.Core.Bool.{true, false, cond, ◌&&◌}
use mathlib.Core.List.{List, [], ◌∷◌}
use Prim.Native.Nat.{ℕ, zero, suc, ◌+◌, ◌*◌, ◌≤◌, ◌<◌}
use native.Mathlib.Omega.{arith}
use lib.Dec.{eqb, ltb}
use lib.ListN.{length, replicate, length-replicate}
use borrow.Author.Tests.{eqb-true, eqb-false, leb-true}
use Rattle.sha256.specs.Bytes.{number_at}
use Rattle.sha256.proofs.Cases.{by_bool}
use Rattle.tree.specs.Level.{least_from, lg, is_full, highest_full}
use Rattle.tree.specs.Label.{owner}
use Rattle.tree.specs.Setup.{Settings, first_code}
use Rattle.tree.proofs.Cases.{not_both}
use Rattle.user_list.specs.Users.{least_answer, least_request, longest_signature}
use Rattle.user.specs.Asking.{request_room, refused}
use Rattle.user.specs.Outcome.{lent_of, State, Lent, Outcome}
use Rattle.user.proofs.Passed.{setup-passed, by_cond}
use Rattle.firing.specs.Entry.{strikes, is_schedule, entry_fits}
use Rattle.firing.specs.Schedule.{twos_complement, segment_of, segments_in, segment_count, segments, laid_out, change, same_sign, sign_fits}
use Rattle.firing.specs.Schedule.{segment_fits, segments_fit, schedule_fits, rules_kept}
use Rattle.user_update.specs.declared.call.Update.{Update}
use Rattle.user_update.specs.Update.{update_answers, update_setup, update_started}
use Rattle.user_write.specs.Write.{target_fits, commit_number, write_level, write_answers}
use Rattle.user_calls.specs.Calls.{Input, start_update, start_write, stepped}
use Rattle.whole_run.specs.World.{user_step}
use Rattle.whole_run.specs.Runs.{new_user, NewWorld, new_server}
use Rattle.honest_run.specs.Network.{InRange, generated_key, settings_in, steps, network_after, handed, calls, do_act, new_network, Run, run_of, Network, in_records}
use Rattle.honest_run.specs.Claim.{Alone, body_size, stored_to, NewWrite, ValidInput, ValidCall, answers_of, count_of, Refused, AllValid, NotRefused, Reaches, Serves, CallsServe, HonestRun}
use Rattle.honest_run.specs.Sample.{small}
use Rattle.honest_run.proofs.Refused.{log_same, refused_unmoved}
use Rattle.honest_run.proofs.Theorem.{honest_run}
use Rattle.honest_run.proofs.Frames.{run_from}

-- a request stores at most a Commit and the entry's size
little : (n p size s j : ℕ) → stored_to n p size s j ≤ j * (least_answer + size)
unfolding stored_to body_size
little n p size s zero = omega arith
little n p size s (suc j) =
    let owned = ltb (lg p) j && eqb (owner n p (write_level p j)) s in
    let body : cond (eqb j (lg p + 1)) size (cond (ltb j (commit_number p)) 32 (32 + longest_signature)) ≤ 32 + longest_signature + size =
    by_bool (λ b. cond b size (cond (ltb j (commit_number p)) 32 (32 + longest_signature)) ≤ 32 + longest_signature + size) (eqb j (lg p + 1)) (λ _. omega arith)
    (λ _. by_bool (λ b. cond b 32 (32 + longest_signature) ≤ 32 + longest_signature + size) (ltb j (commit_number p)) (λ _. omega arith) (λ _. omega arith))
    in
    let one : cond owned (12 + cond (eqb j (lg p + 1)) size (cond (ltb j (commit_number p)) 32 (32 + longest_signature))) 0 ≤ least_answer + size =
    by_bool (λ b. cond b (12 + cond (eqb j (lg p + 1)) size (cond (ltb j (commit_number p)) 32 (32 + longest_signature))) 0 ≤ least_answer + size) owned (λ _. omega arith) (λ _. omega arith)
    in
    let r = little n p size s j in
    omega arith

-- 100 °C an hour to 950 °C, and 20 minutes there
abbrev pub entry : List ℕ
entry = 3 ∷ 1 ∷ 0 ∷ 100 ∷ 3 ∷ 182 ∷ 0 ∷ 20 ∷ []

abbrev pub memory : Lent
memory =
    record { hashes = replicate 1248 0; held = replicate 1026 0; request = replicate least_request 0; entry = []; key = generated_key small 1 }

abbrev pub first : Input
first = start_write memory entry (replicate 32 0)

abbrev pub zeros_first : NewWorld
zeros_first =
    record {
      users = λ a. record {
        digest = replicate 32 0;
        path = replicate 672 0;
        signature = replicate longest_signature 0;
        path_size = length-replicate {A = ℕ} 672 0;
        signature_size = length-replicate {A = ℕ} longest_signature 0;
      };
      servers = λ s. record { author = 0; digest = replicate 32 0; store = replicate 8000 0; digest_size = length-replicate {A = ℕ} 32 0 };
    }

abbrev pub start : Run Network
start = run_from small zeros_first []

pub range : InRange small
range =
    record {
      two = omega arith;
      sixteen = omega arith;
      one = omega arith;
      sixty_four = omega arith;
      named = length-replicate {A = ℕ} 16 7;
      identified = λ a. length-replicate {A = ℕ} 16 0;
    }

new : NewWrite small start (start.network.users 1).state.kept entry
unfolding run_of new_network new_server new_user commit_number target_fits strikes lg least_from is_full highest_full
new =
    record {
      number = omega arith;
      position = omega arith;
      target = refl;
      room = λ s one few. let l : length (replicate {A = ℕ} 8000 0) ≡ 8000 = length-replicate {A = ℕ} 8000 0 in omega (arith, little 2 1 8 s 3, l);
    }

pub valid : ValidCall small start 1 first
unfolding Alone ValidInput run_of new_network new_user entry_fits strikes is_schedule rules_kept schedule_fits laid_out segments segments_in
    segment_count segment_of segments_fit segment_fits sign_fits change same_sign twos_complement number_at
valid =
    record {
      one = omega arith;
      listed = omega arith;
      alone = λ b n. refl;
      input =
          record {
            memory =
                record {
                  hashes = length-replicate {A = ℕ} 1248 0;
                  held = length-replicate {A = ℕ} 1026 0;
                  request = let l : length (replicate {A = ℕ} least_request 0) ≡ least_request = length-replicate {A = ℕ} least_request 0 in omega arith;
                };
            key = refl;
            random = length-replicate {A = ℕ} 32 0;
            shaped = refl;
            ruled = refl;
            resumes = λ o. not_both false o refl;
            new = λ _. new;
          };
    }

-- two Status, one Reserve, the entry and the Commit
pub five : count_of small start 1 first ≡ 5
unfolding run_of new_network new_user answers_of update_answers write_answers lg least_from is_full highest_full
five = refl

pub first-write-ends : ((handed (in_records small) start.network 1 first 5).code ≡ 0) × ((handed (in_records small) start.network 1 first 5).ended ≡ true)
    × (((network_after (in_records small) start.network 1 first 5).users 1).state.kept.version ≡ 1)
unfolding HonestRun CallsServe AllValid NotRefused Serves Reaches run_of
first-write-ends =
    let h = honest_run small range zeros_first [] tt 1 first valid in
    let n = h.0 5 (omega (arith, five)) in
    let e = ap (eqb 5) five in
    (n.0, n.1 ∙ e, ap (λ k. ((network_after (in_records small) start.network 1 first k).users 1).state.kept.version) (sym five) ∙ h.1.0)

-- An Update whose request buffer is too short is refused at its start, and the same Write is valid after it.
abbrev empty : Lent
empty = lent_of [] [] [] [] (generated_key small 1)

abbrev early : Input
early = start_update empty

too_short : (s : Settings) (σ : State) (m : Lent) → length m.request < least_request → (update_started s σ m).step.code ≡ 0 → ⊥
unfolding update_started update_setup refused request_room
too_short s σ m short =
    let code = first_code (update_setup s σ.kept m.request) in
    by_cond (λ (o : Outcome Update). o.step.code ≡ 0 → ⊥) (eqb code 0) _ _
    (λ e _.
    let room = leb-true least_request (length m.request) (setup-passed s σ.kept (request_room m.request) _ (eqb-true code 0 e)).1 in
    omega arith)
    (λ e z. absurd (eqb-false code 0 e z))

early-refused : (handed (in_records small) start.network 1 early 0).code ≡ 0 → ⊥
unfolding handed user_step stepped
early-refused = too_short (settings_in small 1) (start.network.users 1).state empty (omega arith)

abbrev later : Run Network
later = run_from small zeros_first (calls 1 early 0 false ∷ [])

refused-early : Refused small start (calls 1 early 0 false)
unfolding Refused
refused-early = (refl, early-refused, λ j h. absurd (omega arith))

-- every user keeps still what a new one keeps
state-new : (a : ℕ) → (later.network.users a).state ≡ (start.network.users a).state
unfolding run_of
state-new a = (refused_unmoved small range start 1 early 0 false refused-early).states a

shut : (a : ℕ) → (later.network.users a).state.kept.opened ≡ false
unfolding run_of new_network new_user
shut a = ap (λ (σ : State). σ.kept.opened) (state-new a)

new-later : NewWrite small later (later.network.users 1).state.kept entry
unfolding run_of do_act network_after steps
new-later =
    subst
    (λ log. NewWrite small (record { network = later.network; log = log; begun = later.begun }) (later.network.users 1).state.kept entry)
    (sym (log_same start 1 early (handed (in_records small) start.network 1 early 0) early-refused))
    (record {
      number = subst (λ (σ : State). σ.kept.number < 1024) (sym (state-new 1)) new.number;
      position = new.position;
      target = new.target;
      room = new.room;
    })

valid_later : ValidCall small later 1 first
unfolding Alone ValidInput
valid_later =
    record {
      one = omega arith;
      listed = omega arith;
      alone = λ b n. shut b;
      input =
          record {
            memory = valid.input.memory;
            key = valid.input.key;
            random = valid.input.random;
            shaped = valid.input.shaped;
            ruled = valid.input.ruled;
            resumes = λ o. not_both _ o (shut 1);
            new = λ _. new-later;
          };
    }

pub write-after-refusal : ((handed (in_records small) start.network 1 early 0).code ≡ 0 → ⊥) × NotRefused (count_of small later 1 first) (handed (in_records small) later.network 1 first)
unfolding HonestRun CallsServe AllValid
write-after-refusal =
    let all : AllValid small (run_from small zeros_first) (calls 1 early 0 false ∷ []) = (inr refused-early, tt) in
    (early-refused, (honest_run small range zeros_first (calls 1 early 0 false ∷ []) all 1 first valid_later).0)
