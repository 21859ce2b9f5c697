-- A computed run: on two servers, of which server 1 follows the rules, user 1 begins a write of position 1 and gives it up.
use Rattle.std.specs.Prelude.{◌≡◌, refl, true, false, List, [], ◌∷◌, ℕ, replicate}
use Rattle.sha256.specs.Word.{¬32, SHL, SHR, ROTR, Ch, Maj, Σ0, Σ1, σ0, σ1}
use Rattle.sha256.specs.Constants.{K, H0}
use Rattle.sha256.specs.Block.{next_w, schedule, T1, T2, round, rounds, sums, compress}
use Rattle.sha256.specs.Hash.{zeros, padding, pad, words, block, hash_value, bytes, sha256}
use Rattle.tree.specs.Level as Le
use Rattle.tree.specs.Label as La
use Rattle.tree.specs.Expr as Ex
use Rattle.tree.specs.Tree as Tr
use Rattle.tree.specs.Cover as Co
use Rattle.tree.specs.Message as Me
use Rattle.tree.specs.Setup as Se
use Rattle.lms.specs.Tree as Tz
use Rattle.lms.specs.Signature as Si
use Rattle.user_list.specs.Users as Us
use Rattle.user_list.specs.Users.{least_answer, least_request, longest_signature, longest_tree}
use Rattle.sha256.specs.Bytes as By
use Rattle.user.specs.Asking as As
use Rattle.user.specs.Outcome as Ou
use Rattle.user_update.specs.Update as Up
use Rattle.firing.specs.Entry as En
use Rattle.firing.specs.Schedule as Fi
use Rattle.user_write.specs.Write as Wr
use Rattle.user_give_up.specs.GiveUp as Gi
use Rattle.user_calls.specs.Calls as Ca
use Rattle.store.specs.Shape as Sh
use Rattle.store.specs.Store as St
use Rattle.server.specs.Checks as Ch
use Rattle.server.specs.Serve as Sv
use Rattle.whole_run.specs.World as Wo
use Rattle.whole_run.specs.Runs as Ru

-- Two servers and one user; the memory that it is lent.
abbrev pub group : Wo.Setup
group = record { servers = 2; log = replicate 16 7; users = replicate 56 0 }

abbrev memory : Ou.Lent
memory =
    Ou.lent_of (replicate 1248 0) (replicate 1026 0) (replicate least_request 0) (replicate 1024 0)
    (Ou.key_of (replicate 16 0) (replicate 32 0) (replicate longest_tree 0))

-- The answer of a server to a Status, its head being (0, 0), and server 1's answer to the Reserve of (1, 0).
abbrev pub fresh : ℕ → List ℕ
fresh server = 75 ∷ 65 ∷ 1 ∷ server ∷ 0 ∷ 0 ∷ 0 ∷ 0 ∷ 0 ∷ 0 ∷ 0 ∷ 0 ∷ 0 ∷ 0 ∷ 0 ∷ []

abbrev reserved : List ℕ
reserved = 75 ∷ 65 ∷ 5 ∷ 1 ∷ 0 ∷ 0 ∷ 0 ∷ 1 ∷ 0 ∷ 0 ∷ []

-- All is zero at the start, and server 1 has no room.
abbrev pub zeros_first : Ru.NewWorld
zeros_first =
    record {
      users = λ a. record {
        digest = replicate 32 0;
        path = replicate 672 0;
        signature = replicate longest_signature 0;
        path_size = refl;
        signature_size = refl;
      };
      servers = λ s. record { author = 0; digest = replicate 32 0; store = []; digest_size = refl };
    }

-- What was noted, and what user 1 has handed out last.
abbrev pub noted : List Ru.Step → List Wo.Event
noted xs = (Ru.run group zeros_first xs).log

abbrev pub out : List Ru.Step → List ℕ
out xs = ((Ru.run group zeros_first xs).users 1).sent.bytes

abbrev pub asks_server_1 : List Ru.Step
asks_server_1 = Ru.user 1 (Ca.start_write memory (1 ∷ 65 ∷ []) (replicate 32 0)) ∷ []

abbrev pub server_1_answers : List Ru.Step
server_1_answers = Ru.server 1 (out asks_server_1) (replicate least_answer 0) ∷ asks_server_1

abbrev pub asks_server_2 : List Ru.Step
asks_server_2 = Ru.user 1 (Ca.answer (fresh 1)) ∷ server_1_answers

abbrev pub reserves : List Ru.Step
reserves = Ru.user 1 (Ca.answer (fresh 2)) ∷ asks_server_2

abbrev pub server_1_reserves : List Ru.Step
server_1_reserves = Ru.server 1 (out reserves) (replicate least_answer 0) ∷ reserves

abbrev puts : List Ru.Step
puts = Ru.user 1 (Ca.answer reserved) ∷ server_1_reserves

-- Before that, user 1 may give the write up: it starts a give-up after server 1 has accepted the Reserve, server 1 accepts that too, and
-- its answer is taken.
abbrev pub gives_up : List Ru.Step
gives_up = Ru.user 1 (Ca.start_give_up memory) ∷ server_1_reserves

abbrev pub server_1_gives_up : List Ru.Step
server_1_gives_up = Ru.server 1 (out gives_up) (replicate least_answer 0) ∷ gives_up

abbrev pub given_up : List ℕ
given_up = 75 ∷ 65 ∷ 9 ∷ 1 ∷ 0 ∷ 0 ∷ 0 ∷ 1 ∷ 0 ∷ 0 ∷ []

abbrev pub closes : List Ru.Step
closes = Ru.user 1 (Ca.answer given_up) ∷ server_1_gives_up

-- User 1 asks server 1 for its Status, of the empty log, and server 1 answers; then it asks server 2.
abbrev pub Asked : Type 0
Asked =
    (noted server_1_answers ≡ Wo.answered 1 (out asks_server_1) (fresh 1) ∷ noted asks_server_1)
    × (Me.request_kind (out asks_server_1) ≡ 1) × (((Ru.run group zeros_first asks_server_2).users 1).sent.server ≡ 2)

-- User 1, whose Update ends at p* = 0, hands out the first Reserve; server 1 accepts it, and user 1 goes on with the PutOperation.
abbrev pub Reserved : Type 0
Reserved =
    (Me.request_kind (out reserves) ≡ 5) × (((Ru.run group zeros_first server_1_reserves).servers 1).head.position ≡ 1)
    × (Me.request_kind (out puts) ≡ 6)

-- In a give-up server 1 is told with level 0, the only one that a Reserve was handed out for, and its head is (0, 0) again; with its answer
-- the write is closed.
abbrev pub GivenUp : Type 0
GivenUp =
    (Me.request_kind (out gives_up) ≡ 9) × (Me.request_level (out gives_up) ≡ 0) × (Me.request_author (out gives_up) ≡ 1)
    × (noted gives_up ≡ Wo.handed_out 1 1 (out gives_up) ∷ noted server_1_reserves)
    × (noted server_1_gives_up ≡ Wo.answered 1 (out gives_up) given_up ∷ noted gives_up)
    × (((Ru.run group zeros_first server_1_gives_up).servers 1).head.position ≡ 0)
    × (((Ru.run group zeros_first gives_up).users 1).state.kept.progress.begun ≡ true)
    × (((Ru.run group zeros_first closes).users 1).state.kept.opened ≡ false)

pub write_given_up : Asked × Reserved × GivenUp
unfolding Le.least_from Le.lg Le.is_full Le.highest_full La.nodes_to La.label La.server_of La.owner Ex.entry_text Ex.leaf_string Ex.pair_string Ex.half_string Ex.value Tr.tree Tr.block_of Tr.node Co.fits Co.tile_level Co.tiles_in Co.tiles Co.peaks Co.cover Co.piece Co.cut Co.covers Co.nodes_before Co.from_cover Co.cover_digest Co.cover_path Co.path_bytes Co.path_written Me.request_header Me.request Me.answer_header Me.answer Me.record_header Me.stored Me.signed_text Us.user_count Us.user_key Us.is_listed Us.list_fits Us.group_fits Us.signature_length Us.tree_length Us.signature_count Tz.tree_size Si.signature_size Se.in_log Se.first_code By.be By.number_at By.written By.eqs As.user_settings_fit As.progress_fits As.open_fits As.kept_fits As.user_fits As.user_setup_checks As.request_room As.of_node As.of_status As.asks As.headed As.answer_body_fits As.is_server_code As.is_answer As.answer_checks As.refused As.done As.asking Ou.no_progress Ou.nothing Up.fresh_update Up.update_answers Up.update_ended Up.update_want Up.told_position Up.told_level Up.told_label Up.head_holds Up.status_taken Up.update_next Up.update_hashes Up.record_holds Up.cover_gives_own Up.cover_gives_new Up.update_checks Up.arrived Up.update_goes Up.update_setup Up.update_started Up.update_early Up.update_taken En.strikes En.is_schedule En.entry_fits Fi.rules_kept Wr.target_fits Wr.own_leaf Wr.commit_number Wr.write_kind Wr.write_level Wr.write_want Wr.path_digest Wr.write_body Wr.held_entry Wr.write_asks Wr.write_waits Wr.write_room Wr.number_left Wr.write_start_checks Wr.fresh_write Wr.write_started Wr.opening_checks Wr.handing Wr.opening Wr.write_opens Wr.write_updates Wr.signs_next Wr.write_checks Wr.commit_signature Wr.write_signature Wr.goes_on Wr.signing Wr.committed Wr.write_goes Wr.write_taken Sh.level_fits Sh.node_fits Sh.is_stored_kind Sh.request_body_fits Sh.kind_fits Ch.request_fits Sh.record_fits St.record_length St.records_in St.records St.sizes St.whole St.is_for St.first St.is_stored Ch.server_settings_fit Ch.place_fits Ch.earlier_fits Ch.head_fits Ch.store_fits Ch.owns_node Ch.is_heads Ch.reservable Ch.is_givable Ch.holds_head Ch.commit_holds St.record_asked Ch.record_found Ch.no_other Ch.room_left Ch.node_source Ch.pull_source Ch.kind_checks Ch.server_setup_checks Ch.request_checks Sv.none_earlier Sv.as_earlier Sv.reserved_head Sv.brought_back Sv.head_after Sv.appends Sv.store_after Sv.used_after Sv.node_hash Sv.record_given Sv.body_given Sv.header_given Sv.answer_given Sv.refused_setup Sv.served Wo.sent_by Wo.returned Wo.view_sent Wo.view_after Wo.new_reads Wo.after Wo.cover_strings Wo.record_accepted Wo.update_events Wo.opening_hashed Wo.write_signed Wo.write_events Wo.read_events Wo.answer_events Wo.accepted_events Wo.handed_events Wo.events_of Wo.user_step Ca.taken Ca.stepped Ru.new_user Ru.new_server Ru.server_after Ru.with_user Ru.server_events Ru.with_server Ru.step Ru.run ¬32 SHL SHR ROTR Ch Maj Σ0 Σ1 σ0 σ1 K H0 next_w schedule T1 T2 round rounds sums compress zeros padding pad words block hash_value bytes sha256 Gi.sent_to Gi.first_told Gi.next_told Gi.give_up_want Gi.waiting Gi.no_give_up Gi.give_up_setup Gi.beginning Gi.told Gi.closed Gi.give_up_goes Gi.give_up_started Gi.give_up_taken
write_given_up = ((refl, refl, refl), (refl, refl, refl), (refl, refl, refl, refl, refl, refl, refl, refl))
