-- The signature that an honest write makes for its Commit is one that everybody accepts, and the write that has it is as it should be.
use mathlib.Core.Path.{◌≡◌, refl, ap, ap₂, sym, ◌∙◌}
use mathlib.Core.Bool.{true, false}
use mathlib.Core.List.{List, ◌++◌}
use Prim.Native.Nat.{ℕ, suc, ◌<◌}
use native.Mathlib.Omega.{arith}
use lib.ListN.{length}
use Rattle.lms.specs.Types.{LMOTS_SHA256_N32_W4, LMS_SHA256_M32_H10}
use Rattle.lms.specs.Tree.{tree_bytes, tree_size}
use Rattle.lms.specs.Signature.{signature, signature_size}
use Rattle.lms.specs.Check.{check_of, is_valid}
use Rattle.lms.specs.Claims.{RoundTrip, SignatureLength}
use Rattle.lms.proofs.RoundTrip.{round_trip, set-fits, signature-length}
use Rattle.tree.specs.Expr.{entry_text}
use Rattle.tree.specs.Message.{signed_text}
use Rattle.user_list.specs.Users.{user_key, longest_signature}
use Rattle.user_list.proofs.Lists.{one-length}
use Rattle.tree.proofs.Cases.{cases_eq, not_both}
use Rattle.user.specs.declared.call.Kept.{Kept}
use Rattle.user.specs.Outcome.{State}
use Rattle.user.proofs.Ranges.{ProgressInRange}
use Rattle.user_write.specs.Write.{handing, commit_signature}
use Rattle.honest_run.specs.Network.{HonestSetup, InRange, generated_key, public_of, public_to}
use Rattle.whole_run.specs.Runs.{set}
use Rattle.honest_run.proofs.Invariant.{Item, texts, digest_of, SignedOk, OpenOk, valid_at}
use Rattle.honest_run.proofs.Log.{same_hash, same_digest}
use Rattle.honest_run.proofs.Frames.{set_same, set_other}
use Rattle.honest_run.proofs.Keys.{own_key, tree_size_lem}
use Rattle.honest_run.proofs.Bodies.{path-digest}
use Rattle.honest_run.proofs.Writes.{signed_state}

-- an item with another signature
abbrev pub signed_item : Item → List ℕ → Item
signed_item x sig = record { author = x.author; entry = x.entry; signature = sig }

-- a log in which place w has this signature has the same texts, and so the same hashes
module _ (L : ℕ → Item) (w : ℕ) (sig : List ℕ) where
  -- the log with this signature at place w
  abbrev pub signed_log : ℕ → Item
  signed_log = set L w (signed_item (L w) sig)

  signed-texts : (i : ℕ) → texts L i ≡ texts signed_log i
  signed-texts i =
      let text : Item → List ℕ = λ x. entry_text x.author x.entry in
      cases_eq i w (λ e. rw e (sym (ap text (set_same L w (signed_item (L w) sig)))))
      (λ n. sym (ap text (set_other L w (signed_item (L w) sig) i n)))

-- the signature that user a makes with its own key and this number
module _ (c : HonestSetup) (r : InRange c) (a number : ℕ) (randomizer text : List ℕ) (spare : number < 1024) (random : length randomizer ≡ 32) where
  abbrev made : List ℕ
  made =
      signature LMOTS_SHA256_N32_W4 LMS_SHA256_M32_H10 (c.id a) (c.seed a) number randomizer text
      (tree_bytes LMOTS_SHA256_N32_W4 (LMS_SHA256_M32_H10).h (c.id a) (c.seed a) ++ c.beyond a)

  made_size : length made ≡ longest_signature
  unfolding SignatureLength signature_size generated_key tree_size
  made_size =
      signature-length LMOTS_SHA256_N32_W4 LMS_SHA256_M32_H10 (c.id a) (c.seed a) randomizer text
      (tree_bytes LMOTS_SHA256_N32_W4 (LMS_SHA256_M32_H10).h (c.id a) (c.seed a) ++ c.beyond a) number random spare (omega (arith, tree_size_lem c a))

  made_valid : is_valid (check_of LMOTS_SHA256_N32_W4 LMS_SHA256_M32_H10 (public_of c a) text made) ≡ true
  unfolding RoundTrip public_of
  made_valid =
      ap is_valid (round_trip LMOTS_SHA256_N32_W4 LMS_SHA256_M32_H10 set-fits (c.id a) (c.seed a) randomizer text (c.beyond a) number (r.identified a) random spare)

-- the open write of user a, not signed yet, signs
module _ (c : HonestSetup) (r : InRange c) (L : ℕ → Item) (w g a : ℕ) (begun : List ℕ) (σ : State) (ok : OpenOk c L w g a begun σ)
    (unsigned : σ.kept.signed ≡ false) (randomizer : List ℕ) (random : length randomizer ≡ 32) (i : ℕ)
    (progress : ProgressInRange c.servers (suc w) true (handing (suc σ.kept.version) σ.kept.progress i)) where
  abbrev k : Kept
  k = σ.kept

  abbrev sig : List ℕ
  sig = commit_signature c.log (suc w) (generated_key c a) k.number randomizer σ.path

  abbrev M : ℕ → Item
  M = signed_log L w sig

  abbrev text : List ℕ
  text = signed_text c.log (suc w) (digest_of L (suc w))

  spare : k.number < 1024
  spare = (ok.unsigned unsigned).1

  sig-is : sig ≡ made c r a k.number randomizer text spare random
  unfolding commit_signature generated_key
  sig-is = rw (path-digest L w σ.path ok.path_ok)

  there : M w ≡ signed_item (L w) sig
  there = set_same L w (signed_item (L w) sig)

  own : user_key (public_to c c.count) (L w).author ≡ public_of c a
  own =
      ap (user_key (public_to c c.count)) ok.author
      ∙ own_key c r a (rw ok.author at ok.item.one) (rw ok.author at ok.item.listed)

  signature_size_lem : length sig ≡ longest_signature
  signature_size_lem = ap length sig-is ∙ made_size c r a k.number randomizer text spare random

  -- place w then has a signature that its author's key accepts
  signature_ok : SignedOk c M w
  signature_ok =
      record {
        size = ap (λ (x : Item). length x.signature) there ∙ signature_size_lem ∙ sym (one-length _ _);
        valid =
            ap (λ (x : Item). valid_at c w x (digest_of M (suc w))) there
            ∙ ap (valid_at c w (signed_item (L w) sig))
            (sym (same_digest L M (suc w) (omega arith) (λ i _. signed-texts L w sig i)))
            ∙ ap₂ (λ (x y : List ℕ). is_valid (check_of LMOTS_SHA256_N32_W4 LMS_SHA256_M32_H10 x text y)) own sig-is
            ∙ made_valid c r a k.number randomizer text spare random;
      }

  -- and the write is open as before, with it
  signed_open : OpenOk c M w g a begun (signed_state σ i sig)
  signed_open =
      record {
        version = ok.version;
        within = ok.within;
        item = record {
          one = rw there ok.item.one;
          listed = rw there ok.item.listed;
          some = rw there ok.item.some;
          short = rw there ok.item.short;
        };
        author = ap (λ (x : Item). x.author) there ∙ ok.author;
        entry = ap (λ (x : Item). x.entry) there ∙ ok.entry;
        path_ok = λ l h. ok.path_ok l h ∙ same_hash L M (suc w) l (omega arith) (λ i _. signed-texts L w sig i);
        signed = λ _. (ap (λ (x : Item). x.signature) there, signature_ok);
        unsigned = λ e. not_both true refl e;
        progress = progress;
        unput = λ e. not_both _ (progress.signed_put refl) e;
      }

  -- the signature has its size, and the write is open with it
  pub signs_open : (length sig ≡ longest_signature) × OpenOk c M w g a begun (signed_state σ i sig)
  signs_open = (signature_size_lem, signed_open)
