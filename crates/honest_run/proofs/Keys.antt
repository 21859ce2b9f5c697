-- The keys of one setup: each user's key is found in the list of all, and settings and what a user keeps are in range.
use mathlib.Core.Path.{◌≡◌, refl, ap, ◌∙◌}
use mathlib.Core.Bool.{true, false}
use Prim.Native.Nat.{ℕ, zero, suc, ◌-◌, ◌*◌, ◌%◌, ◌≤◌, ◌<◌}
use native.Mathlib.Omega.{arith}
use lib.ListN.{length, take, drop, length-append, length-drop}
use lib.Seq.{take_all, take-append-le, drop_at, drop-append-le}
use borrow.Author.Tests.{eq-eqb, le-leb, lt-ltb}
use Rattle.lms.specs.Types.{LMOTS_SHA256_N32_W4, LMS_SHA256_M32_H10}
use Rattle.lms.specs.Tree.{T, tree_bytes, tree_size}
use Rattle.lms.proofs.Nodes.{node-length, tree-length}
use Rattle.lms.proofs.RoundTrip.{key-length}
use Rattle.tree.specs.Setup.{Settings}
use Rattle.user_list.specs.Users.{user_count, user_key, is_listed, list_fits, group_fits, longest_tree, tree_length, signature_count}
use Rattle.user_list.proofs.Lists.{one-tree, one-count}
use Rattle.tree.proofs.Cases.{cases_le, not_both}
use Rattle.server.specs.Checks as server_checks
use Rattle.user.specs.declared.call.Kept.{Kept}
use Rattle.user.specs.Asking as user_checks
use Rattle.user.specs.Asking.{kept_fits}
use Rattle.user.proofs.Ranges.{ProgressInRange, kept-fits}
use Rattle.user_write.specs.Write.{number_left}
use Rattle.honest_run.specs.Network.{HonestSetup, InRange, generated_key, public_of, public_to, settings_in}

-- the key's tree as key generation leaves it
pub tree_size_lem : (c : HonestSetup) (a : ℕ) → longest_tree ≤ length (generated_key c a).tree
unfolding generated_key tree_size
tree_size_lem c a =
    omega (
      arith,
      length-append (tree_bytes LMOTS_SHA256_N32_W4 (LMS_SHA256_M32_H10).h (c.id a) (c.seed a)) (c.beyond a),
      tree-length LMOTS_SHA256_N32_W4 (LMS_SHA256_M32_H10).h (c.id a) (c.seed a),
    )

-- 21: it is as long as the list says
pub tree-room : (s : Settings) (tree : ℕ) → longest_tree ≤ tree → tree_length s.users s.own ≤ tree
tree-room s tree h = omega (arith, one-tree s.users s.own)

module _ (s : Settings) (k : Kept) where
  -- 17: a number is left
  pub left-number : k.number < 1024 → number_left s k ≡ true
  unfolding number_left
  left-number h = lt-ltb k.number (signature_count s.users s.own) (omega (arith, one-count s.users s.own))

  -- what a user keeps is in range, with no write open
  pub kept-fits_shut : k.opened ≡ false → k.version ≤ 1048576 → k.number ≤ 1024 → kept_fits s k ≡ true
  kept-fits_shut shut low few =
      kept-fits s k
      (record {
        version = low;
        number = omega (arith, few, one-count s.users s.own);
        opened = λ o. not_both k.opened o shut;
        progress = λ o. not_both k.opened o shut;
      })

  -- what a user keeps is in range, with a write open
  pub kept-fits_open : k.version < 1048576 → k.number ≤ 1024 → ProgressInRange s.servers (suc k.version) k.signed k.progress
      → kept_fits s k ≡ true
  kept-fits_open low few progress =
      let number = one-count s.users s.own in
      kept-fits s k (record { version = omega arith; number = omega arith; opened = λ _. low; progress = λ _. progress })

module _ (c : HonestSetup) (r : InRange c) where
  -- a public key has 56 bytes, and k of them 56 * k
  key_size : (a : ℕ) → length (public_of c a) ≡ 56
  unfolding public_of
  key_size a =
      key-length LMOTS_SHA256_N32_W4 LMS_SHA256_M32_H10 (c.id a)
      (T LMOTS_SHA256_N32_W4 (LMS_SHA256_M32_H10).h (c.id a) (c.seed a) 1) (r.identified a)
      (node-length LMOTS_SHA256_N32_W4 (LMS_SHA256_M32_H10).h (c.id a) (c.seed a) 1)

  public_length : (k : ℕ) → length (public_to c k) ≡ 56 * k
  unfolding public_to
  public_length zero = refl
  public_length (suc k) = length-append (public_to c k) (public_of c (suc k)) ∙ omega (arith, public_length k, key_size (suc k))

  -- there are as many keys as users
  pub user-count : user_count (public_to c c.count) ≡ c.count
  unfolding user_count
  user-count = omega (arith, public_length c.count)

  -- among the keys of users 1 to k, the one at a's place is a's
  key-at-end : (k : ℕ) → user_key (public_to c (suc k)) (suc k) ≡ public_of c (suc k)
  unfolding user_key public_to
  key-at-end k =
      let e : length (public_to c k) ≡ 56 * (suc k - 1) = omega (arith, public_length k) in
      ap (take 56) (drop_at (public_to c k) (public_of c (suc k)) (56 * (suc k - 1)) e)
      ∙ take_all 56 (public_of c (suc k)) (omega (arith, key_size (suc k)))

  key-before : (k a : ℕ) → 1 ≤ a → a ≤ k → user_key (public_to c (suc k)) a ≡ user_key (public_to c k) a
  unfolding user_key public_to
  key-before k a one h =
      let n = public_length k in
      let d = length-drop (56 * (a - 1)) (public_to c k) in
      ap (take 56) (drop-append-le (56 * (a - 1)) (public_to c k) (public_of c (suc k)) (omega arith))
      ∙ take-append-le 56 (drop (56 * (a - 1)) (public_to c k)) (public_of c (suc k)) (omega arith)

  key_among : (k a : ℕ) → 1 ≤ a → a ≤ k → user_key (public_to c k) a ≡ public_of c a
  key_among zero a one h = absurd (omega arith)
  key_among (suc k) a one h =
      cases_le a k (λ l. key-before k a one l ∙ key_among k a one l)
      (λ l. let e : a ≡ suc k = omega arith in rw e (key-at-end k))

  -- the key at a's place is user a's
  pub own_key : (a : ℕ) → 1 ≤ a → a ≤ c.count → user_key (public_to c c.count) a ≡ public_of c a
  own_key a one h = key_among c.count a one h

  -- the group, and with it each user and server, has settings in range
  group_ok : group_fits c.servers (public_to c c.count) ≡ true
  unfolding group_fits list_fits
  group_ok =
      let n = public_length c.count in
      let whole : length (public_to c c.count) % 56 ≡ 0 = omega arith in
      rw (
        le-leb 2 c.servers r.two,
        le-leb c.servers 16 r.sixteen,
        eq-eqb (length (public_to c c.count) % 56) 0 whole,
        user-count,
        le-leb 1 c.count r.one,
        le-leb c.count 64 r.sixty_four,
      )

  -- so each user has settings in range
  pub user-settings : (a : ℕ) → 1 ≤ a → a ≤ c.count → user_checks.user_settings_fit (settings_in c a) ≡ true
  unfolding user_checks.user_settings_fit is_listed
  user-settings a one h = rw (group_ok, user-count, le-leb 1 a one, le-leb a c.count h)

  -- and each server
  pub server-settings : (s : ℕ) → 1 ≤ s → s ≤ c.servers → server_checks.server_settings_fit c.servers s (public_to c c.count) ≡ true
  unfolding server_checks.server_settings_fit
  server-settings s one h = rw (group_ok, le-leb 1 s one, le-leb s c.servers h)
