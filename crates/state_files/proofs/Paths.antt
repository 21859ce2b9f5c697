-- The path of a file as it is laid.
use Rattle.std.proofs.Common.{◌≡◌, ℕ, ◌+◌, ◌<◌, ◌≤◌, List, [], ◌∷◌, ◌++◌, length, refl, ◌∙◌, arith, length-append, le-leb}
use borrow.Author.Tests.{lt-leb}
use Rattle.sha256.specs.Bytes.{written}
use Rattle.sha256.proofs.Laws.{written_after}
use Rattle.state_files.specs.Path.{path, has_path, path_length, path_laid}

module _ (folder name out : List ℕ) where
  abbrev None : Type 0
  None = (0 ≡ path_length folder name out) × (out ≡ path_laid folder name out)

  pub long_folder : 4000 < length folder → None
  unfolding has_path path_length path_laid
  long_folder h = rw (lt-leb (length folder) 4000 h) (refl, refl)

  module _ (f : length folder ≤ 4000) where
    pub long_name : 64 < length name → None
    unfolding has_path path_length path_laid
    long_name h = rw (le-leb (length folder) 4000 f, lt-leb (length name) 64 h) (refl, refl)

    module _ (n : length name ≤ 64) where
      pub no_room : length out < length folder + 1 + length name → None
      unfolding has_path path_length path_laid
      no_room h =
          rw (le-leb (length folder) 4000 f, le-leb (length name) 64 n, lt-leb (length folder + 1 + length name) (length out) h)
          (refl, refl)

      pub path-laid : (half left : List ℕ) → length folder + 1 + length name ≤ length out
          → half ≡ written out 0 (folder ++ (47 ∷ [])) → left ≡ written half (length folder + 1) name
          → (length folder + 1 + length name ≡ path_length folder name out) × (left ≡ path_laid folder name out)
      unfolding has_path path_length path_laid path
      path-laid half left h p q =
          let e : 0 + length (folder ++ (47 ∷ [])) ≡ length folder + 1 = omega (arith, length-append folder (47 ∷ [])) in
          rw (le-leb (length folder) 4000 f, le-leb (length name) 64 n, le-leb (length folder + 1 + length name) (length out) h)
          (refl, q ∙ rw p (written_after out (folder ++ (47 ∷ [])) name 0 (length folder + 1) e h))
