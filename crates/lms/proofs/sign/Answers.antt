use mathlib.Core.Path.{refl}
use Prim.Native.Nat.{ℕ}
use native.Mathlib.Omega.{arith}
use mir.Syntax.{w8}
use mir.Val.{Fits}
use lib.ListN.{length, get_or}
use borrow.Author.Tests.{le-leb, lt-leb, le-ltb, lt-ltb}
use borrow.Author.Rules.{rules}
use Rattle.lms.specs.Calls.{sign_code, signed}
use Rattle.lms.proofs.Words.{seed_back}
use Rattle.lms.proofs.Growth.{height_held_32}
use Rattle.lms.proofs.ByType.{tree_short}
use Rattle.lms.proofs.sign.Goals as goal

pub returns-then-nodes-tree_size : goal.returns-then-nodes-tree_size
unfolding sign_code signed
returns-then-nodes-tree_size c =
    rw (tree_short _ _ _ c.args.nodes.now c.of-rows.ensures.1 c.tree_size.ensures c.if-nodes-tree_size.true) (refl, refl)

pub returns-then-place-signature_size : goal.returns-then-place-signature_size
unfolding sign_code signed
returns-then-place-signature_size c =
    rw (
      ← c.of-rows.ensures.0,
      ← c.of-rows.ensures.1,
      le-leb _ (length c.args.nodes.now) (rw c.tree_size.ensures at c.if-nodes-tree_size.false),
      lt-leb _ (length c.args.place.now) (rw c.signature_size.ensures at c.if-place-signature_size.true),
    ) (refl, refl)

pub returns-then-rows-number : goal.returns-then-rows-number
unfolding sign_code signed
returns-then-rows-number c =
    let l = c.of-rows.result in
    rw (
      ← c.of-rows.ensures.0,
      ← c.of-rows.ensures.1,
      le-leb _ (length c.args.nodes.now) (rw c.tree_size.ensures at c.if-nodes-tree_size.false),
      le-leb _ (length c.args.place.now) (rw c.signature_size.ensures at c.if-place-signature_size.false),
      le-ltb c.args.number _ (rw (height_held_32 l.lms.h l.is_low) at c.if-rows-number.true),
    ) (refl, refl)

pub signature-requires : goal.signature-requires
signature-requires c =
    let l = c.of-rows.result in (
      rw (height_held_32 l.lms.h l.is_low) at c.if-rows-number.false,
      (
        rw c.tree_size.ensures at c.if-nodes-tree_size.false,
        rw c.signature_size.ensures at c.if-place-signature_size.false,
      ),
    )

pub returns : goal.returns
unfolding sign_code signed
returns c =
    let l = c.of-rows.result in
    let f : (j : ℕ) → Fits w8 (get_or c.args.seed j 0) = λ j. search rules in
    let back = seed_back c.args.seed (λ j. omega (arith, f j)) (search rules) in
    rw (
      ← c.of-rows.ensures.0,
      ← c.of-rows.ensures.1,
      le-leb _ (length c.args.nodes.now) (rw c.tree_size.ensures at c.if-nodes-tree_size.false),
      le-leb _ (length c.args.place.now) (rw c.signature_size.ensures at c.if-place-signature_size.false),
      lt-ltb c.args.number _ (rw (height_held_32 l.lms.h l.is_low) at c.if-rows-number.false),
      c.signature.ensures,
      c.words.ensures,
      back,
    ) (refl, refl)
