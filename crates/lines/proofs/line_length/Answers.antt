use mathlib.Core.Path.{◌≡◌, refl}
use mathlib.Core.Bool.{Bool, true, false, cond}
use Prim.Native.Nat.{ℕ}
use borrow.Author.Tests.{lt-ltb, le-ltb, eq-eqb, ne_eqb}
use Rattle.lines.specs.Text.{line_feed, ends_with_return, line_length}
use Rattle.lines.proofs.line_length.Goals as goal

same-either-way : (b : Bool) (n : ℕ) → n ≡ cond b n n
same-either-way true n = refl
same-either-way false n = refl

pub returns-then-text-feed : goal.returns-then-text-feed
unfolding line_feed ends_with_return line_length
returns-then-text-feed c = rw (← c.find-feed.ensures.0, le-ltb _ _ c.if-text-feed.true)

pub returns-then-feed-eq0 : goal.returns-then-feed-eq0
unfolding line_feed line_length
returns-then-feed-eq0 c =
    let text = c.args.text.now in
    rw (← c.find-feed.ensures.0, c.if-feed-eq0.true) (same-either-way (ends_with_return text) 0)

pub returns-then-text-feed-eq13 : goal.returns-then-text-feed-eq13
unfolding line_feed ends_with_return line_length
returns-then-text-feed-eq13 c =
    let find-0 = c.find-feed.ensures.0 in
    let if1-left = c.if-text-feed.false in
    rw (← find-0, lt-ltb _ _ if1-left, eq-eqb _ 13 c.if-text-feed-eq13.true)

pub returns : goal.returns
unfolding line_feed ends_with_return line_length
returns c =
    let find-0 = c.find-feed.ensures.0 in
    let if1-left = c.if-text-feed.false in
    rw (← find-0, lt-ltb _ _ if1-left, ne_eqb _ 13 c.if-text-feed-eq13.false)
