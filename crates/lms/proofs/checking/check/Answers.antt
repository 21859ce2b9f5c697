use borrow.Author.Rules.{rules}
use Rattle.lms.specs.Check.{check_of}
use Rattle.lms.proofs.checking.check.Goals as goal

pub returns-then-not-key_fits : goal.returns-then-not-key_fits
unfolding check_of
returns-then-not-key_fits c = search rules

pub returns-then-not-signature_fits : goal.returns-then-not-signature_fits
unfolding check_of
returns-then-not-signature_fits c = search rules

pub returns-then-not-same : goal.returns-then-not-same
unfolding check_of
returns-then-not-same c = search rules

pub returns : goal.returns
unfolding check_of
returns c = search rules
