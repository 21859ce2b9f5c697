use Rattle.lms.specs.Ots.{secret}
use Rattle.lms.proofs.onetime.opened.Goals as goal

pub returns : goal.returns
unfolding secret
returns c =
    let prefix-words = c.prefix_words-p.ensures in
    let link = c.link-x.ensures in
    rw (c.digest.ensures, c.chain.ensures, link, prefix-words)
