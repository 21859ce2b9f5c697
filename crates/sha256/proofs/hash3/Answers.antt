use Rattle.sha256.proofs.hash3.Goals as goal

pub returns : goal.returns
returns c =
    let begin = c.begin.ensures in
    let update = c.update.ensures in
    c.finish.ensures _ (c.update-2.ensures _ (update _ begin))
