use Rattle.state_files.specs.Server.{setup_hash}
use Rattle.state_files.proofs.setup.hash.Goals as goal

pub returns : goal.returns
unfolding setup_hash
returns c = c.hash3.ensures
