use Rattle.known_runs.proofs.Hold.{known_runs_hold}
use Rattle.known_runs.proofs.known_runs_hold.Goals as goal

pub returns : goal.returns
returns c = known_runs_hold
