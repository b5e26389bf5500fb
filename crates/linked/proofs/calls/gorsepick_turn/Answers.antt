use Rattle.std.proofs.Common.{rules}
use Rattle.linked.proofs.History.{turn_told}
use Rattle.linked.proofs.calls.gorsepick_turn.Goals as goal

pub returns-then-log-clause-history : goal.returns-then-log-clause-history
returns-then-log-clause-history c = turn_told _ _ _ _ _ _ (search rules)

pub returns-else-log-clause-history : goal.returns-else-log-clause-history
returns-else-log-clause-history c = turn_told _ _ _ _ _ _ (search rules)
