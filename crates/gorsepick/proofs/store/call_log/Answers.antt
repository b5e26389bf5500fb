use Rattle.gorsepick.proofs.OverWords.{log_chain}
use Rattle.gorsepick.proofs.store.call_log.Goals as goal

pub returns-clause-puts : goal.returns-clause-puts
returns-clause-puts c = (log_chain _ _ _ c.call.ensures.puts).0

pub returns-clause-lender : goal.returns-clause-lender
returns-clause-lender c = (log_chain _ _ _ c.call.ensures.puts).1
