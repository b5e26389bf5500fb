use Rattle.linked.proofs.Host.{log_chain}
use Rattle.linked.proofs.calls.commit_log.Goals as goal

pub returns-clause-words : goal.returns-clause-words
returns-clause-words c = (log_chain _ _ _ c.commit_to.ensures.puts).0

pub returns-clause-lender : goal.returns-clause-lender
returns-clause-lender c = (log_chain _ _ _ c.commit_to.ensures.puts).1
