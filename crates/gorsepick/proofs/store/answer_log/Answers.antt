use Rattle.arithmetic.specs.Words.{delivered}
use Rattle.gorsepick.proofs.OverWords.{log_answered, log_lender}
use Rattle.gorsepick.proofs.store.answer_log.Goals as goal

pub returns-clause-answered : goal.returns-clause-answered
returns-clause-answered c =
    log_answered (delivered c.args.arithmetic) c.args.request c.args.store.now c.answer.new.store c.answer.result c.answer.ensures.answered

pub returns-clause-lender : goal.returns-clause-lender
returns-clause-lender c =
    log_lender (delivered c.args.arithmetic) c.args.request c.args.store.now c.answer.new.store c.answer.result c.answer.ensures.answered c.answer.ensures.failed
