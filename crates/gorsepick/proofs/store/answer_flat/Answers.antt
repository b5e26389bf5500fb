use Rattle.arithmetic.specs.Words.{delivered}
use Rattle.gorsepick.proofs.OverWords.{flat_answered, flat_lender}
use Rattle.gorsepick.proofs.store.answer_flat.Goals as goal

pub returns-clause-answered : goal.returns-clause-answered
returns-clause-answered c =
    flat_answered (delivered c.args.arithmetic) c.args.request c.args.store.now c.answer.new.store c.answer.result c.answer.ensures.answered

pub returns-clause-lender : goal.returns-clause-lender
returns-clause-lender c =
    flat_lender (delivered c.args.arithmetic) c.args.request c.args.store.now c.answer.new.store c.answer.result c.answer.ensures.answered c.answer.ensures.failed
