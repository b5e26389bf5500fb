use Rattle.std.proofs.Common.{ap}
use Rattle.linked.specs.Handle.{holding}
use Rattle.linked.proofs.questions.gorsepick_stand.Goals as goal

-- what lies behind the handle was only read
pub returns-clause-same : goal.returns-clause-same
returns-clause-same c = ap (holding c.args.engine.now) c.engine.ensures.value
