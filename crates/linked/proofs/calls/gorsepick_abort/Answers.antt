use Rattle.std.proofs.Common.{refl}
use Rattle.serial.specs.declared.fault.Accepted.TheVariants.{Aborted}
use Rattle.serial.specs.Rules.{aborts}
use Rattle.engine.specs.Calls.{state_of}
use Rattle.linked.proofs.Units.{unit_done}
use Rattle.linked.proofs.calls.gorsepick_abort.Goals as goal

pub returns-clause-rule : goal.returns-clause-rule
returns-clause-rule c pages =
    unit_done Aborted refl (aborts (state_of c.args.engine.now.engine pages) c.args.slot) (state_of c.abort.new.self pages) c.abort.result c.told_unit.result
    (rw c.engine.ensures.value at (c.abort.ensures.rule pages)) c.told_unit.ensures
