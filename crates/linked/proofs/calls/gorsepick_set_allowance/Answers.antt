use Rattle.std.proofs.Common.{refl}
use Rattle.serial.specs.declared.fault.Accepted.TheVariants.{Allowed}
use Rattle.serial.specs.Rules.{allows}
use Rattle.engine.specs.Calls.{state_of}
use Rattle.linked.proofs.Units.{unit_done}
use Rattle.linked.proofs.calls.gorsepick_set_allowance.Goals as goal

pub returns-clause-rule : goal.returns-clause-rule
returns-clause-rule c pages =
    unit_done Allowed refl (allows (state_of c.args.engine.now.engine pages) c.args.allowance) (state_of c.set_allowance.new.self pages) c.set_allowance.result c.told_unit.result
    (rw c.engine.ensures.value at (c.set_allowance.ensures.rule pages)) c.told_unit.ensures
