use Rattle.std.proofs.Common.{refl}
use Rattle.serial.specs.declared.fault.Accepted.TheVariants.{Begun}
use Rattle.serial.specs.Rules.{begins}
use Rattle.engine.specs.Calls.{state_of}
use Rattle.linked.proofs.Units.{unit_done}
use Rattle.linked.proofs.calls.gorsepick_begin.Goals as goal

pub returns-clause-rule : goal.returns-clause-rule
returns-clause-rule c pages =
    unit_done Begun refl (begins (state_of c.args.engine.now.engine pages) c.args.slot c.args.script.now) (state_of c.begin.new.self pages) c.begin.result c.told_unit.result
    (rw c.engine.ensures.value at (c.begin.ensures.rule pages)) c.told_unit.ensures
