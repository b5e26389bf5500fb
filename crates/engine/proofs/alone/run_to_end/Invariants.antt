use Rattle.std.proofs.Common.{◌-◌, length}
use Rattle.script.specs.View.{steps_of}
use Rattle.serial.specs.Laws.{Leads}
use Rattle.serial.specs.Machine.{start}
use Rattle.engine.specs.View.{stand_of}
use Rattle.engine.proofs.alone.run_to_end.Given as goal

-- the shadow stands where the run alone leads
abbrev pub invariant-loop-step : goal.invariant-loop-step
invariant-loop-step g l =
    Leads (g.A.Arithmetic.meaning l.machine.arithmetic.now) (steps_of l.script) (g.R.Reader.pages l.machine.reader.now) start (stand_of l.shadow)

abbrev pub decreases-loop-step : goal.decreases-loop-step
decreases-loop-step g l = length (steps_of l.script) - l.shadow.step
