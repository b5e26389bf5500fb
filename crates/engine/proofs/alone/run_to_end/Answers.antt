use Rattle.std.proofs.Common.{◌≡◌, ◌<◌, length, Some, None, sym, subst, arith}
use Rattle.std.proofs.iter.runs.Lists.{slice_get_within}
use Rattle.std.proofs.lemmas.Result.{err_from_is_err_and}
use Rattle.script.specs.View.{steps_of}
use Rattle.serial.specs.Machine.{start, takes}
use Rattle.serial.specs.Laws.{Leads, here}
use Rattle.serial.proofs.Runs.{leads_snoc, next-rises}
use Rattle.engine.specs.View.{stand_of}
use Rattle.engine.proofs.Stands.{start-sound, leads-sound}
use Rattle.engine.proofs.Ends.{looked_up, advanced_ok, next_taken, next-room, run_ends, run_faults}
use Rattle.engine.proofs.alone.run_to_end.Goals as goal

pub loop-step-init : goal.loop-step-init
loop-step-init g c =
    let ar = g.A.Arithmetic.meaning c.args.machine.now.arithmetic.now in
    let pages = g.R.Reader.pages c.args.machine.now.reader.now in
    subst (λ s. Leads ar (steps_of c.args.script.now) pages start s) (sym c.start-shadow.ensures) here

pub advance-requires : goal.advance-requires
advance-requires g c =
    let ar = g.A.Arithmetic.meaning c.args.machine.now.arithmetic.now in
    let pages = g.R.Reader.pages c.args.machine.now.reader.now in
    let script = steps_of c.args.script.now in
    let at = looked_up script c.step.result c.loop-step.shadow.step (Some c.in-Some.step) c.step.ensures c.in-Some.ensures in
    next-room ar script pages (stand_of c.loop-step.shadow) c.in-Some.step c.requires.few c.loop-step.invariant at

pub loop-step-smaller : goal.loop-step-smaller
loop-step-smaller g c =
    let ar = g.A.Arithmetic.meaning c.args.machine.now.arithmetic.now in
    let pages = g.R.Reader.pages c.args.machine.now.reader.now in
    let script = steps_of c.args.script.now in
    let s = c.loop-step.shadow in
    let t = c.advance.new.shadow in
    let st = c.in-Some.step in
    let at = looked_up script c.step.result c.loop-step.shadow.step (Some c.in-Some.step) c.step.ensures c.in-Some.ensures in
    let moves = next_taken ar script pages (stand_of s) (stand_of t) st at (advanced_ok s t (takes ar pages st (stand_of s)) c.in_ok-advance.ensures) in
    let low : s.step < length script = slice_get_within script s.step st at in
    let rises : s.step < t.step = next-rises ar script pages (stand_of s) (stand_of t) moves in
    omega arith

pub loop-step-preserved : goal.loop-step-preserved
loop-step-preserved g c =
    let ar = g.A.Arithmetic.meaning c.args.machine.now.arithmetic.now in
    let pages = g.R.Reader.pages c.args.machine.now.reader.now in
    let script = steps_of c.args.script.now in
    let s = c.loop-step.shadow in
    let t = c.advance.new.shadow in
    let st = c.in-Some.step in
    let at = looked_up script c.step.result c.loop-step.shadow.step (Some c.in-Some.step) c.step.ensures c.in-Some.ensures in
    let moves = next_taken ar script pages (stand_of s) (stand_of t) st at (advanced_ok s t (takes ar pages st (stand_of s)) c.in_ok-advance.ensures) in
    leads_snoc ar script pages (stand_of t) c.loop-step.invariant moves

pub returns-in_err-advance : goal.returns-in_err-advance
returns-in_err-advance g c =
    let ar = g.A.Arithmetic.meaning c.args.machine.now.arithmetic.now in
    let pages = g.R.Reader.pages c.args.machine.now.reader.now in
    let script = steps_of c.args.script.now in
    let at = looked_up script c.step.result c.loop-step.shadow.step (Some c.in-Some.step) c.step.ensures c.in-Some.ensures in
    let p = err_from_is_err_and {Q = λ f. f ≡ c.in_err-advance.field-0.0} c.from_residual.result c.from_residual.ensures.1 in
    rw (p.1, p.2) (run_faults ar script pages c.loop-step.shadow c.advance.new.shadow c.in-Some.step c.in_err-advance.field-0.0 c.loop-step.invariant at c.in_err-advance.ensures)

pub returns : goal.returns
returns g c =
    let ar = g.A.Arithmetic.meaning c.args.machine.now.arithmetic.now in
    let pages = g.R.Reader.pages c.args.machine.now.reader.now in
    let script = steps_of c.args.script.now in
    let s = stand_of c.loop-step.shadow in
    let none = looked_up script c.step.result c.loop-step.shadow.step None c.step.ensures c.in_default.ensures in (
      run_ends ar script pages s c.requires.ends c.loop-step.invariant none,
      (leads-sound ar script pages c.loop-step.invariant (start-sound pages)).inside,
    )
