use Rattle.std.proofs.Common.{◌≡◌, false, [], Ok, sym, ◌∙◌}
use Rattle.script.specs.View.{steps_of}
use Rattle.serial.specs.declared.fault.Accepted.TheVariants.{Begun}
use Rattle.serial.specs.Rules.{begin, begun, is_open}
use Rattle.serial.proofs.Outcomes.{begin_by}
use Rattle.engine.specs.Table.{engine_of}
use Rattle.engine.specs.Calls.{state_of}
use Rattle.engine.proofs.Kept.{kept_by, idle}
use Rattle.engine.proofs.engine.Engine.begin.Goals as goal

pub invariant_of-self : goal.invariant_of-self
invariant_of-self c =
    let e = engine_of c.args.self.now.table in
    let t = c.in_ok-t.t in
    let is = c.in_ok-t.ensures in
    let free : is_open e t ≡ false = sym c.is_open.ensures ∙ c.if-is_open.false in
    let script = steps_of c.in_ok-steps.steps in
    kept_by idle (begin t c.args.script.now) c.args.self.now [] [] c.open_slot.new.self (begun e t script) (Ok Begun)
    (begin_by (state_of c.args.self.now []) t c.args.script.now (Ok script) is.1 free c.in_ok-steps.ensures.rule)
    c.open_slot.ensures
