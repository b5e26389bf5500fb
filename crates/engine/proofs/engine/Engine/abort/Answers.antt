use Rattle.std.proofs.Common.{◌≡◌, true, [], Ok, sym, ◌∙◌}
use Rattle.serial.specs.declared.fault.Accepted.TheVariants.{Aborted}
use Rattle.serial.specs.Rules.{abort, is_open, closed}
use Rattle.serial.proofs.Outcomes.{abort_by}
use Rattle.engine.specs.Table.{engine_of}
use Rattle.engine.specs.Calls.{state_of}
use Rattle.engine.proofs.Kept.{kept_by, idle}
use Rattle.engine.proofs.engine.Engine.abort.Goals as goal

pub invariant_of-self : goal.invariant_of-self
invariant_of-self c =
    let e = engine_of c.args.self.now.table in
    let t = c.in_ok-t.t in
    let is = c.in_ok-t.ensures in
    let opened : is_open e t ≡ true = sym c.is_open.ensures ∙ c.if-not-is_open.false in
    kept_by idle (abort t) c.args.self.now [] [] c.close_slot.new.self (closed e t e.shadows) (Ok Aborted)
    (abort_by (state_of c.args.self.now []) t is.1 opened)
    c.close_slot.ensures
