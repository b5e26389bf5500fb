use Rattle.std.proofs.Common.{Ok, [], sym, ap, ◌∙◌, rules}
use Rattle.serial.specs.Machine.{start}
use Rattle.serial.specs.Rules.{turns, script_of, shadow}
use Rattle.serial.proofs.Continued.{continued}
use Rattle.engine.specs.Table.{engine_of}
use Rattle.engine.specs.Calls.{state_of}
use Rattle.engine.specs.Named.{NamedBy, script_at, stand_at}
use Rattle.engine.proofs.Called.{turned_to, turned_kept, turn_answer}
use Rattle.engine.proofs.Rows.{there_some}
use Rattle.engine.proofs.engine.Engine.turn.Goals as goal

pub invariant_of-self : goal.invariant_of-self
invariant_of-self g c =
    let e = engine_of c.args.self.now.table in
    let t = c.in_ok-t.t in let u = c.in_ok-t.u in
    let by : NamedBy e c.args.slot c.args.other (Ok (t, u)) = search rules in
    turned_kept (g.A.Arithmetic.meaning c.args.arithmetic.now) c.args.self.now (g.R.Reader.pages c.args.reader.now) t u by.2 by.3 (script_at e t) (stand_at e t u)
    (there_some (script_of e t) [] by.4) (there_some (shadow e t u) start by.5)
    (sym c.in-Ready.ensures) c.take_turn.result c.take_turn.new.self c.take_turn.ensures

pub returns-in_ok-take_turn-in-Ready-clause-rule : goal.returns-in_ok-take_turn-in-Ready-clause-rule
returns-in_ok-take_turn-in-Ready-clause-rule g c =
    let ar = g.A.Arithmetic.meaning c.args.arithmetic.now in
    let pages = g.R.Reader.pages c.args.reader.now in
    let s = state_of c.args.self.now pages in
    let e = engine_of c.args.self.now.table in
    let t = c.in_ok-t.t in let u = c.in_ok-t.u in
    let by : NamedBy e c.args.slot c.args.other (Ok (t, u)) = search rules in
    let told = turned_to ar c.args.self.now pages t u by.2 by.3 (script_at e t) (stand_at e t u) (there_some (script_of e t) [] by.4) (there_some (shadow e t u) start by.5)
    (sym c.in-Ready.ensures) c.take_turn.result c.take_turn.new.self c.take_turn.ensures in
    ap (λ x. turns ar s x c.args.other) (sym by.0) ∙ ap (λ y. turns ar s t y) (sym by.1) ∙ told.rule
    ∙ ap (λ r. (record { engine = engine_of c.take_turn.new.self; pages = pages }, turn_answer r)) c.in_ok-take_turn-in-Ready.was

pub returns-in_ok-take_turn-in-Ready-clause-history : goal.returns-in_ok-take_turn-in-Ready-clause-history
returns-in_ok-take_turn-in-Ready-clause-history g c = continued _ _ _ _ _ (returns-in_ok-take_turn-in-Ready-clause-rule g c)

pub returns-in_err-take_turn-in-Ready-clause-history : goal.returns-in_err-take_turn-in-Ready-clause-history
returns-in_err-take_turn-in-Ready-clause-history g c = continued _ _ _ _ _ (search rules)

pub returns-in_err-t-clause-history : goal.returns-in_err-t-clause-history
returns-in_err-t-clause-history g c = continued _ _ _ _ _ (search rules)

pub returns-in-AtEnd-clause-history : goal.returns-in-AtEnd-clause-history
returns-in-AtEnd-clause-history g c = continued _ _ _ _ _ (search rules)

pub returns-in-Halted-clause-history : goal.returns-in-Halted-clause-history
returns-in-Halted-clause-history g c = continued _ _ _ _ _ (search rules)
