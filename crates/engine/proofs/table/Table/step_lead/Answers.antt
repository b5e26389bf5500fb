use Rattle.std.proofs.Common.{◌≡◌, length, Some, Ok, sym, ap, ◌∙◌, subst}
use Rattle.std.specs.Option.{option_or}
use Rattle.serial.specs.Machine.{start, takes, store_read}
use Rattle.serial.specs.Rules.{shadow}
use Rattle.engine.specs.View.{stand_of, Room}
use Rattle.engine.specs.Table.{engine_of, checked, lead_takes, Stepped}
use Rattle.engine.proofs.Rows.{there_some}
use Rattle.engine.proofs.Turns.{passed, never_stops, lead_there, lead_room, lead_stepped, lead_moved}
use Rattle.engine.proofs.table.Table.step_lead.Goals as goal

pub step-requires : goal.step-requires
step-requires g c =
    let b = c.args.self.now in
    let m = c.before_step.new.self in
    let s = stand_of c.shadow_at-lead.result.now in
    let there : shadow (engine_of b) c.args.t c.args.t ≡ Some s = there_some (shadow (engine_of b) c.args.t c.args.t) start c.requires.there ∙ ap (λ x. Some x) (sym c.shadow_at-lead.ensures) in
    record {
      there = lead_there b m c.args.t c.args.step.now s c.store_read-read.result there c.before_step.ensures;
      room = lead_room b m c.args.t c.args.step.now s c.store_read-read.result there c.before_step.ensures (subst Room (sym c.shadow_at-lead.ensures) c.requires.room);
    }

pub returns-in_err-step : goal.returns-in_err-step
returns-in_err-step g c =
    let ar = g.A.Arithmetic.meaning c.args.machine.now.arithmetic.now in
    let pages = g.R.Reader.pages c.args.machine.now.reader.now in
    let b = c.args.self.now in
    let m = c.before_step.new.self in
    let s = stand_of c.shadow_at-lead.result.now in
    let there : shadow (engine_of b) c.args.t c.args.t ≡ Some s = there_some (shadow (engine_of b) c.args.t c.args.t) start c.requires.there ∙ ap (λ x. Some x) (sym c.shadow_at-lead.ensures) in
    let k = takes ar pages c.args.step.now s in
    let st = Some c.args.step.now in
    let needed =
    c.or.ensures ∙ ap (λ o. option_or o c.write_of-written.result) c.store_read-read.ensures
    ∙ ap (option_or (store_read st s)) c.write_of-written.ensures in
    let goes = passed ar pages s c.args.step.now c.check_page.result c.in_ok-check_page.field-0 (c.check_page.ensures ∙ ap (checked (length pages)) needed) c.in_ok-check_page.was in
    let h = lead_stepped b m c.args.t c.args.step.now s c.store_read-read.result there c.before_step.ensures ar pages c.step.result c.step.new.self c.step.ensures in
    never_stops m c.step.new.self _ k c.step.result c.in_err-step.field-0.0 goes.0 goes.1 h c.in_err-step.was

pub returns : goal.returns
returns g c =
    let ar = g.A.Arithmetic.meaning c.args.machine.now.arithmetic.now in
    let pages = g.R.Reader.pages c.args.machine.now.reader.now in
    let b = c.args.self.now in
    let m = c.before_step.new.self in
    let s = stand_of c.shadow_at-lead.result.now in
    let there : shadow (engine_of b) c.args.t c.args.t ≡ Some s = there_some (shadow (engine_of b) c.args.t c.args.t) start c.requires.there ∙ ap (λ x. Some x) (sym c.shadow_at-lead.ensures) in
    let k = takes ar pages c.args.step.now s in
    let h = lead_stepped b m c.args.t c.args.step.now s c.store_read-read.result there c.before_step.ensures ar pages c.step.result c.step.new.self c.step.ensures in
    subst (λ x. Stepped b (lead_takes (engine_of b) c.args.t c.args.step.now x) (takes ar pages c.args.step.now x) (Ok tt) c.after_step.new.self) c.shadow_at-lead.ensures
    (lead_moved b m c.args.t c.args.step.now s c.store_read-read.result there c.before_step.ensures k c.step.result c.step.new.self c.after_step.new.self
    c.in_ok-step.field-0 c.write_of-written.result c.store_read-read.ensures h c.in_ok-step.was c.after_step.ensures c.write_of-written.ensures)
