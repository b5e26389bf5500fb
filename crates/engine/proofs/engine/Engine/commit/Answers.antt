use Rattle.std.proofs.Common.{◌≡◌, ◌≤◌, length, is_some, Some, None, Ok, sym, ap, ◌∙◌, arith, rules}
use Rattle.script.specs.View.{steps_of}
use Rattle.script.specs.declared.Register.TheVariants.{R0}
use Rattle.serial.specs.declared.fault.Accepted.TheVariants.{Committed}
use Rattle.serial.specs.Machine.{start, holds}
use Rattle.serial.specs.Alone.{put_all}
use Rattle.serial.specs.Rules.{commit, committed, first_off, script_of, shadow}
use Rattle.serial.proofs.Outcomes.{commit_by_puts}
use Rattle.engine.specs.View.{stand_of}
use Rattle.engine.specs.Table.{engine_of}
use Rattle.engine.specs.Calls.{state_of}
use Rattle.engine.proofs.Rows.{there_some}
use Rattle.engine.proofs.Kept.{kept_by, idle}
use Rattle.engine.proofs.Continues.{by_any}
use Rattle.engine.proofs.engine.Engine.commit.Goals as goal

pub shadow_at-lead-requires : goal.shadow_at-lead-requires
shadow_at-lead-requires g c =
    let e = engine_of c.args.self.now.table in
    let t = c.in_ok-t.t in
    let there : script_of e t ≡ Some (steps_of c.in_ok-script.script.now) = search rules in
    record { there = c.args.self.now.led t (ap is_some there) }

pub invariant_of-self : goal.invariant_of-self
invariant_of-self g c =
    let e = engine_of c.args.self.now.table in
    let t = c.in_ok-t.t in
    let pages = g.S.Reader.pages c.args.store.now in
    let lead = stand_of c.shadow_at-lead.result.now in
    let sc = steps_of c.in_ok-script.script.now in
    let there : script_of e t ≡ Some sc = search rules in
    let far : length sc ≤ lead.step = omega (arith, c.if-step-len.false, c.len.ensures.count, c.step.ensures) in
    let none : first_off (length pages) lead.own ≡ None =
    ap (λ n. first_off n lead.own) (sym c.size.ensures) ∙ ap (first_off c.size.result) (sym c.own.ensures) ∙ sym c.first_missing.ensures.rule ∙ c.in_default.is in
    kept_by idle (commit t) c.args.self.now pages (put_all lead.own pages) c.commit_slot.new.self (committed e t lead.own) (Ok (Committed (holds lead R0) (length lead.own)))
    (commit_by_puts (state_of c.args.self.now pages) t sc lead None c.in_ok-t.ensures.1 there (there_some (shadow e t t) start (c.args.self.now.led t (ap is_some there)) ∙ ap Some (sym c.shadow_at-lead.ensures)) far none)
    (c.commit_slot.ensures ∙ ap (committed e t) (c.as_slice.ensures.items ∙ c.own_copy-own.ensures))

pub returns-in-Some-clause-history : goal.returns-in-Some-clause-history
returns-in-Some-clause-history g c = by_any _ _ _ _ (λ _. search rules)

pub returns-clause-history : goal.returns-clause-history
returns-clause-history g c = by_any _ _ _ _ (λ _. search rules)
