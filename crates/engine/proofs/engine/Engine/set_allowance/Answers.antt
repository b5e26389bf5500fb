use Rattle.std.proofs.Common.{◌≡◌, ◌≤◌, [], Some, None, Ok, Err, sym, ap, ◌∙◌, arith}
use Rattle.serial.specs.Rules.{Engine, first_open, set_allowance}
use Rattle.serial.specs.declared.fault.CallFault.TheVariants.{SlotsOpen}
use Rattle.serial.specs.declared.fault.Accepted.TheVariants.{Allowed}
use Rattle.serial.proofs.Outcomes.{allow_by}
use Rattle.engine.specs.Table.{engine_of, with_allowance}
use Rattle.engine.specs.Calls.{state_of}
use Rattle.engine.proofs.Tables.{first_found}
use Rattle.engine.proofs.Kept.{kept_by, idle}
use Rattle.engine.proofs.Continues.{over_any}
use Rattle.engine.proofs.engine.Engine.set_allowance.Goals as goal

pub invariant_of-self : goal.invariant_of-self
invariant_of-self c =
    let e = engine_of c.args.self.now.table in
    let low : 1 ≤ c.args.k = omega arith in
    let high : c.args.k ≤ 8 = omega arith in
    kept_by idle (set_allowance c.args.k) c.args.self.now [] [] c.set_allowance.new.self (with_allowance e c.args.k) (Ok Allowed)
    (allow_by (state_of c.args.self.now []) c.args.k None low high (sym (first_found e c.args.self.now.eight.0) ∙ sym c.first_open.ensures ∙ c.in_default.is))
    c.set_allowance.ensures

pub returns-in-Some-clause-history : goal.returns-in-Some-clause-history
returns-in-Some-clause-history c =
    let e = engine_of c.args.self.now.table in
    let low : 1 ≤ c.args.k = omega arith in
    let high : c.args.k ≤ 8 = omega arith in
    let is : first_open 0 e.scripts ≡ Some c.in-Some.slot = sym (first_found e c.args.self.now.eight.0) ∙ sym c.first_open.ensures ∙ c.in-Some.is in
    over_any _ _ _ _ (λ ar pages. allow_by (state_of c.args.self.now pages) c.args.k (Some c.in-Some.slot) low high is ∙ ap (λ t. (state_of c.args.self.now pages, Err (SlotsOpen t))) (sym c.into.ensures))

pub returns-clause-history : goal.returns-clause-history
returns-clause-history c =
    let e = engine_of c.args.self.now.table in
    let low : 1 ≤ c.args.k = omega arith in
    let high : c.args.k ≤ 8 = omega arith in
    let is : first_open 0 e.scripts ≡ None = sym (first_found e c.args.self.now.eight.0) ∙ sym c.first_open.ensures ∙ c.in_default.is in
    over_any _ _ _ _ (λ ar pages. allow_by (state_of c.args.self.now pages) c.args.k None low high is ∙ ap (λ (x : Engine). (record { engine = x; pages = pages }, Ok Allowed)) (sym c.set_allowance.ensures))
