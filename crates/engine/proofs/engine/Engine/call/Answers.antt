use Rattle.std.proofs.Common.{◌≡◌, rules}
use Rattle.serial.specs.declared.fault.Accepted.TheVariants.{Allowed, Begun, Aborted}
use Rattle.serial.proofs.Continued.{continued}
use Rattle.engine.specs.Calls.{answers_by}
use Rattle.engine.proofs.engine.Engine.call.Goals as goal

pub returns-in-SetAllowance-clause-rule : goal.returns-in-SetAllowance-clause-rule
returns-in-SetAllowance-clause-rule g c =
    let pages = g.S.Reader.pages c.args.store.now in
    let told : answers_by (λ x. Allowed) c.set_allowance.result ≡ c.map.result = search rules in
    rw (c.in-SetAllowance.is, ← told) (c.set_allowance.ensures.rule pages)

pub returns-in-Begin-clause-rule : goal.returns-in-Begin-clause-rule
returns-in-Begin-clause-rule g c =
    let pages = g.S.Reader.pages c.args.store.now in
    let told : answers_by (λ x. Begun) c.begin.result ≡ c.map-in-Begin.result = search rules in
    rw (c.in-Begin.is, ← told) (c.begin.ensures.rule pages)

pub returns-in-Abort-clause-rule : goal.returns-in-Abort-clause-rule
returns-in-Abort-clause-rule g c =
    let pages = g.S.Reader.pages c.args.store.now in
    let told : answers_by (λ x. Aborted) c.abort.result ≡ c.map-in-Abort.result = search rules in
    rw (c.in-Abort.is, ← told) (c.abort.ensures.rule pages)

pub returns-in-SetAllowance-clause-history : goal.returns-in-SetAllowance-clause-history
returns-in-SetAllowance-clause-history g c = continued _ _ _ _ _ (returns-in-SetAllowance-clause-rule g c)

pub returns-in-Begin-clause-history : goal.returns-in-Begin-clause-history
returns-in-Begin-clause-history g c = continued _ _ _ _ _ (returns-in-Begin-clause-rule g c)

pub returns-in-Abort-clause-history : goal.returns-in-Abort-clause-history
returns-in-Abort-clause-history g c = continued _ _ _ _ _ (returns-in-Abort-clause-rule g c)
