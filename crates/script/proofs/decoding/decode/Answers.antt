use Rattle.std.proofs.Common.{◌≡◌, ◌+◌, ◌-◌, ◌<◌, List, ℕ, drop, None, Ok, Err, Result, sym, ◌∙◌, subst, arith, length-take, rules}
use Rattle.std.specs.Prelude.{MatchResult}
use Rattle.basics.specs.Trail.{items_of}
use Rattle.script.specs.declared.Script.{Script}
use Rattle.script.specs.declared.ScriptFault.{ScriptFault}
use Rattle.script.specs.declared.ScriptFault.TheVariants.{Undefined}
use Rattle.script.specs.Script.{step_at, steps_told, decoded}
use Rattle.script.specs.View.{steps_of}
use Rattle.script.proofs.Decoded.{Fit, size_facts, steps_stop, decoded-fit}
use Rattle.script.proofs.decoding.decode.Goals as goal

abbrev Answers : List ℕ → Result Script ScriptFault → Type 0
Answers bs r = MatchResult r (λ s. decoded bs ≡ Ok (steps_of s)) (λ f. decoded bs ≡ Err f)

pub returns-in_err-step-clause-rule : goal.returns-in_err-step-clause-rule
returns-in_err-step-clause-rule c =
    let bs = c.args.bytes.now in
    let n = c.in_ok-n.n in
    let f : Fit bs n = size_facts bs n (search rules) in
    let within : c.loop-i.i < steps_told bs = omega (arith, f.size, c.loop-i-test.true, length-take (1 + n - 1) (drop 1 bs)) in
    let none : step_at bs c.loop-i.i ≡ None = search rules in
    let told : c.from_residual-in_err-step.result ≡ Err (Undefined c.loop-i.i) = search rules in
    subst (Answers bs) (sym told) (decoded-fit bs f.fits ∙ steps_stop bs c.loop-i.i (steps_told bs) (items_of c.loop-i.steps) within c.loop-i.invariant.0 none)
