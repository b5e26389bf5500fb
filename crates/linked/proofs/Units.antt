-- Calls that tell no value where they are accepted. Assumes nothing.
use Rattle.std.proofs.Common.{◌≡◌, [], Ok, Err, Result, refl, sym, ap, ◌∙◌}
use Rattle.serial.specs.declared.fault.CallFault.{CallFault}
use Rattle.serial.specs.declared.fault.Accepted.{Accepted}
use Rattle.serial.specs.Rules.{State, Done}
use Rattle.engine.specs.Calls.{answers_by}
use Rattle.linked.specs.declared.told.Told.{Told}
use Rattle.linked.specs.Told.{told, answer_told, done_told, unit_told_by}

module _ (a : Accepted) (none : answer_told (Ok a) ≡ told 0 []) where
  unit_answer : (r : Result (Unit {0}) CallFault) → answer_told (answers_by (λ x. a) r) ≡ unit_told_by r
  unit_answer (Ok x) = none
  unit_answer (Err f) = refl

  -- what such a call does, and what is told of it
  pub unit_done : (d : Done) (after : State) (r : Result (Unit {0}) CallFault) (t : Told) → d ≡ (after, answers_by (λ x. a) r) → t ≡ unit_told_by r → done_told d ≡ (after, t)
  unit_done d after r t rule was =
      ap done_told rule ∙ ap (λ (q : Told). (after, q)) (unit_answer r ∙ sym was)
