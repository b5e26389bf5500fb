-- From what a host in C is told of a call to how it goes on with a history. Assumes nothing.
use Rattle.std.proofs.Common.{◌≡◌, ℕ, ap}
use Rattle.serial.specs.Machine.{Meaning}
use Rattle.serial.specs.Rules.{State, turn, turns, commit, commits}
use Rattle.serial.specs.History.{Continued}
use Rattle.serial.proofs.Continued.{continued}
use Rattle.engine.specs.History.{ContinuedByAny}
use Rattle.engine.proofs.Continues.{by_any}
use Rattle.linked.specs.declared.told.Told.{Told}
use Rattle.linked.specs.Told.{done_told}
use Rattle.linked.specs.History.{ToldOf}

-- the answer is the one that the rules give
pub turn_told : (ar : Meaning) (s : State) (t u : ℕ) (s' : State) (told : Told) → done_told (turns ar s t u) ≡ (s', told) → ToldOf (λ a. Continued ar s (turn t u) a s') told
turn_told ar s t u s' told rule =
    let a = (turns ar s t u).1 in
    record { answer = a; tells = ap (λ x. x.1) rule; holds = continued ar s (turn t u) a s' (ap (λ (x : State × Told). (x.0, a)) rule) }

pub commit_told : (s : State) (t : ℕ) (s' : State) (told : Told) → done_told (commits s t) ≡ (s', told) → ToldOf (λ a. ContinuedByAny s (commit t) a s') told
commit_told s t s' told rule =
    let a = (commits s t).1 in
    record { answer = a; tells = ap (λ x. x.1) rule; holds = by_any s (commit t) a s' (λ ar. ap (λ (x : State × Told). (x.0, a)) rule) }
