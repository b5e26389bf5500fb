-- What the engine's calls promise. Assumes nothing.
use Rattle.std.specs.Prelude.{◌≡◌, ℕ, List, Ok, Err, Result}
use Rattle.pages.specs.Pages.{Chain}
use Rattle.pages.specs.declared.WriteEntry.{WriteEntry}
use Rattle.serial.specs.declared.fault.CallFault.{CallFault}
use Rattle.serial.specs.declared.fault.Turned.{Turned}
use Rattle.serial.specs.declared.fault.Turned.TheVariants.{Moved, Ended, Waiting}
use Rattle.serial.specs.declared.fault.Accepted.{Accepted}
use Rattle.serial.specs.declared.fault.Accepted.TheVariants.{Allowed, Begun, Took, Committed, Aborted}
use Rattle.serial.specs.Faults.{Answer}
use Rattle.serial.specs.Rules.{State}
use Rattle.engine.specs.Table.{engine_of}
use Rattle.engine.specs.declared.engine.Engine.{Engine as Held}

-- the engine, and the pages that it is called with
abbrev pub state_of : Held → List ℕ → State
state_of e pages = record { engine = engine_of e.table; pages = pages }

-- what a call's result is as an answer
abbrev pub answers_by : {X : Type 0} → (X → Accepted) → Result X CallFault → Answer
answers_by f (Ok x) = Ok (f x)
answers_by f (Err fault) = Err fault

-- a commit's pair as what it answers
abbrev pub committing : ℕ × ℕ → Accepted
committing x = Committed x.0 x.1

-- a commit puts the leading shadow's list, in its order; a declined one leaves the store as it was
abbrev pub PutsList : {S : Type 0} → (S → ℕ → ℕ → S → Type 0) → List WriteEntry → S → Result (ℕ × ℕ) CallFault → S → Type 0
PutsList wrote own s (Ok x) t = Chain wrote s own t
PutsList wrote own s (Err fault) t = t ≡ s

-- what holds of a turn that is accepted and takes no step, by what it answers
abbrev pub OnNoStep : Result Turned CallFault → Type 0 → Type 0
OnNoStep (Ok Moved) P = Unit {0}
OnNoStep (Ok Ended) P = P
OnNoStep (Ok Waiting) P = P
OnNoStep (Err fault) P = Unit {0}

-- the same of any call, by its answer
abbrev pub OnStill : Answer → Type 0 → Type 0
OnStill (Ok Allowed) P = Unit {0}
OnStill (Ok Begun) P = Unit {0}
OnStill (Ok (Took how)) P = OnNoStep (Ok how) P
OnStill (Ok (Committed word pages)) P = Unit {0}
OnStill (Ok Aborted) P = Unit {0}
OnStill (Err fault) P = Unit {0}
