-- What a call comes to, in words, and that the rules come to the same. Assumes nothing.
use Rattle.std.specs.Prelude.{◌≡◌, ℕ, ◌≤◌, ◌⊎◌, ◌↔◌, List, [], ◌∷◌, ◌++◌, length, Some, None, Ok, Err, Option, Result}
use Rattle.serial.specs.declared.ReadEntry.{ReadEntry}
use Rattle.serial.specs.declared.fault.Accepted.{Accepted}
use Rattle.serial.specs.declared.fault.CallFault.{CallFault}
use Rattle.serial.specs.declared.fault.Standing.{Standing}
use Rattle.serial.specs.Faults.{Answer}
use Rattle.serial.specs.Machine.{Meaning, Steps, Stand}
use Rattle.serial.specs.Rules.{State, Done, Call, does, after, answers, script_of, shadow}
use Rattle.serial.specs.Questions.{stand_told, entry_told}
use Rattle.serial.specs.Sound.{SoundEngine}
use Rattle.serial.specs.Words.{Finds, Accepts}
use Rattle.serial.specs.Refused.{made, question, LeastFits, NoneFits}

-- a call is accepted where no refusal fits; else it is declined with the one of the least number, and nothing changes
abbrev pub Outcome : Meaning → Call → State → Done → Type 0
Outcome ar c s d =
    (NoneFits (made c) s × Accepts ar c s d)
    ⊎ ((f : CallFault) × LeastFits (made c) s f × (d ≡ (s, Err f)))

-- in a sound engine, d is an outcome of the call exactly if it is what the rules give
abbrev pub OneOutcome : Call → Type 0
OneOutcome c = (ar : Meaning) (s : State) (d : Done) → SoundEngine s.engine → Outcome ar c s d ↔ (does ar c s ≡ d)

-- a call is declined with a refusal exactly if that is the one of the least number that fits
abbrev pub DeclinedExactly : Type 0
DeclinedExactly =
    (ar : Meaning) (c : Call) (s : State) (f : CallFault) → SoundEngine s.engine
    → ((does ar c s).1 ≡ Err f) ↔ LeastFits (made c) s f

-- and accepted exactly if none fits
abbrev pub AcceptedExactly : Type 0
AcceptedExactly =
    (ar : Meaning) (c : Call) (s : State) → SoundEngine s.engine
    → ((how : Accepted) × ((does ar c s).1 ≡ Ok how)) ↔ NoneFits (made c) s

-- a list of calls takes s to s' and answers so, each with its outcome
abbrev pub CallsRun : Meaning → List Call → State → List Answer → State → Type 0
CallsRun ar [] s [] s' = s' ≡ s
CallsRun ar [] s (a ∷ told) s' = ⊥
CallsRun ar (c ∷ cs) s [] s' = ⊥
CallsRun ar (c ∷ cs) s (a ∷ told) s' = (m : State) × Outcome ar c s (m, a) × CallsRun ar cs m told s'

-- the answers to a list of calls and the state after it, in words, are exactly those of the rules
abbrev pub OneRun : Type 0
OneRun =
    (ar : Meaning) (cs : List Call) (s : State) (told : List Answer) (s' : State) → SoundEngine s.engine
    → CallsRun ar cs s told s' ↔ ((answers ar cs s ≡ told) × (after ar cs s ≡ s'))

-- a question about t's shadow for u: if no refusal fits, `Says` holds of the slot's script, the shadow and the answer; else the
-- refusal is the one of the least number that fits
abbrev pub AnswersQuestion : {X : Type 0} → State → ℕ → ℕ → (Steps → Stand → X → Type 0) → Result X CallFault → Type 0
AnswersQuestion s t u Says (Ok x) =
    NoneFits (question t u) s
    × ((script : Steps) × (at : Stand) × (script_of s.engine t ≡ Some script) × (shadow s.engine t u ≡ Some at) × Says script at x)
AnswersQuestion s t u Says (Err f) = LeastFits (question t u) s f

-- stand answers the shadow's step, and what its next turn would find
abbrev pub StandInWords : Type 0
StandInWords =
    (s : State) (t u : ℕ) (r : Result (ℕ × Standing) CallFault) → SoundEngine s.engine
    → AnswersQuestion s t u (λ script at x. (x.0 ≡ at.step) × Finds s.engine t u script at x.1) r ↔ (stand_told s.engine t u ≡ r)

-- the entry at an index, counted from 0, of some recorded reads; absent past their end
abbrev pub EntryAt : List ReadEntry → ℕ → Option ReadEntry → Type 0
EntryAt reads i (Some read) =
    (first : List ReadEntry) × (rest : List ReadEntry) × (reads ≡ first ++ read ∷ rest) × (length first ≡ i)
EntryAt reads i None = length reads ≤ i

-- read entry answers the recorded read with this index
abbrev pub ReadEntryInWords : Type 0
ReadEntryInWords =
    (s : State) (t u i : ℕ) (r : Result (Option ReadEntry) CallFault) → SoundEngine s.engine
    → AnswersQuestion s t u (λ script at o. EntryAt at.reads i o) r ↔ (entry_told s.engine t u i ≡ r)
