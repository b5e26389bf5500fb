-- What a host in C is told. Assumes nothing.
use Rattle.std.specs.Prelude.{ℕ, zero, suc, List, [], ◌∷◌, length, Some, None, Ok, Err, Option, Result, slice_index}
use Rattle.serial.specs.declared.ReadEntry.{ReadEntry}
use Rattle.serial.specs.declared.fault.CallFault.{CallFault}
use Rattle.serial.specs.declared.fault.Turned.{Turned}
use Rattle.serial.specs.declared.fault.Turned.TheVariants.{Moved, Ended, Waiting}
use Rattle.serial.specs.declared.fault.Standing.{Standing}
use Rattle.serial.specs.declared.fault.Standing.TheVariants.{AtEnd, Halted, Ready}
use Rattle.serial.specs.declared.fault.Accepted.TheVariants.{Allowed, Begun, Took, Committed, Aborted}
use Rattle.serial.specs.Faults.{Answer, call_cause, call_returned}
use Rattle.serial.specs.Rules.{State, Done}
use Rattle.linked.specs.declared.told.Told.{Told}

-- three values, 0 past the last one
abbrev pub padded : List ℕ → List ℕ
padded [] = 0 ∷ 0 ∷ 0 ∷ []
padded (a ∷ []) = a ∷ 0 ∷ 0 ∷ []
padded (a ∷ b ∷ []) = a ∷ b ∷ 0 ∷ []
padded (a ∷ b ∷ c ∷ rest) = a ∷ b ∷ c ∷ []

-- the number of a refusal, or 0 for none, and the values with their count
abbrev pub told : ℕ → List ℕ → Told
told refusal values = record { refusal = refusal; count = length values; values = padded values }

abbrev pub declined : CallFault → Told
declined fault = told (call_cause fault) (call_returned fault)

-- 0 moved, 1 ended, 2 waiting
abbrev pub turned_number : Turned → ℕ
turned_number Moved = 0
turned_number Ended = 1
turned_number Waiting = 2

-- 0 at its end, 1 waiting, 2 able to try a step
abbrev pub standing_number : Standing → ℕ
standing_number AtEnd = 0
standing_number Halted = 1
standing_number Ready = 2

-- an accepted call tells its values: a turn how it ended, a commit register 0 and the number of pages put
abbrev pub answer_told : Answer → Told
answer_told (Ok Allowed) = told 0 []
answer_told (Ok Begun) = told 0 []
answer_told (Ok (Took turned)) = told 0 (turned_number turned ∷ [])
answer_told (Ok (Committed word pages)) = told 0 (word ∷ pages ∷ [])
answer_told (Ok Aborted) = told 0 []
answer_told (Err fault) = declined fault

-- what a call does, and what is told of its answer
abbrev pub done_told : Done → State × Told
done_told d = (d.0, answer_told d.1)

-- stand tells the step and what the next turn would find
abbrev pub stand_told_by : Result (ℕ × Standing) CallFault → Told
stand_told_by (Ok s) = told 0 (s.0 ∷ standing_number s.1 ∷ [])
stand_told_by (Err fault) = declined fault

-- read entry tells the step and the page, or no value where there is no such read
abbrev pub entry_values : Option ReadEntry → List ℕ
entry_values None = []
entry_values (Some read) = read.step ∷ read.page ∷ []

abbrev pub entry_told_by : Result (Option ReadEntry) CallFault → Told
entry_told_by (Ok o) = told 0 (entry_values o)
entry_told_by (Err fault) = declined fault

-- a call that tells nothing but that it was accepted
abbrev pub unit_told_by : Result (Unit {0}) CallFault → Told
unit_told_by (Ok x) = told 0 []
unit_told_by (Err fault) = declined fault

-- what holds of a call that is refused
abbrev pub AsItWas : ℕ → Type 0 → Type 0
AsItWas zero P = Unit {0}
AsItWas (suc refusal) P = P

-- what holds of a turn whose first value is not 0: of each that ended or waits, and of a refused one whose first value is not
-- 0; `declined` says the same of every refused one
abbrev pub OnNoStep : Told → Type 0 → Type 0
OnNoStep t P = AsItWas (slice_index t.values 0) P
