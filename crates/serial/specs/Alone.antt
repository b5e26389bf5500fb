-- A script run alone, from step 0, over fixed pages. Assumes nothing.
use Rattle.std.specs.Prelude.{ℕ, zero, suc, Bool, false, cond, List, [], ◌∷◌, length, Some, None, Option, ◌==◌, slice_set}
use Rattle.std.specs.List.{slice_get}
use Rattle.pages.specs.declared.WriteEntry.{WriteEntry}
use Rattle.script.specs.declared.Step.{Step}
use Rattle.serial.specs.Machine.{Meaning, Steps, Stand, start, Taken, moved, off_pages, takes, store_read, has_written}

-- how a run to the first stand that passes a test ends: there; at a step for a page that the store does not have; or the
-- script ends first
pub data Reached : Type 0 where
  there : Stand → Reached
  fault : ℕ → ℕ → Reached
  past_end : Reached

-- what taking the next step comes to; at the end there is none
abbrev pub try_step : Meaning → List ℕ → Stand → Option Step → Option Taken
try_step ar pages s None = None
try_step ar pages s (Some st) = Some (takes ar pages st s)

abbrev pub next : Meaning → Steps → List ℕ → Stand → Option Taken
next ar script pages s = try_step ar pages s (slice_get script s.step)

abbrev pub go_on : ℕ → Option Taken → (Stand → Reached) → Reached
go_on n None rest = past_end
go_on n (Some (moved t)) rest = rest t
go_on n (Some (off_pages p)) rest = fault n p

-- the first stand of a run, from s on, that passes the test, in fewer than `fuel` steps
abbrev pub first_stand : ℕ → Meaning → Steps → List ℕ → (Stand → Bool) → Stand → Reached
first_stand zero ar script pages test s = past_end
first_stand (suc fuel) ar script pages test s =
    cond (test s) (there s) (go_on s.step (next ar script pages s) (first_stand fuel ar script pages test))

-- the same from step 0. Steps only rise, so no run has more of them than the script
abbrev pub alone : Meaning → Steps → List ℕ → (Stand → Bool) → Reached
alone ar script pages test = first_stand (suc (length script)) ar script pages test start

abbrev pub is_at : ℕ → Stand → Bool
is_at n s = s.step == n

-- where a script run alone stands on reaching step n
abbrev pub stand_at : Meaning → Steps → List ℕ → ℕ → Reached
stand_at ar script pages n = alone ar script pages (is_at n)

-- the whole run: to the end, which is step n of n
abbrev pub whole_run : Meaning → Steps → List ℕ → Reached
whole_run ar script pages = stand_at ar script pages (length script)

-- the next step is a store read of a page of this list
abbrev pub on_list : List WriteEntry → Option ℕ → Bool
on_list es None = false
on_list es (Some p) = has_written es p

abbrev pub before_read_of : List WriteEntry → Steps → Stand → Bool
before_read_of es script s = on_list es (store_read (slice_get script s.step) s)

-- pages after puts of these pages and words, in this order
abbrev pub put_all : List WriteEntry → List ℕ → List ℕ
put_all [] pages = pages
put_all (e ∷ es) pages = put_all es (slice_set pages e.page e.word)
