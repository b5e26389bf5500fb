-- Known runs of the engine in which calls are declined, each by the first check that fails. Assumes nothing.
use Rattle.std.specs.Prelude.{[], ◌∷◌, ◌++◌}
use Rattle.arithmetic.specs.Words.{counters}
use Rattle.serial.specs.declared.fault.Standing.TheVariants.{AtEnd, Halted, Ready}
use Rattle.serial.specs.Rules.{set_allowance, begin, turn, commit, abort}
use Rattle.known_runs.specs.Runs.{pages_are, store_is, Run, engine_run}
use Rattle.known_runs.specs.Scripts.{A, B, sets, reads, reads_from, puts, puts_from, puts_three, single}
use Rattle.known_runs.specs.Events.{three, allows, begins, moves, has_ended, waits, commits, aborts, declines, stands, lacks}

-- 1: of two such numbers the first; before a closed slot and before bytes that are no script
abbrev pub slot_numbers : Run
slot_numbers =
    engine_run counters three (
    declines (turn 8 9) 1 (8 ∷ []) ∷ declines (turn 9 8) 1 (9 ∷ []) ∷ declines (turn 8 0) 1 (8 ∷ [])
    ∷ declines (turn 0 8) 1 (8 ∷ []) ∷ declines (begin 8 []) 1 (8 ∷ []) ∷ declines (commit 8) 1 (8 ∷ [])
    ∷ declines (abort 4294967295) 1 (4294967295 ∷ []) ∷ begins 7 A ∷ stands 7 7 0 Ready ∷ declines (begin 8 A) 1 (8 ∷ [])
    ∷ declines (turn 7 8) 1 (8 ∷ []) ∷ []
    )

-- 2 comes before 3, and 3 tells the lowest open slot
abbrev pub allowances : Run
allowances =
    engine_run counters three (
    declines (set_allowance 0) 2 (0 ∷ []) ∷ declines (set_allowance 9) 2 (9 ∷ []) ∷ allows 8 ∷ allows 1 ∷ begins 5 A
    ∷ begins 3 B ∷ declines (set_allowance 9) 2 (9 ∷ []) ∷ declines (set_allowance 0) 2 (0 ∷ [])
    ∷ declines (set_allowance 2) 3 (3 ∷ []) ∷ aborts 3 ∷ declines (set_allowance 2) 3 (5 ∷ []) ∷ aborts 5 ∷ allows 2 ∷ []
    )

-- 4 comes before 5 and 6
abbrev pub openings : Run
openings =
    engine_run counters three (
    begins 0 A ∷ declines (begin 0 A) 4 (0 ∷ []) ∷ declines (begin 0 []) 4 (0 ∷ []) ∷ declines (begin 0 (single 0x60 1)) 4 (0 ∷ [])
    ∷ declines (begin 1 []) 5 (0 ∷ []) ∷ declines (begin 1 (sets 17)) 5 (86 ∷ []) ∷ declines (begin 1 (single 0x60 1)) 6 (0 ∷ [])
    ∷ lacks 1 1 ∷ declines (commit 1) 7 (1 ∷ []) ∷ stands 0 0 0 Ready ∷ []
    )

-- 7 comes before 8
abbrev pub closed_slots : Run
closed_slots =
    engine_run counters three (
    begins 0 A ∷ declines (turn 2 3) 7 (2 ∷ []) ∷ declines (turn 2 0) 7 (2 ∷ []) ∷ declines (commit 2) 7 (2 ∷ [])
    ∷ declines (abort 2) 7 (2 ∷ []) ∷ declines (turn 0 1) 8 (1 ∷ []) ∷ begins 1 B ∷ declines (turn 0 1) 8 (1 ∷ []) ∷ aborts 0
    ∷ declines (abort 0) 7 (0 ∷ []) ∷ declines (turn 0 1) 7 (0 ∷ []) ∷ []
    )

-- 9 tells the slot, the step and the page, and the step can be taken again
abbrev pub pages_off : Run
pages_off =
    engine_run counters three (
    begins 0 (reads 3) ∷ begins 1 (puts 7 3) ∷ declines (turn 0 0) 9 (0 ∷ 0 ∷ 3 ∷ []) ∷ stands 0 0 0 Ready ∷ moves 1 1 1
    ++ declines (turn 1 1) 9 (1 ∷ 1 ∷ 3 ∷ []) ∷ stands 1 1 1 Ready ∷ declines (commit 1) 10 (1 ∷ [])
    ∷ store_is (10 ∷ 20 ∷ 30 ∷ 40 ∷ []) ∷ moves 1 0 0 ++ stands 0 0 1 AtEnd ∷ moves 1 1 1 ++ stands 0 1 0 Halted
    ∷ commits 1 7 1 ∷ stands 0 0 0 Ready ∷ moves 1 0 0 ++ commits 0 7 0 ∷ pages_are (10 ∷ 20 ∷ 30 ∷ 7 ∷ []) ∷ []
    )

-- an indexed page is told by the number that it comes to
abbrev pub far_pages : Run
far_pages =
    engine_run counters three (
    begins 0 (reads_from 2147483648 1) ∷ begins 1 (puts_from 7 2147483648 1) ∷ moves 1 0 0
    ++ declines (turn 0 0) 9 (0 ∷ 1 ∷ 2147483649 ∷ []) ∷ moves 2 1 1 ++ declines (turn 1 1) 9 (1 ∷ 2 ∷ 2147483649 ∷ []) ∷ []
    )

-- 10 comes before 11, and 11 tells the first such page in the order of the list
abbrev pub smaller_store : Run
smaller_store =
    engine_run counters three (
    begins 0 puts_three ∷ moves 3 0 0 ++ store_is (10 ∷ []) ∷ declines (commit 0) 10 (3 ∷ []) ∷ moves 1 0 0
    ++ stands 0 0 4 AtEnd ∷ declines (commit 0) 11 (0 ∷ 2 ∷ []) ∷ pages_are (10 ∷ []) ∷ stands 0 0 4 AtEnd
    ∷ store_is (1 ∷ 2 ∷ 3 ∷ 4 ∷ []) ∷ commits 0 7 3 ∷ pages_are (7 ∷ 7 ∷ 7 ∷ 4 ∷ []) ∷ []
    )

-- ended and waiting come before 9
abbrev pub before_pages_off : Run
before_pages_off =
    engine_run counters three (
    begins 0 A ∷ begins 1 B ∷ moves 4 0 0 ++ moves 3 1 1 ++ store_is [] ∷ has_ended 0 0 ∷ waits 1 0
    ∷ declines (turn 1 1) 9 (1 ∷ 3 ∷ 2 ∷ []) ∷ stands 1 0 1 Halted ∷ []
    )

-- a shadow that neither leads nor waits meets 9 too
abbrev pub shadow_off : Run
shadow_off =
    engine_run counters three (
    begins 0 A ∷ begins 1 B ∷ moves 2 1 1 ++ moves 4 0 0 ++ store_is (10 ∷ []) ∷ declines (turn 1 0) 9 (1 ∷ 0 ∷ 1 ∷ [])
    ∷ stands 1 0 0 Ready ∷ []
    )

-- a declined read accounts for nothing
abbrev pub read_off : Run
read_off =
    engine_run counters three (
    begins 0 A ∷ begins 1 B ∷ moves 4 0 0 ++ moves 1 1 1 ++ store_is [] ∷ declines (turn 1 1) 9 (1 ∷ 1 ∷ 0 ∷ []) ∷ lacks 1 0
    ∷ store_is three ∷ moves 1 1 1 ++ stands 1 0 1 Halted ∷ []
    )

-- and neither does a declined write
abbrev pub write_off : Run
write_off =
    engine_run counters three (
    begins 0 A ∷ begins 1 B ∷ moves 2 1 1 ++ moves 3 0 0 ++ store_is [] ∷ declines (turn 0 0) 9 (0 ∷ 3 ∷ 0 ∷ []) ∷ lacks 1 0
    ∷ store_is three ∷ moves 1 0 0 ++ stands 1 0 0 Ready ∷ []
    )
