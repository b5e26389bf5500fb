-- Worked examples: the runs of docs/ENGINE.md, 'Worked examples'. Assumes nothing.
--
-- Where nothing else is said pages are 10, 20 and 30, counters serve, the allowance is 2, script A is in slot 0 and script B
-- in slot 1.
use Rattle.std.specs.Prelude.{List, [], ◌∷◌, ◌++◌, Some}
use Rattle.arithmetic.specs.Words.{counters}
use Rattle.serial.specs.declared.fault.Standing.TheVariants.{AtEnd, Halted, Ready}
use Rattle.serial.specs.Rules.{begin, turn}
use Rattle.known_runs.specs.Runs.{Event, pages_are, runs, answers, accepted, refused, gives, page_holds, no_page, page_takes, Run, engine_run, alone_runs, decodes, log_run}
use Rattle.known_runs.specs.Scripts.{A, B, sets, reads, reads_from, skips, single}
use Rattle.known_runs.specs.Events.{three, allows, begins, moves, waits, commits, declines, stands, lacks, stood, shown}

-- A alone answers 15 and one page
abbrev pub a_alone : Run
a_alone = alone_runs counters three (runs A (answers 15 1 (15 ∷ 20 ∷ 30 ∷ [])) ∷ [])

-- B alone answers 30 and one page
abbrev pub b_alone : Run
b_alone = alone_runs counters three (runs B (answers 30 1 (10 ∷ 20 ∷ 30 ∷ [])) ∷ [])

-- after A, B alone answers 35
abbrev pub a_then_b : Run
a_then_b =
    alone_runs counters three (runs A (answers 15 1 (15 ∷ 20 ∷ 30 ∷ [])) ∷ runs B (answers 35 1 (15 ∷ 20 ∷ 35 ∷ [])) ∷ [])

-- four turns of A, and three of the shadow that leads for B
abbrev pub a_before_b : List Event
a_before_b = begins 0 A ∷ begins 1 B ∷ moves 4 0 0 ++ moves 3 1 1

-- B's shadow for 0 waits at step 1 and, as A commits, leads from there
abbrev pub take_over : Run
take_over =
    engine_run counters three (
    a_before_b ++ stands 1 0 1 Halted ∷ commits 0 15 1 ∷ stands 1 1 1 Ready ∷ lacks 1 0 ∷ moves 3 1 1 ++ stands 1 1 4 AtEnd
    ∷ commits 1 35 1 ∷ pages_are (15 ∷ 20 ∷ 35 ∷ []) ∷ []
    )

-- B takes a fourth turn and commits first
abbrev pub reader_first : Run
reader_first =
    engine_run counters three (
    a_before_b ++ moves 1 1 1 ++ commits 1 30 1 ∷ commits 0 15 1 ∷ pages_are (15 ∷ 20 ∷ 30 ∷ []) ∷ []
    )

-- B has read page 0 before A writes it: its shadow for 0 starts at step 0, moves, and then waits
abbrev pub late_write : Run
late_write =
    engine_run counters three (
    begins 0 A ∷ begins 1 B ∷ moves 2 1 1 ++ moves 4 0 0 ++ stands 1 0 0 Ready ∷ moves 1 1 0 ++ stands 1 0 1 Halted
    ∷ waits 1 0 ∷ stands 1 0 1 Halted ∷ []
    )

-- under allowance 1 there is no shadow for 0, and B starts over
abbrev pub start_over : Run
start_over =
    engine_run counters three (
    allows 1 ∷ a_before_b ++ lacks 1 0 ∷ commits 0 15 1 ∷ stands 1 1 0 Ready ∷ moves 4 1 1 ++ commits 1 35 1
    ∷ pages_are (15 ∷ 20 ∷ 35 ∷ []) ∷ []
    )

-- sixteen sets are a script, of 81 bytes; seventeen are none, and neither are no bytes
abbrev pub script_sizes : Run
script_sizes =
    decodes (gives (sets 16) (accepted 81 16) ∷ gives (sets 17) (refused 5 (86 ∷ [])) ∷ gives [] (refused 5 (0 ∷ [])) ∷ [])

-- a skip of one step as the first of two, and as the only one
abbrev pub skip_one : Run
skip_one = decodes (gives (skips 1) (accepted 11 2) ∷ gives (single 0x60 1) (refused 6 (0 ∷ [])) ∷ [])

-- page 2 is read; for page 3 the turn is declined
abbrev pub last_page : Run
last_page =
    engine_run counters three (
    begins 0 (reads 2) ∷ begins 1 (reads 3) ∷ moves 1 0 0 ++ shown 0 0 (stood 1 (30 ∷ 0 ∷ 0 ∷ 0 ∷ []) ((0, 2) ∷ []) [])
    ∷ declines (turn 1 1) 9 (1 ∷ 0 ∷ 3 ∷ []) ∷ commits 0 30 0 ∷ []
    )

-- an indexed read with operand 4,294,967,295 and a register that holds 1 reads page 0
abbrev pub around : Run
around =
    engine_run counters three (
    begins 0 (reads_from 4294967295 1) ∷ moves 2 0 0 ++ shown 0 0 (stood 2 (10 ∷ 1 ∷ 0 ∷ 0 ∷ []) ((1, 0) ∷ []) [])
    ∷ commits 0 10 0 ∷ []
    )

-- one page, and room for one entry, which is used: page 0 holds the entry's word, and a put empties the log first
abbrev pub full_log : Run
full_log =
    log_run (1 ∷ 1 ∷ 1 ∷ 5 ∷ 0 ∷ 9 ∷ []) (
    page_holds 0 9 ∷ page_takes 0 7 (1 ∷ 1 ∷ 1 ∷ 9 ∷ 0 ∷ 7 ∷ []) ∷ page_holds 0 7 ∷ []
    )

-- slot 7 opens; there is no slot 8
abbrev pub last_slot : Run
last_slot = engine_run counters three (begins 7 A ∷ stands 7 7 0 Ready ∷ declines (begin 8 A) 1 (8 ∷ []) ∷ [])
