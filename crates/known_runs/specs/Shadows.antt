-- Known runs of the engine: who leads, who waits and who takes over. Assumes nothing.
use Rattle.std.specs.Prelude.{ℕ, List, [], ◌∷◌, ◌++◌}
use Rattle.arithmetic.specs.Words.{counters}
use Rattle.serial.specs.declared.fault.Standing.TheVariants.{AtEnd, Halted, Ready}
use Rattle.serial.specs.Machine.{Stand}
use Rattle.serial.specs.Rules.{turn}
use Rattle.known_runs.specs.Runs.{Event, pages_are, store_is, Run, engine_run}
use Rattle.known_runs.specs.Scripts.{A, B, reads, reads_two, reads_three, reads_from, follows, puts, puts_two, puts_from, puts_then_reads, reads_puts}
use Rattle.known_runs.specs.Events.{three, allows, begins, moves, waits, commits, aborts, declines, stands, lacks, stood, shown, spoils_at, spares}
use Rattle.known_runs.specs.Worked.{a_before_b}

-- where B run alone over these pages stands before its read of page 0
abbrev pub b_before_read : Stand
b_before_read = stood 1 (20 ∷ 0 ∷ 0 ∷ 0 ∷ []) ((0, 1) ∷ []) []

-- where slot 2 stands that has read page 1, and slot 3 that reads page 0 from its own list
abbrev pub two_stands : Stand
two_stands = stood 1 (20 ∷ 0 ∷ 0 ∷ 0 ∷ []) ((0, 1) ∷ []) []

abbrev pub three_stands : Stand
three_stands = stood 4 (6 ∷ 6 ∷ 0 ∷ 0 ∷ []) [] ((1, 6) ∷ (0, 6) ∷ [])

-- Under allowance 8 slot 0's commit of page 0 spoils slot 1, which has read that page. Its waiting shadow for 0 stands where
-- its run alone does before that read, further than its shadow for 3, and takes over there. The commit spoils neither slot 2,
-- which is yet to read the page, nor slot 3, whose read was no store read: both go on where they are
abbrev pub rescue : Run
rescue =
    engine_run counters three (
    allows 8 ∷ begins 0 A ∷ begins 1 B ∷ begins 2 reads_three ∷ begins 3 puts_then_reads ∷ moves 4 3 3 ++ moves 4 0 0
    ++ moves 3 1 1 ++ moves 1 2 2 ++ spoils_at 0 1 b_before_read ∷ waits 1 0 ∷ shown 1 0 b_before_read ∷ stands 1 3 0 Halted
    ∷ stands 1 1 3 Ready ∷ spares 0 2 ∷ shown 2 2 two_stands ∷ spares 0 3 ∷ shown 3 3 three_stands ∷ commits 0 15 1
    ∷ shown 1 1 b_before_read ∷ lacks 1 0 ∷ shown 2 2 two_stands ∷ shown 3 3 three_stands ∷ moves 3 1 1 ++ commits 1 35 1
    ∷ pages_are (15 ∷ 20 ∷ 35 ∷ []) ∷ []
    )

-- page numbers that go round meet as pages
abbrev pub meets_around : Run
meets_around =
    engine_run counters three (
    begins 0 (puts_from 7 4294967293 5) ∷ begins 1 (reads_from 4294967294 4) ∷ moves 3 0 0 ++ moves 1 1 1 ++ lacks 1 0
    ∷ moves 1 1 1 ++ stands 1 0 1 Halted ∷ spoils_at 0 1 (stood 1 (0 ∷ 4 ∷ 0 ∷ 0 ∷ []) [] []) ∷ commits 0 7 1
    ∷ stands 1 1 1 Ready ∷ moves 1 1 1 ++ commits 1 7 0 ∷ pages_are (10 ∷ 20 ∷ 7 ∷ []) ∷ []
    )

-- slots 0 and 1 have both written page 0: slot 2, before it reads it, has room to account for 0 and none for 1
abbrev pub rising_order : Run
rising_order =
    engine_run counters three (
    begins 0 (puts 7 0) ∷ begins 1 (puts 8 0) ∷ begins 2 (reads 0) ∷ moves 2 0 0 ++ moves 2 1 1 ++ moves 1 2 2
    ++ stands 2 2 1 AtEnd ∷ stands 2 0 0 Halted ∷ lacks 2 1 ∷ commits 1 8 1 ∷ stands 2 2 0 Ready ∷ stands 2 0 0 Halted
    ∷ moves 1 2 2 ++ commits 2 8 0 ∷ commits 0 7 1 ∷ pages_are (7 ∷ 20 ∷ 30 ∷ []) ∷ []
    )

-- a shadow for 0 that has read a page which 0 writes then is replaced, here by a start
abbrev pub replaced : Run
replaced =
    engine_run counters three (
    begins 0 (puts_two 5 2 0) ∷ begins 1 reads_three ∷ moves 2 0 0 ++ moves 3 1 1 ++ stands 1 0 2 Halted
    ∷ moves 1 0 0 ++ stands 1 0 0 Ready ∷ moves 1 1 0 ++ stands 1 0 1 Halted ∷ commits 0 5 2 ∷ stands 1 1 1 Ready
    ∷ moves 2 1 1 ++ commits 1 20 0 ∷ pages_are (5 ∷ 20 ∷ 5 ∷ []) ∷ []
    )

-- one that has not read it stays
abbrev pub not_replaced : Run
not_replaced =
    engine_run counters three (
    begins 0 (puts_two 5 0 2) ∷ begins 1 reads_three ∷ moves 2 0 0 ++ moves 3 1 1 ++ stands 1 0 1 Halted
    ∷ moves 1 0 0 ++ stands 1 0 1 Halted ∷ []
    )

-- an abort takes the shadows for its slot with it, and the slot's next tenant finds none
abbrev pub abort_takes : Run
abort_takes =
    engine_run counters three (
    a_before_b ++ stands 1 0 1 Halted ∷ aborts 0 ∷ lacks 1 0 ∷ lacks 0 0 ∷ stands 1 1 3 Ready
    ∷ declines (turn 1 0) 8 (0 ∷ []) ∷ begins 0 A ∷ lacks 1 0 ∷ moves 1 1 1 ++ commits 1 30 1 ∷ stands 0 0 0 Ready
    ∷ pages_are three ∷ []
    )

-- Slot 0 has written page 0 after slot 1 has read it, and then starts over, as slot 2 commits page 2: its list is empty,
-- and slot 1's shadow for 0 need not wait for page 0 any more
abbrev pub freed : List ℕ → List ℕ → List ℕ → List Event
freed zero one two =
    begins 0 zero ∷ begins 1 one ∷ begins 2 two ∷ moves 1 1 1 ++ moves 3 0 0 ++ stands 1 0 0 Halted ∷ moves 2 2 2
    ++ stands 0 2 0 Halted ∷ commits 2 9 1 ∷ stands 0 0 0 Ready ∷ lacks 0 2 ∷ stands 1 0 0 Ready ∷ []

-- As the pages change under it, the shadow for 0, level with the lead, holds 11 where the lead holds 10. Slot 1 then
-- accounts for 3, and the two are equally far
abbrev pub level : List Event
level =
    allows 3 ∷ begins 3 (puts 5 1) ∷ freed (reads_puts 2 0) reads_two (puts 9 2) ++ pages_are (10 ∷ 20 ∷ 9 ∷ [])
    ∷ store_is (11 ∷ 20 ∷ 9 ∷ []) ∷ moves 1 1 0 ++ stands 1 0 1 Halted ∷ waits 1 0 ∷ moves 2 3 3 ++ moves 1 1 1
    ++ stands 1 3 1 Halted ∷ []

-- the shadow for 3 is a copy of the lead
abbrev pub tie_leading : Run
tie_leading =
    engine_run counters three (
    level ++ aborts 0 ∷ commits 3 5 1 ∷ stands 1 1 1 Ready ∷ moves 1 1 1 ++ commits 1 10 0
    ∷ pages_are (11 ∷ 5 ∷ 9 ∷ []) ∷ []
    )

-- of the shadows for 0 and 3 the one for 0 takes over
abbrev pub tie_smallest : Run
tie_smallest =
    engine_run counters three (
    level ++ commits 3 5 1 ∷ stands 1 1 1 Ready ∷ lacks 1 3 ∷ stands 1 0 1 Halted ∷ moves 1 1 1 ++ commits 1 11 0
    ∷ pages_are (11 ∷ 5 ∷ 9 ∷ []) ∷ []
    )

-- As the pages change under it, the shadow for 0 reads page 2 where the lead has read page 1. A commit of page 2 drops it,
-- and the lead stays
abbrev pub stale : Run
stale =
    engine_run counters (1 ∷ 20 ∷ 30 ∷ 40 ∷ []) (
    freed (reads_puts 3 0) follows (puts 9 3) ++ moves 1 1 1 ++ store_is (2 ∷ 20 ∷ 30 ∷ 9 ∷ []) ∷ moves 2 1 0
    ++ stands 1 0 2 Halted ∷ begins 2 (puts 9 2) ∷ moves 2 2 2 ++ commits 2 9 1 ∷ lacks 1 0 ∷ stands 1 1 2 AtEnd
    ∷ commits 1 1 0 ∷ pages_are (2 ∷ 20 ∷ 9 ∷ 9 ∷ []) ∷ []
    )
