-- Known runs of scripts alone, of decoding and of log words. Assumes nothing.
use Rattle.std.specs.Prelude.{[], ◌∷◌, replicate, Some, None}
use Rattle.arithmetic.specs.Words.{counters, flags}
use Rattle.known_runs.specs.Runs.{runs, answers, faults, no_script, accepted, refused, gives, page_holds, no_page, page_takes, Run, alone_runs, decodes, log_run}
use Rattle.known_runs.specs.Scripts.{A, B, script, reads, reads_from, puts, puts_from, reads_own, skips_if_zero, skips, single}
use Rattle.known_runs.specs.Events.{three}

abbrev pub a_then_b_flags : Run
a_then_b_flags =
    alone_runs flags three (runs A (answers 0 1 (0 ∷ 20 ∷ 30 ∷ [])) ∷ runs B (answers 0 1 (0 ∷ 20 ∷ 0 ∷ [])) ∷ [])

-- a page below the size is read; the first past it is a fault, and so is a write to it; pages stay as they were
abbrev pub edge_pages : Run
edge_pages =
    alone_runs counters three (
    runs (reads 2) (answers 30 0 three) ∷ runs (reads 3) (faults 0 3) ∷ runs (puts 7 3) (faults 1 3)
    ∷ runs (puts 7 2) (answers 7 1 (10 ∷ 20 ∷ 7 ∷ [])) ∷ []
    )

-- an indexed page number goes round at 2^32, in a read and in a write
abbrev pub indexed_around : Run
indexed_around =
    alone_runs counters three (
    runs (reads_from 4294967295 1) (answers 10 0 three) ∷ runs (reads_from 4294967293 5) (answers 30 0 three)
    ∷ runs (puts_from 7 4294967293 5) (answers 7 1 (10 ∷ 20 ∷ 7 ∷ [])) ∷ []
    )

-- and not before: 2^31 + 1 is no page 1, and 2^32 - 1 is no page 0
abbrev pub indexed_far : Run
indexed_far =
    alone_runs counters three (
    runs (reads_from 2147483648 1) (faults 1 2147483649) ∷ runs (puts_from 7 2147483648 1) (faults 2 2147483649)
    ∷ runs (reads_from 4294967290 5) (faults 1 4294967295) ∷ runs (puts_from 7 4294967290 5) (faults 2 4294967295) ∷ []
    )

-- a page on the own list is read from there, and stands there once
abbrev pub own_page : Run
own_page = alone_runs counters three (runs reads_own (answers 12 1 (12 ∷ 20 ∷ 30 ∷ [])) ∷ [])

abbrev pub left_out : Run
left_out = alone_runs counters [] (runs (skips_if_zero 0) (answers 0 0 []) ∷ runs (skips_if_zero 4) (answers 9 0 []) ∷ [])

-- bytes that are no script change nothing
abbrev pub no_scripts : Run
no_scripts =
    alone_runs counters three (
    runs [] (no_script 5 (0 ∷ [])) ∷ runs (single 0x60 1) (no_script 6 (0 ∷ [])) ∷ runs B (answers 30 1 three) ∷ []
    )

abbrev pub no_steps : Run
no_steps = decodes (gives (0 ∷ []) (refused 5 (1 ∷ [])) ∷ [])

abbrev pub one_byte_short : Run
one_byte_short = decodes (gives (1 ∷ 0x40 ∷ 0 ∷ 0 ∷ 0 ∷ []) (refused 5 (5 ∷ [])) ∷ [])

abbrev pub one_byte_long : Run
one_byte_long = decodes (gives (1 ∷ 0x40 ∷ 0 ∷ 0 ∷ 0 ∷ 0 ∷ 0 ∷ []) (refused 5 (7 ∷ [])) ∷ [])

abbrev pub skip_past_end : Run
skip_past_end = decodes (gives (skips 2) (refused 6 (0 ∷ [])) ∷ [])

abbrev pub skip_nothing : Run
skip_nothing = decodes (gives (skips 0) (refused 6 (0 ∷ [])) ∷ [])

abbrev pub skip_fifteen : Run
skip_fifteen = decodes (gives (script (0x60 ∷ replicate 15 0x40) (15 ∷ replicate 15 0)) (accepted 81 16) ∷ [])

-- actions go to 6, a combine has operand 0, 1 or 2, and a read has no register b; the first such step is told
abbrev pub no_action : Run
no_action = decodes (gives (script (0x40 ∷ 0x70 ∷ 0x80 ∷ []) (0 ∷ 0 ∷ 0 ∷ [])) (refused 6 (1 ∷ [])) ∷ [])

abbrev pub no_operation : Run
no_operation = decodes (gives (single 0x51 3) (refused 6 (0 ∷ [])) ∷ [])

abbrev pub read_with_b : Run
read_with_b = decodes (gives (single 0x01 0) (refused 6 (0 ∷ [])) ∷ [])

-- three pages and room for two entries, of which one is used: the other is wild, until a put writes it
abbrev pub roomy_log : Run
roomy_log =
    log_run (3 ∷ 2 ∷ 1 ∷ 10 ∷ 20 ∷ 30 ∷ 2 ∷ 9 ∷ 35 ∷ 8 ∷ []) (
    page_holds 2 35 ∷ no_page 3 3 ∷ page_takes 0 5 (3 ∷ 2 ∷ 2 ∷ 10 ∷ 20 ∷ 30 ∷ 2 ∷ 0 ∷ 35 ∷ 5 ∷ [])
    ∷ page_holds 0 5 ∷ page_holds 1 20 ∷ page_takes 2 6 (3 ∷ 2 ∷ 1 ∷ 5 ∷ 20 ∷ 35 ∷ 2 ∷ 0 ∷ 6 ∷ 5 ∷ [])
    ∷ page_holds 2 6 ∷ page_holds 0 5 ∷ page_takes 3 7 (3 ∷ 2 ∷ 1 ∷ 5 ∷ 20 ∷ 35 ∷ 2 ∷ 0 ∷ 6 ∷ 5 ∷ []) ∷ []
    )
