-- The list of known runs. Assumes nothing.
use Rattle.std.specs.Prelude.{List, [], ◌∷◌, ◌++◌}
use Rattle.known_runs.specs.Runs.{Run}
use Rattle.known_runs.specs.Worked.{a_alone, b_alone, a_then_b, take_over, reader_first, late_write, start_over, script_sizes, skip_one, last_page, around, full_log, last_slot}
use Rattle.known_runs.specs.Plain.{a_then_b_flags, edge_pages, indexed_around, indexed_far, own_page, left_out, no_scripts, no_steps, one_byte_short, one_byte_long, skip_past_end, skip_nothing, skip_fifteen, no_action, no_operation, read_with_b, roomy_log}
use Rattle.known_runs.specs.Shadows.{rescue, meets_around, rising_order, replaced, not_replaced, abort_takes, tie_leading, tie_smallest, stale}
use Rattle.known_runs.specs.Refusals.{slot_numbers, allowances, openings, closed_slots, pages_off, far_pages, smaller_store, before_pages_off, shadow_off, read_off, write_off}

-- the runs of docs/ENGINE.md, 'Worked examples', in its order
abbrev pub worked_examples : List Run
worked_examples =
    a_alone ∷ b_alone ∷ a_then_b ∷ take_over ∷ reader_first ∷ late_write ∷ start_over ∷ script_sizes
    ∷ skip_one ∷ last_page ∷ around ∷ full_log ∷ last_slot ∷ []

abbrev pub plain_runs : List Run
plain_runs =
    a_then_b_flags ∷ edge_pages ∷ indexed_around ∷ indexed_far ∷ own_page ∷ left_out ∷ no_scripts ∷ no_steps
    ∷ one_byte_short ∷ one_byte_long ∷ skip_past_end ∷ skip_nothing ∷ skip_fifteen ∷ no_action ∷ no_operation
    ∷ read_with_b ∷ roomy_log ∷ []

abbrev pub shadow_runs : List Run
shadow_runs =
    rescue ∷ meets_around ∷ rising_order ∷ replaced ∷ not_replaced ∷ abort_takes ∷ tie_leading ∷ tie_smallest
    ∷ stale ∷ []

abbrev pub refusal_runs : List Run
refusal_runs =
    slot_numbers ∷ allowances ∷ openings ∷ closed_slots ∷ pages_off ∷ far_pages ∷ smaller_store
    ∷ before_pages_off ∷ shadow_off ∷ read_off ∷ write_off ∷ []

abbrev pub known_runs : List Run
known_runs = worked_examples ++ plain_runs ++ shadow_runs ++ refusal_runs
