-- Every known run holds: the definitions compute what is written beside it. Assumes nothing.
use Rattle.std.proofs.Common.{refl}
use Rattle.known_runs.specs.Runs.{Holds, AllHold}
use Rattle.known_runs.specs.Known.{known_runs}
use Rattle.known_runs.specs.Worked.{a_alone, b_alone, a_then_b, take_over, reader_first, late_write, start_over, script_sizes, skip_one, last_page, around, full_log, last_slot}
use Rattle.known_runs.specs.Plain.{a_then_b_flags, edge_pages, indexed_around, indexed_far, own_page, left_out, no_scripts, no_steps, one_byte_short, one_byte_long, skip_past_end, skip_nothing, skip_fifteen, no_action, no_operation, read_with_b, roomy_log}
use Rattle.known_runs.specs.Shadows.{rescue, meets_around, rising_order, replaced, not_replaced, abort_takes, tie_leading, tie_smallest, stale}
use Rattle.known_runs.specs.Refusals.{slot_numbers, allowances, openings, closed_slots, pages_off, far_pages, smaller_store, before_pages_off, shadow_off, read_off, write_off}

infixr 40 ◌and◌
◌and◌ : {P Q : Type 0} → P → Q → P × Q
p and q = (p, q)

a_alone-holds : Holds a_alone
a_alone-holds = refl

b_alone-holds : Holds b_alone
b_alone-holds = refl

a_then_b-holds : Holds a_then_b
a_then_b-holds = refl

take_over-holds : Holds take_over
take_over-holds = refl

reader_first-holds : Holds reader_first
reader_first-holds = refl

late_write-holds : Holds late_write
late_write-holds = refl

start_over-holds : Holds start_over
start_over-holds = refl

script_sizes-holds : Holds script_sizes
script_sizes-holds = refl

skip_one-holds : Holds skip_one
skip_one-holds = refl

last_page-holds : Holds last_page
last_page-holds = refl

around-holds : Holds around
around-holds = refl

full_log-holds : Holds full_log
full_log-holds = refl

last_slot-holds : Holds last_slot
last_slot-holds = refl

a_then_b_flags-holds : Holds a_then_b_flags
a_then_b_flags-holds = refl

edge_pages-holds : Holds edge_pages
edge_pages-holds = refl

indexed_around-holds : Holds indexed_around
indexed_around-holds = refl

indexed_far-holds : Holds indexed_far
indexed_far-holds = refl

own_page-holds : Holds own_page
own_page-holds = refl

left_out-holds : Holds left_out
left_out-holds = refl

no_scripts-holds : Holds no_scripts
no_scripts-holds = refl

no_steps-holds : Holds no_steps
no_steps-holds = refl

one_byte_short-holds : Holds one_byte_short
one_byte_short-holds = refl

one_byte_long-holds : Holds one_byte_long
one_byte_long-holds = refl

skip_past_end-holds : Holds skip_past_end
skip_past_end-holds = refl

skip_nothing-holds : Holds skip_nothing
skip_nothing-holds = refl

skip_fifteen-holds : Holds skip_fifteen
skip_fifteen-holds = refl

no_action-holds : Holds no_action
no_action-holds = refl

no_operation-holds : Holds no_operation
no_operation-holds = refl

read_with_b-holds : Holds read_with_b
read_with_b-holds = refl

roomy_log-holds : Holds roomy_log
roomy_log-holds = refl

rescue-holds : Holds rescue
rescue-holds = refl

meets_around-holds : Holds meets_around
meets_around-holds = refl

rising_order-holds : Holds rising_order
rising_order-holds = refl

replaced-holds : Holds replaced
replaced-holds = refl

not_replaced-holds : Holds not_replaced
not_replaced-holds = refl

abort_takes-holds : Holds abort_takes
abort_takes-holds = refl

tie_leading-holds : Holds tie_leading
tie_leading-holds = refl

tie_smallest-holds : Holds tie_smallest
tie_smallest-holds = refl

stale-holds : Holds stale
stale-holds = refl

slot_numbers-holds : Holds slot_numbers
slot_numbers-holds = refl

allowances-holds : Holds allowances
allowances-holds = refl

openings-holds : Holds openings
openings-holds = refl

closed_slots-holds : Holds closed_slots
closed_slots-holds = refl

pages_off-holds : Holds pages_off
pages_off-holds = refl

far_pages-holds : Holds far_pages
far_pages-holds = refl

smaller_store-holds : Holds smaller_store
smaller_store-holds = refl

before_pages_off-holds : Holds before_pages_off
before_pages_off-holds = refl

shadow_off-holds : Holds shadow_off
shadow_off-holds = refl

read_off-holds : Holds read_off
read_off-holds = refl

write_off-holds : Holds write_off
write_off-holds = refl

pub known_runs_hold : AllHold known_runs
known_runs_hold =
    a_alone-holds and b_alone-holds and a_then_b-holds and take_over-holds and reader_first-holds
    and late_write-holds and start_over-holds and script_sizes-holds and skip_one-holds and last_page-holds
    and around-holds and full_log-holds and last_slot-holds and a_then_b_flags-holds and edge_pages-holds
    and indexed_around-holds and indexed_far-holds and own_page-holds and left_out-holds and no_scripts-holds
    and no_steps-holds and one_byte_short-holds and one_byte_long-holds and skip_past_end-holds
    and skip_nothing-holds and skip_fifteen-holds and no_action-holds and no_operation-holds
    and read_with_b-holds and roomy_log-holds and rescue-holds and meets_around-holds and rising_order-holds
    and replaced-holds and not_replaced-holds and abort_takes-holds and tie_leading-holds
    and tie_smallest-holds and stale-holds and slot_numbers-holds and allowances-holds and openings-holds
    and closed_slots-holds and pages_off-holds and far_pages-holds and smaller_store-holds
    and before_pages_off-holds and shadow_off-holds and read_off-holds and write_off-holds and tt
