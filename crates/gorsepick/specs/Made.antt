-- The calls that a scenario makes. Assumes nothing.
use Rattle.std.specs.Prelude.{vec_items}
use Rattle.serial.specs.Rules.{Call, set_allowance, begin, turn, commit, abort}
use Rattle.gorsepick.specs.declared.command.Made.{Made}
use Rattle.gorsepick.specs.declared.command.Made.TheVariants.{Allow, Begin, Turn, Commit, Abort}

-- a call as the rules have it
abbrev pub call_made : Made → Call
call_made (Allow k) = set_allowance k
call_made (Begin t bytes) = begin t (vec_items bytes)
call_made (Turn t u) = turn t u
call_made (Commit t) = commit t
call_made (Abort t) = abort t
