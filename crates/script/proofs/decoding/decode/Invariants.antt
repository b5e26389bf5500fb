use Rattle.std.proofs.Common.{◌≡◌, length, Ok}
use Rattle.basics.specs.Trail.{items_of}
use Rattle.script.specs.Script.{steps_to}
use Rattle.script.proofs.decoding.decode.Given as goal

abbrev pub invariant-loop-i : goal.invariant-loop-i
invariant-loop-i l = (steps_to l.bytes l.i ≡ Ok (items_of l.steps)) × (length (items_of l.steps) ≡ l.i)
