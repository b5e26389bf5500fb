-- Sets of slots, as the bits of a byte. Assumes nothing.
use Rattle.std.specs.Prelude.{ℕ, Bool, List, map, ◌==◌}
use Rattle.std.specs.List.{filter}
use Rattle.std.specs.Int.{bit_at}
use Rattle.serial.specs.Rules.{slots}
use Rattle.engine.specs.declared.slot_set.SlotSet.{SlotSet}

-- a slot is a member where its bit is 1
abbrev pub is_member : SlotSet → ℕ → Bool
is_member s u = bit_at s.bits u == 1

-- for each slot whether it is a member
unfoldable pub flags : SlotSet → List Bool
flags s = map (is_member s) slots

-- the members in rising order
unfoldable pub members : SlotSet → List ℕ
members s = filter (is_member s) slots
