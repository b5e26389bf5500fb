-- What some of the slots have, by slot. Assumes nothing.
use Rattle.std.specs.Prelude.{Bool, cond, List, [], ◌∷◌, Some, None, Option}
use Rattle.engine.specs.SlotSet.{flags}
use Rattle.engine.specs.declared.by_slot.BySlot.{BySlot}

module _ {T : Type 0} where
  -- place by place the thing, where its flag is up, and else none
  abbrev pub flagged : List Bool → List T → List (Option T)
  flagged [] xs = []
  flagged (b ∷ bs) [] = []
  flagged (b ∷ bs) (x ∷ xs) = cond b (Some x) None ∷ flagged bs xs

  -- what each slot has, or none
  abbrev pub by_slot : BySlot T → List (Option T)
  by_slot s = flagged (flags s.there) s.things
