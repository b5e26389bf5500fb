use Rattle.std.proofs.Common.{refl}
use Rattle.engine.specs.SlotSet.{flags}
use Rattle.engine.proofs.slot_set.SlotSet.new.Goals as goal

pub returns : goal.returns
unfolding flags
returns c = refl
