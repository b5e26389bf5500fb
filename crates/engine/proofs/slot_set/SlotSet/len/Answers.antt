use Rattle.std.proofs.Common.{arith}
use Rattle.engine.specs.SlotSet.{flags}
use Rattle.engine.proofs.SlotSets.{ones_counted}
use Rattle.engine.proofs.slot_set.SlotSet.len.Goals as goal

pub returns : goal.returns
unfolding flags
returns c = ones_counted c.args.self.bits (omega arith)
