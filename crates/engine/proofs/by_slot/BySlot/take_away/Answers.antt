use Rattle.engine.specs.SlotSet.{flags}
use Rattle.engine.proofs.BySlots.{flag-falls}
use Rattle.engine.proofs.by_slot.BySlot.take_away.Goals as goal

pub returns : goal.returns
returns g c = rw c.remove.ensures (flag-falls (flags c.args.self.now.there) c.args.self.now.things c.args.u)
