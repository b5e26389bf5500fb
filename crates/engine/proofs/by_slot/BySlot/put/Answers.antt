use Rattle.std.proofs.Common.{true}
use Rattle.engine.specs.SlotSet.{flags}
use Rattle.engine.proofs.BySlots.{flagged-set}
use Rattle.engine.proofs.by_slot.BySlot.put.Goals as goal

pub returns : goal.returns
returns g c =
    rw (c.index.ensures.place, c.insert.ensures)
    (flagged-set (flags c.args.self.now.there) c.args.self.now.things c.args.u true c.args.thing)
