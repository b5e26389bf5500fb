use Rattle.std.proofs.Common.{arith}
use Rattle.engine.specs.SlotSet.{flags}
use Rattle.engine.proofs.SlotSets.{flags_eight}
use Rattle.engine.proofs.BySlots.{flags_seen}
use Rattle.engine.proofs.by_slot.BySlot.slots.Goals as goal

pub returns : goal.returns
returns g c =
    let e = flags_eight c.args.self.now.there in
    flags_seen (flags c.args.self.now.there) c.args.self.now.things (omega (arith, e))
