use Rattle.std.proofs.Common.{◌∙◌, arith}
use Rattle.engine.specs.SlotSet.{flags}
use Rattle.engine.proofs.SlotSets.{flags_eight}
use Rattle.engine.proofs.BySlots.{flag-at}
use Rattle.engine.proofs.by_slot.BySlot.has.Goals as goal

pub returns : goal.returns
returns g c =
    let e = flags_eight c.args.self.now.there in
    c.has.ensures ∙ flag-at (flags c.args.self.now.there) c.args.self.now.things c.args.u (omega (arith, e))
