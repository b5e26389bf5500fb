use Rattle.std.proofs.Common.{arith}
use Rattle.engine.specs.SlotSet.{flags}
use Rattle.engine.proofs.SlotSets.{flags_removed}
use Rattle.engine.proofs.slot_set.SlotSet.remove.Goals as goal

pub returns : goal.returns
unfolding flags
returns c =
    let p = c.index.ensures.place in
    let w = c.index.ensures.within in
    flags_removed c.args.self.now.bits c.index.result c.args.u p (omega (arith, p, w))
