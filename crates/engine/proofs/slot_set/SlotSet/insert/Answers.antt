use Rattle.std.proofs.Common.{arith}
use Rattle.engine.specs.SlotSet.{flags}
use Rattle.engine.proofs.SlotSets.{flags_inserted}
use Rattle.engine.proofs.slot_set.SlotSet.insert.Goals as goal

pub returns : goal.returns
unfolding flags
returns c =
    let p = c.index.ensures.place in
    let w = c.index.ensures.within in
    flags_inserted c.args.self.now.bits c.index.result c.args.u p (omega (arith, p, w))
