use Rattle.std.proofs.Common.{◌&&◌, not, ◌-◌, bit_and, arith}
use Rattle.engine.specs.SlotSet.{flags}
use Rattle.engine.proofs.SlotSets.{one_at, minus_at, at_slots}
use Rattle.engine.proofs.slot_set.SlotSet.minus.Goals as goal

pub returns : goal.returns
unfolding flags
returns c =
    let a = c.args.self.bits in
    let b = c.args.other.bits in
    at_slots (one_at (bit_and a (255 - b))) (λ u. one_at a u && not (one_at b u)) (λ u low. minus_at a b u (omega arith) low)
