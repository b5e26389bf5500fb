use Rattle.std.proofs.Common.{sym, ◌∙◌, arith}
use Rattle.engine.specs.SlotSet.{members}
use Rattle.engine.proofs.SlotSets.{none_from, some_from, none_lowest, some_lowest}
use Rattle.engine.proofs.slot_set.SlotSet.take_lowest.Goals as goal

pub returns-in_err-lowest : goal.returns-in_err-lowest
unfolding members
returns-in_err-lowest c =
    let past = none_from _ _ c.try_from.result c.try_from.ensures (sym c.ok.ensures.value ∙ c.in_err-lowest.was) in
    let e = none_lowest c.args.self.now.bits (omega arith) past in
    rw c.from_residual.ensures (e, e)

pub returns : goal.returns
unfolding members
returns c =
    let h = some_from _ _ c.try_from.result c.in_ok-lowest.lowest c.try_from.ensures (sym c.ok.ensures.value ∙ c.in_ok-lowest.was) in
    some_lowest c.args.self.now.bits c.in_ok-lowest.lowest (omega arith) h.0 h.1
