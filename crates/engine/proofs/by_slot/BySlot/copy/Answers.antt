use Rattle.std.proofs.Common.{◌≡◌, true, length, cond, get_or, set, Some, None, sym, ap, ◌∙◌, arith}
use Rattle.engine.specs.SlotSet.{flags}
use Rattle.engine.specs.BySlot.{flagged}
use Rattle.engine.proofs.SlotSets.{flags_eight}
use Rattle.engine.proofs.BySlots.{flag-at, flagged-at, flagged-set}
use Rattle.engine.proofs.by_slot.BySlot.copy.Goals as goal

pub returns : goal.returns
returns g c =
    let bs = flags c.args.self.now.there in
    let xs = c.args.self.now.things in
    let l : length bs ≡ length xs = let e = flags_eight c.args.self.now.there in omega (arith, e) in
    let d = c.index-self-index.result in
    let stands = flag-at bs xs c.args.from l ∙ c.requires.there in
    rw (c.index.ensures.place, c.index-2.ensures.place, c.insert.ensures)
    (flagged-set bs xs c.args.to true (get_or xs c.args.from d)
    ∙ ap (set (flagged bs xs) c.args.to) (sym (flagged-at bs xs c.args.from d l ∙ ap (λ b. cond b (Some (get_or xs c.args.from d)) None) stands)))
