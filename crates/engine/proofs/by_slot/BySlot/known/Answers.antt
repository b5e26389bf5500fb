use Rattle.std.proofs.Common.{◌≡◌, length, cond, get_or, Some, None, sym, ap, ◌∙◌, arith}
use Rattle.engine.specs.SlotSet.{flags}
use Rattle.engine.proofs.SlotSets.{flags_eight}
use Rattle.engine.proofs.BySlots.{flag-at, flagged-at}
use Rattle.engine.proofs.by_slot.BySlot.known.Goals as goal

pub returns : goal.returns
returns g c =
    let bs = flags c.args.self.now.there in
    let xs = c.args.self.now.things in
    let l : length bs ≡ length xs = let e = flags_eight c.args.self.now.there in omega (arith, e) in
    let d = c.index-self-index.result in
    let stands = flag-at bs xs c.args.u l ∙ c.requires.there in
    rw c.index.ensures.place (sym (flagged-at bs xs c.args.u d l ∙ ap (λ b. cond b (Some (get_or xs c.args.u d)) None) stands))
