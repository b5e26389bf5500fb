use Rattle.std.proofs.Common.{ap, ◌∙◌, ◌==◌, arith}
use Rattle.std.specs.Int.{bit_at}
use Rattle.std.proofs.lemmas.Nat.Bits.{shr_and_one}
use Rattle.engine.specs.SlotSet.{is_member, flags}
use Rattle.engine.proofs.SlotSets.{flag_of}
use Rattle.engine.proofs.slot_set.SlotSet.has.Goals as goal

pub returns : goal.returns
unfolding flags
returns c =
    let p = c.index.ensures.place in
    let w = c.index.ensures.within in
    ap (λ x. x == 1) (shr_and_one c.args.self.bits c.index.result ∙ ap (bit_at c.args.self.bits) p)
    ∙ flag_of (is_member c.args.self) c.args.u (omega (arith, p, w))
