use Rattle.std.proofs.Common.{◌≡◌, ℕ, List, [], ◌∷◌, MatchOption, subst, ◌∙◌}
use Rattle.serial.specs.Rules.{slots, is_open}
use Rattle.engine.specs.SlotSet.{members}
use Rattle.engine.specs.Table.{engine_of}
use Rattle.engine.proofs.Members.{members_from, first_is}
use Rattle.engine.proofs.table.Table.first_open.Goals as goal

pub returns : goal.returns
returns c =
    let e = c.members.ensures ∙ members_from c.open_slots.result (is_open (engine_of c.args.self.now)) c.open_slots.ensures in
    let left = members c.next.new.self.left in
    let Yields = λ (all : List ℕ). MatchOption c.next.result ((all ≡ []) × (left ≡ [])) (λ x. all ≡ x ∷ left) in
    first_is (is_open (engine_of c.args.self.now)) slots c.next.result left (subst Yields e c.next.ensures.steps)
