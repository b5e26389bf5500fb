use Rattle.std.proofs.Common.{◌≡◌, true, is_some, Some, None, get_or, set, subst, ap, ◌∙◌}
use Rattle.std.specs.Option.{option_map}
use Rattle.std.proofs.lemmas.List.{map-set}
use Rattle.engine.specs.View.{stand_of}
use Rattle.engine.specs.BySlot.{by_slot}
use Rattle.engine.specs.Table.{row_of, IsThere}
use Rattle.engine.proofs.Rows.{view, set_copy}
use Rattle.engine.proofs.row.Row.fork.Goals as goal

pub returns-in-Some : goal.returns-in-Some
returns-in-Some c =
    let shadows = row_of c.args.self.now in
    let there : is_some (get_or shadows c.in-Some.place None) ≡ true = subst (IsThere shadows) c.in-Some.is c.requires.there in
    rw c.in-Some.is (ap view c.copy.ensures ∙ set_copy (by_slot c.args.self.now.shadows) c.args.u c.in-Some.place there)

pub returns-in-None : goal.returns-in-None
returns-in-None c =
    rw c.in-None.is
    (ap view c.put.ensures ∙ map-set (option_map stand_of) (by_slot c.args.self.now.shadows) c.args.u (Some c.start.result)
    ∙ ap (λ s. set (row_of c.args.self.now) c.args.u (Some s)) c.start.ensures)
