use Rattle.std.proofs.Common.{None, ap, ◌∙◌}
use Rattle.std.specs.Option.{option_map}
use Rattle.std.proofs.lemmas.List.{map-set}
use Rattle.engine.specs.View.{stand_of}
use Rattle.engine.specs.BySlot.{by_slot}
use Rattle.engine.proofs.Rows.{view}
use Rattle.engine.proofs.row.Row.take_away.Goals as goal

pub returns : goal.returns
returns c = ap view c.take_away.ensures ∙ map-set (option_map stand_of) (by_slot c.args.self.now.shadows) c.args.u None
