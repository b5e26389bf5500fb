use Rattle.std.proofs.Common.{◌∙◌}
use Rattle.engine.specs.BySlot.{by_slot}
use Rattle.engine.proofs.Rows.{count_filtered}
use Rattle.engine.proofs.row.Row.count.Goals as goal

pub returns : goal.returns
returns c = c.count.ensures ∙ count_filtered (by_slot c.args.self.now.shadows)
