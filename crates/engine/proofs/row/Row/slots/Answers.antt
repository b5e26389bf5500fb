use Rattle.std.proofs.Common.{◌∙◌, arith}
use Rattle.engine.specs.View.{stand_of}
use Rattle.engine.proofs.Rows.{slots_seen}
use Rattle.engine.proofs.row.Row.slots.Goals as goal

pub returns : goal.returns
returns c = c.slots.ensures ∙ slots_seen stand_of c.args.self.now.shadows (omega arith)
