use Rattle.std.proofs.Common.{◌∙◌, arith}
use Rattle.script.specs.View.{steps_of}
use Rattle.engine.proofs.Rows.{slots_seen}
use Rattle.engine.proofs.table.Table.open_slots.Goals as goal

pub returns : goal.returns
returns c = c.slots.ensures ∙ slots_seen steps_of c.args.self.now.scripts (omega arith)
