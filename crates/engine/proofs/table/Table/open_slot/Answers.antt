use Rattle.std.proofs.Common.{◌∙◌}
use Rattle.engine.proofs.Tables.{opened}
use Rattle.engine.proofs.table.Table.open_slot.Goals as goal

pub returns : goal.returns
returns c = c.fork.ensures ∙ opened c.args.self.now c.args.t c.args.script c.put.new.self c.put.ensures
