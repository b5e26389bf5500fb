use Rattle.engine.proofs.Tables.{slot_cleared}
use Rattle.engine.proofs.table.Table.clear_slot.Goals as goal

pub returns : goal.returns
returns c =
    rw c.index.ensures.place
    (slot_cleared c.args.self.now c.args.t c.take_away.new.self c.clear.new.self c.take_away.ensures c.clear.ensures)
