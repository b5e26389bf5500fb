use Rattle.std.proofs.Common.{◌∙◌}
use Rattle.serial.specs.Rules.{row}
use Rattle.engine.specs.Table.{engine_of, other_open, has_shadow}
use Rattle.engine.proofs.SlotSets.{minus_from}
use Rattle.engine.proofs.table.Table.unguessed.Goals as goal

pub returns : goal.returns
returns c =
    let e = engine_of c.args.self.now in
    c.minus.ensures
    ∙ minus_from c.other_open.result c.slots.result (other_open e c.args.t) (has_shadow (row e c.args.t)) c.other_open.ensures (rw c.row.ensures at c.slots.ensures)
