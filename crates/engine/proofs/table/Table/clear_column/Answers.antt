use Rattle.std.proofs.Common.{arith}
use Rattle.serial.specs.Rules.{cleared}
use Rattle.engine.specs.Table.{row_of}
use Rattle.engine.proofs.Rows.{over_more}
use Rattle.engine.proofs.Tables.{no_row}
use Rattle.engine.proofs.table.Table.clear_column.Goals as goal

pub loop-row-preserved : goal.loop-row-preserved
loop-row-preserved c =
    over_more row_of (cleared c.args.t) c.args.self.now.rows c.loop-row.row-index no_row c.loop-row.row-items c.take_away.new.self (omega arith)
    c.loop-row.auto.row-items c.loop-row.invariant c.take_away.ensures
