use Rattle.std.proofs.Common.{◌≡◌, ◌++◌, map, take, drop}
use Rattle.serial.specs.Rules.{cleared}
use Rattle.engine.specs.Table.{row_of}
use Rattle.engine.proofs.table.Table.clear_column.Given as goal

abbrev pub invariant-loop-row : goal.invariant-loop-row
invariant-loop-row l =
    map row_of l.row-items
    ≡ map (cleared l.t) (take l.row-index (map row_of l.initial.row-items)) ++ drop l.row-index (map row_of l.initial.row-items)
