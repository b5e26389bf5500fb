use Rattle.std.proofs.Common.{◌≡◌}
use Rattle.serial.specs.Rules.{furthest, furthest_of}
use Rattle.engine.specs.SlotSet.{members}
use Rattle.engine.specs.Table.{row_of, unread, there_at, IsThere}
use Rattle.engine.proofs.Rows.{of_slots}
use Rattle.engine.proofs.row.Row.furthest_clean.Given as goal

abbrev pub invariant-loop-u : goal.invariant-loop-u
invariant-loop-u l = record {
  found : furthest (unread l.list) (there_at (row_of l.self) l.best) (of_slots (row_of l.self) (members l.u-iterator.left)) ≡ furthest_of (unread l.list) l.fn.t (row_of l.self);
  there : IsThere (row_of l.self) l.best;
}
