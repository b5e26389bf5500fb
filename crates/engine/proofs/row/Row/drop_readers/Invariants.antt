use Rattle.std.proofs.Common.{◌≡◌, None}
use Rattle.serial.specs.Rules.{kept, remaining}
use Rattle.engine.specs.SlotSet.{members}
use Rattle.engine.specs.Table.{row_of}
use Rattle.engine.proofs.Members.{puts}
use Rattle.engine.proofs.row.Row.drop_readers.Given as goal

abbrev pub invariant-loop-u : goal.invariant-loop-u
invariant-loop-u l =
    puts (λ u. kept l.own) None (row_of l.self) (members l.u-iterator.left)
    ≡ remaining l.own (row_of l.initial.self)
