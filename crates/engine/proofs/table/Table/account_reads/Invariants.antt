use Rattle.std.proofs.Common.{◌≡◌, true}
use Rattle.serial.specs.Rules.{slots, account_reads}
use Rattle.engine.specs.SlotSet.{members}
use Rattle.engine.specs.Table.{engine_of, unguessed}
use Rattle.engine.proofs.Members.{Each, Apart}
use Rattle.engine.proofs.table.Table.account_reads.Given as goal

abbrev pub invariant-loop-u : goal.invariant-loop-u
invariant-loop-u l = record {
  so_far :
      account_reads (engine_of l.self) l.t l.page (members l.u-iterator.left)
      ≡ account_reads (engine_of l.initial.self) l.t l.page slots;
  left : Each (λ u. unguessed (engine_of l.self) l.t u ≡ true) (members l.u-iterator.left);
  apart : Apart (members l.u-iterator.left);
}
