use Rattle.std.proofs.Common.{◌≡◌, true}
use Rattle.serial.specs.Rules.{slots, account_writes}
use Rattle.engine.specs.SlotSet.{members}
use Rattle.engine.specs.Table.{engine_of, other_open}
use Rattle.engine.proofs.Members.{Each}
use Rattle.engine.proofs.table.Table.account_writes.Given as goal

abbrev pub invariant-loop-v : goal.invariant-loop-v
invariant-loop-v l = record {
  so_far :
      account_writes (engine_of l.self) l.t l.page (members l.v-iterator.left)
      ≡ account_writes (engine_of l.initial.self) l.t l.page slots;
  left : Each (λ v. other_open (engine_of l.self) l.t v ≡ true) (members l.v-iterator.left);
}
