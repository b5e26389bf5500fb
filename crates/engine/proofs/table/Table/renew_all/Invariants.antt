use Rattle.std.proofs.Common.{◌≡◌, true, [], map}
use Rattle.serial.specs.Rules.{is_open}
use Rattle.engine.specs.SlotSet.{members}
use Rattle.engine.specs.Table.{row_of, engine_of}
use Rattle.engine.proofs.Members.{Each, puts}
use Rattle.engine.proofs.Tables.{after, all_after, Led}
use Rattle.engine.proofs.table.Table.renew_all.Given as goal

abbrev pub invariant-loop-v : goal.invariant-loop-v
invariant-loop-v l = record {
  rows : puts (after l.own l.t) [] (map row_of l.self.rows) (members l.v-iterator.left) ≡ all_after l.own l.t 0 (map row_of l.initial.self.rows);
  led : Led l.own l.t (engine_of l.initial.self) (map row_of l.self.rows);
  opens : Each (λ v. is_open (engine_of l.initial.self) v ≡ true) (members l.v-iterator.left);
  scripts : l.self.scripts ≡ l.initial.self.scripts;
  allowance : l.self.allowance ≡ l.initial.self.allowance;
}
