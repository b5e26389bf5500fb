use Rattle.std.proofs.Common.{Some, set, unwrap_or, ap, ◌∙◌}
use Rattle.serial.specs.Machine.{start}
use Rattle.serial.specs.Rules.{Row, row}
use Rattle.engine.specs.Table.{engine_of, there_at}
use Rattle.engine.proofs.Tables.{same_row, row-set}
use Rattle.engine.proofs.table.Table.fork.Goals as goal

pub returns : goal.returns
returns c =
    let b = c.args.self.now in
    let forked = λ (r : Row). set r c.args.u (Some (unwrap_or (there_at r c.args.from) start)) in
    rw c.index.ensures.place
    (row-set b c.args.t c.fork.new.self (forked (row (engine_of b) c.args.t)) ((rw c.index.ensures.place at c.fork.ensures) ∙ ap forked (same_row b c.args.t)))
