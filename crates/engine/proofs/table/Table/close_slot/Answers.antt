use Rattle.std.proofs.Common.{ap, ◌∙◌}
use Rattle.serial.specs.Rules.{Engine}
use Rattle.engine.specs.Table.{engine_of, without_column}
use Rattle.engine.proofs.Tables.{closed_by}
use Rattle.engine.proofs.table.Table.close_slot.Goals as goal

pub returns : goal.returns
returns c =
    c.clear_column.ensures ∙ ap (λ (e : Engine). without_column e c.args.t) c.clear_slot.ensures
    ∙ closed_by (engine_of c.args.self.now) c.args.t
