use Rattle.std.proofs.Common.{◌∙◌, false, set, ap, arith}
use Rattle.serial.specs.Rules.{is_open}
use Rattle.engine.specs.Table.{engine_of}
use Rattle.engine.proofs.SlotSets.{flags_without}
use Rattle.engine.proofs.table.Table.other_open.Goals as goal

pub returns : goal.returns
returns c =
    c.remove.ensures ∙ ap (λ bs. set bs c.args.t false) c.open_slots-slots.ensures
    ∙ flags_without (is_open (engine_of c.args.self.now)) c.args.t (omega arith)
