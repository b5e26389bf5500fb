use Rattle.std.proofs.Common.{Some, set, unwrap_or, ap, ◌∙◌}
use Rattle.serial.specs.Machine.{start}
use Rattle.engine.specs.Table.{row_of}
use Rattle.engine.proofs.Rows.{furthest_any}
use Rattle.engine.proofs.row.Row.lead_again.Goals as goal

pub returns : goal.returns
returns c =
    let shadows = row_of c.args.self.now in
    c.fork.ensures
    ∙ ap (λ o. set shadows c.args.v (Some (unwrap_or o start))) (c.furthest_clean-furthest.ensures.rule ∙ furthest_any c.args.v shadows)
