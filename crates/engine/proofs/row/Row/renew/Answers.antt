use Rattle.std.proofs.Common.{◌≡◌, true, false, not, is_some, get_or, set, None, Some, unwrap_or, sym, ap, ◌∙◌}
use Rattle.serial.specs.Machine.{start}
use Rattle.serial.specs.Rules.{Row, remaining, furthest_of, any_shadow}
use Rattle.engine.specs.View.{seen}
use Rattle.engine.specs.Table.{row_of}
use Rattle.engine.proofs.Rows.{some_there, renewed_spoiled, renewed_kept}
use Rattle.engine.proofs.row.Row.renew.Goals as goal

pub returns-then-is_none : goal.returns-then-is_none
returns-then-is_none c =
    let v = c.args.v in
    let left = remaining c.args.own.now (row_of c.args.self.now) in
    let gone : is_some (get_or left v None) ≡ false =
    sym (ap (λ r. is_some (get_or r v None)) c.drop_readers.ensures) ∙ sym (ap is_some c.get.ensures) ∙ some_there seen c.get.result
    ∙ c.is_none.ensures
    ∙ ap not c.if-is_none.true in
    c.lead_again.ensures
    ∙ ap (λ (r : Row). set r v (Some (unwrap_or (furthest_of any_shadow v r) start))) c.drop_readers.ensures
    ∙ renewed_spoiled c.args.own.now v (row_of c.args.self.now) c.requires.led gone

pub returns-else-is_none : goal.returns-else-is_none
returns-else-is_none c =
    let v = c.args.v in
    let left = remaining c.args.own.now (row_of c.args.self.now) in
    let stays : is_some (get_or left v None) ≡ true =
    sym (ap (λ r. is_some (get_or r v None)) c.drop_readers.ensures) ∙ sym (ap is_some c.get.ensures) ∙ some_there seen c.get.result
    ∙ c.is_none.ensures
    ∙ ap not c.if-is_none.false in
    c.drop_readers.ensures ∙ renewed_kept c.args.own.now v (row_of c.args.self.now) c.requires.led stays
