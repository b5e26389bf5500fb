use Rattle.std.proofs.Common.{is_some, sym, ap, ◌∙◌, subst}
use Rattle.serial.specs.Rules.{Engine, is_open, renew}
use Rattle.serial.specs.Sound.{ClosedBare, OpenLed}
use Rattle.engine.specs.Table.{engine_of, with_rows, without_column}
use Rattle.engine.proofs.Tables.{set_gone, bare_without, led_without, committed_by}
use Rattle.engine.proofs.table.Table.commit_slot.Goals as goal

pub renew_all-requires : goal.renew_all-requires
renew_all-requires c =
    let e = engine_of c.args.self.now in
    record {
      shut = ap (λ (q : Engine). is_open q c.args.t) c.clear_slot.ensures ∙ ap is_some (set_gone e.scripts c.args.t);
      bare = subst ClosedBare (sym c.clear_slot.ensures) (bare_without e c.args.t c.requires.bare);
      led = subst OpenLed (sym c.clear_slot.ensures) (led_without e c.args.t c.requires.led);
    }

pub returns : goal.returns
returns c =
    c.renew_all.ensures
    ∙ ap (λ (e : Engine). without_column (with_rows e (renew c.args.own.now 0 e.shadows)) c.args.t) c.clear_slot.ensures
    ∙ committed_by c.args.own.now (engine_of c.args.self.now) c.args.t
