use Rattle.std.proofs.Common.{None, get_or, sym, ap, ◌∙◌, arith}
use Rattle.serial.specs.Rules.{slots, kept}
use Rattle.serial.proofs.Table.{none_is}
use Rattle.engine.specs.SlotSet.{members}
use Rattle.engine.specs.declared.slot_set.Members.{Members}
use Rattle.engine.specs.Table.{row_of, has_shadow}
use Rattle.engine.proofs.Members.{members_from, puts, skip_puts, puts_all}
use Rattle.engine.specs.View.{stand_of}
use Rattle.engine.proofs.Rows.{eight_seen}
use Rattle.engine.proofs.row.Row.drop_readers.Goals as goal

pub loop-u-init : goal.loop-u-init
loop-u-init c =
    let shadows = row_of c.args.self.now in
    let own = c.args.own.now in
    let s = c.args.self.now.shadows in
    ap (λ (m : Members). puts (λ u. kept own) None shadows (members m.left)) c.into_iter-u-iterator.ensures.into_iter_gives
    ∙ ap (puts (λ u. kept own) None shadows) (c.members-u-items.ensures ∙ members_from c.slots.result (has_shadow shadows) c.slots.ensures)
    ∙ skip_puts (λ u. kept own) None (has_shadow shadows) shadows slots
    (λ u h. let none = none_is (get_or shadows u None) h in ap (kept own) none ∙ sym none)
    ∙ puts_all (kept own) shadows None (eight_seen stand_of s.there s.things (omega arith))

pub loop-u-preserved : goal.loop-u-preserved
loop-u-preserved c =
    let own = c.args.own.now in
    ap (λ r. puts (λ u. kept own) None r (members c.next.new.self.left)) c.drop_reader.ensures
    ∙ sym (ap (puts (λ u. kept own) None (row_of c.loop-u.self)) c.in-Some.ensures.steps)
    ∙ c.loop-u.invariant

pub returns : goal.returns
returns c =
    sym (ap (puts (λ u. kept c.args.own.now) None (row_of c.loop-u.self)) c.in-None.ensures.steps.0)
    ∙ c.loop-u.invariant
