use Rattle.std.proofs.Common.{None, sym, ap, ◌∙◌, arith}
use Rattle.serial.specs.Rules.{slots, furthest}
use Rattle.engine.specs.SlotSet.{members}
use Rattle.engine.specs.declared.slot_set.Members.{Members}
use Rattle.engine.specs.Table.{row_of, has_shadow, unread, there_at}
use Rattle.engine.proofs.Members.{members_from, eight_places}
use Rattle.engine.specs.View.{stand_of}
use Rattle.engine.proofs.Rows.{eight_seen, of_slots, furthest_there}
use Rattle.engine.proofs.row.Row.furthest_clean.Goals as goal

pub loop-u-init : goal.loop-u-init
loop-u-init c =
    let shadows = row_of c.args.self.now in
    let s = c.args.self.now.shadows in
    let test = unread c.args.list.now in
    let best = there_at shadows c.better-best.result in
    record {
      found =
          ap (λ (m : Members). furthest test best (of_slots shadows (members m.left))) c.into_iter-u-iterator.ensures.into_iter_gives
          ∙ ap (λ us. furthest test best (of_slots shadows us)) (c.members-u-items.ensures ∙ members_from c.slots.result (has_shadow shadows) c.slots.ensures)
          ∙ furthest_there test shadows slots best
          ∙ sym (ap (furthest test best) (eight_places shadows None (eight_seen stand_of s.there s.things (omega arith))))
          ∙ ap (λ b. furthest test b shadows) c.better-best.ensures.rule;
      there = c.better-best.ensures.there;
    }

pub loop-u-preserved : goal.loop-u-preserved
loop-u-preserved c =
    let shadows = row_of c.args.self.now in
    let test = unread c.args.list.now in
    record {
      found =
          ap (λ b. furthest test b (of_slots shadows (members c.next.new.self.left))) c.better-best-in-loop-u.ensures.rule
          ∙ sym (ap (λ us. furthest test (there_at shadows c.loop-u.best) (of_slots shadows us)) c.in-Some.ensures.steps)
          ∙ c.loop-u.invariant.found;
      there = c.better-best-in-loop-u.ensures.there;
    }

pub returns : goal.returns
returns c =
    let shadows = row_of c.args.self.now in
    record {
      rule =
          sym (ap (λ us. furthest (unread c.args.list.now) (there_at shadows c.loop-u.best) (of_slots shadows us)) c.in-None.ensures.steps.0)
          ∙ c.loop-u.invariant.found;
      there = c.loop-u.invariant.there;
    }
