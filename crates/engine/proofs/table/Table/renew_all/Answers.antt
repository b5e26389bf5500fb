use Rattle.std.proofs.Common.{◌≡◌, true, [], map, is_some, None, get_or, sym, refl, ap, ◌∙◌, subst, arith}
use Rattle.std.proofs.lemmas.List.{length-map}
use Rattle.serial.specs.Rules.{slots, is_open, cleared}
use Rattle.engine.specs.SlotSet.{members}
use Rattle.engine.specs.declared.slot_set.Members.{Members}
use Rattle.engine.specs.Table.{row_of, scripts_of, engine_of}
use Rattle.engine.proofs.Members.{members_from, Each, all_pass, puts}
use Rattle.engine.proofs.Tables.{same_engine, after, Led, led_after, renewed_at, row_at, row_after}
use Rattle.engine.proofs.table.Table.renew_all.Goals as goal

pub renew-requires : goal.renew-requires
renew-requires c =
    let inv = c.loop-v.invariant in
    let opens = subst (Each (λ v. is_open (engine_of c.args.self.now) v ≡ true)) c.in-Some.ensures.steps inv.opens in
    rw c.index.ensures.place
    (record {
      led = ap (λ r. is_some (get_or r c.in-Some.v None)) (sym (row_at c.loop-v.self.rows c.in-Some.v)) ∙ inv.led c.in-Some.v opens.0;
    })

pub loop-v-init : goal.loop-v-init
loop-v-init c =
    let e = engine_of c.args.self.now in
    let rows = map row_of c.args.self.now.rows in
    let some = ap (λ (m : Members). members m.left) c.into_iter-v-iterator.ensures.into_iter_gives ∙ c.members-v-items.ensures ∙ members_from c.open_slots.result (is_open e) c.open_slots.ensures in
    record {
      rows =
          ap (puts (after c.args.own.now c.args.t) [] rows) some
          ∙ renewed_at c.args.own.now c.args.t rows e (simp length-map (omega arith)) c.requires.bare;
      led = c.requires.led;
      opens = subst (Each (λ v. is_open e v ≡ true)) (sym some) (all_pass (is_open e) slots);
      scripts = refl;
      allowance = refl;
    }

pub loop-v-preserved : goal.loop-v-preserved
loop-v-preserved c =
    let e = engine_of c.args.self.now in
    let own = c.args.own.now in
    let t = c.args.t in
    let v = c.in-Some.v in
    let m = c.loop-v.self in
    let inv = c.loop-v.invariant in
    let left = members c.next.new.self.left in
    let opens = subst (Each (λ u. is_open e u ≡ true)) c.in-Some.ensures.steps inv.opens in
    let renewed = rw c.index.ensures.place at (c.take_away.ensures ∙ ap (cleared t) c.renew.ensures) in
    let row = row_after own t m.rows v c.take_away.new.self renewed in
    rw c.index.ensures.place
    (record {
      rows =
          ap (λ rs. puts (after own t) [] rs left) row
          ∙ sym (ap (puts (after own t) [] (map row_of m.rows)) c.in-Some.ensures.steps)
          ∙ inv.rows;
      led = subst (Led own t e) (sym row) (led_after own t e c.requires.shut v (map row_of m.rows) inv.led);
      opens = opens.1;
      scripts = inv.scripts;
      allowance = inv.allowance;
    })

pub returns : goal.returns
returns c =
    let inv = c.loop-v.invariant in
    same_engine inv.allowance (ap scripts_of inv.scripts)
    (sym (ap (puts (after c.args.own.now c.args.t) [] (map row_of c.loop-v.self.rows)) c.in-None.ensures.steps.0) ∙ inv.rows)
