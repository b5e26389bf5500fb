use Rattle.std.proofs.Common.{◌≡◌, true, sym, ap, ◌∙◌, subst}
use Rattle.serial.specs.Rules.{slots, account_writes}
use Rattle.engine.specs.SlotSet.{members}
use Rattle.engine.specs.declared.slot_set.Members.{Members}
use Rattle.engine.specs.Table.{engine_of, other_open}
use Rattle.engine.proofs.Members.{members_from, Each, all_pass, each_more}
use Rattle.engine.proofs.Accounts.{open_stays, writes_at}
use Rattle.engine.proofs.table.Table.account_writes.Goals as goal

pub account_write-requires : goal.account_write-requires
account_write-requires c =
    let first = subst (Each (λ v. other_open (engine_of c.loop-v.self) c.args.t v ≡ true)) c.in-Some.ensures.steps c.loop-v.invariant.left in
    record { other = first.0 }

pub loop-v-init : goal.loop-v-init
loop-v-init c =
    let e = engine_of c.args.self.now in
    let some = ap (λ (m : Members). members m.left) c.into_iter-v-iterator.ensures.into_iter_gives ∙ c.members-v-items.ensures ∙ members_from c.other_open.result (other_open e c.args.t) c.other_open.ensures in
    record {
      so_far = ap (account_writes e c.args.t c.args.page) some ∙ writes_at c.args.t c.args.page e;
      left = subst (Each (λ v. other_open e c.args.t v ≡ true)) (sym some) (all_pass (other_open e c.args.t) slots);
    }

pub loop-v-preserved : goal.loop-v-preserved
loop-v-preserved c =
    let t = c.args.t in
    let p = c.args.page in
    let e = engine_of c.loop-v.self in
    let us = members c.next.new.self.left in
    let first = subst (Each (λ v. other_open e t v ≡ true)) c.in-Some.ensures.steps c.loop-v.invariant.left in
    record {
      so_far =
          ap (λ q. account_writes q t p us) c.account_write.ensures
          ∙ sym (ap (account_writes e t p) c.in-Some.ensures.steps)
          ∙ c.loop-v.invariant.so_far;
      left = each_more (λ v h. ap (λ q. other_open q t v) c.account_write.ensures ∙ open_stays t p e c.in-Some.v v ∙ h) us first.1;
    }

pub returns : goal.returns
returns c =
    sym (ap (account_writes (engine_of c.loop-v.self) c.args.t c.args.page) c.in-None.ensures.steps.0)
    ∙ c.loop-v.invariant.so_far
