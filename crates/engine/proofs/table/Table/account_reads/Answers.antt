use Rattle.std.proofs.Common.{◌≡◌, true, sym, ap, ◌∙◌, subst}
use Rattle.serial.specs.Rules.{slots, account_reads}
use Rattle.engine.specs.SlotSet.{members}
use Rattle.engine.specs.declared.slot_set.Members.{Members}
use Rattle.engine.specs.Table.{engine_of, unguessed}
use Rattle.engine.proofs.Members.{members_from, Each, all_pass, each_both, Apart, apart_filter, slots_apart}
use Rattle.engine.proofs.Accounts.{guess_stays, reads_at}
use Rattle.engine.proofs.table.Table.account_reads.Goals as goal

pub account_read-requires : goal.account_read-requires
account_read-requires c =
    let first = subst (Each (λ u. unguessed (engine_of c.loop-u.self) c.args.t u ≡ true)) c.in-Some.ensures.steps c.loop-u.invariant.left in
    record { unguessed = first.0 }

pub loop-u-init : goal.loop-u-init
loop-u-init c =
    let e = engine_of c.args.self.now in
    let q = unguessed e c.args.t in
    let some = ap (λ (m : Members). members m.left) c.into_iter-u-iterator.ensures.into_iter_gives ∙ c.members-u-items.ensures ∙ members_from c.unguessed.result q c.unguessed.ensures in
    record {
      so_far = ap (account_reads e c.args.t c.args.page) some ∙ reads_at c.args.t c.args.page e;
      left = subst (Each (λ u. q u ≡ true)) (sym some) (all_pass q slots);
      apart = subst Apart (sym some) (apart_filter q slots slots_apart);
    }

pub loop-u-preserved : goal.loop-u-preserved
loop-u-preserved c =
    let t = c.args.t in
    let p = c.args.page in
    let e = engine_of c.loop-u.self in
    let u = c.in-Some.u in
    let us = members c.next.new.self.left in
    let first = subst (Each (λ v. unguessed e t v ≡ true)) c.in-Some.ensures.steps c.loop-u.invariant.left in
    let apart = subst Apart c.in-Some.ensures.steps c.loop-u.invariant.apart in
    record {
      so_far =
          ap (λ q. account_reads q t p us) c.account_read.ensures
          ∙ sym (ap (account_reads e t p) c.in-Some.ensures.steps)
          ∙ c.loop-u.invariant.so_far;
      left = each_both (λ v h ne. ap (λ q. unguessed q t v) c.account_read.ensures ∙ guess_stays t p e u v ne ∙ h) us first.1 apart.0;
      apart = apart.1;
    }

pub returns : goal.returns
returns c =
    sym (ap (account_reads (engine_of c.loop-u.self) c.args.t c.args.page) c.in-None.ensures.steps.0)
    ∙ c.loop-u.invariant.so_far
