use Rattle.std.proofs.Common.{◌≡◌, ◌+◌, ◌<◌, [], ◌∷◌, ◌++◌, length, get_or, set, take, drop, sym, ap, ◌∙◌, subst, arith, length-set, length-take, get_or-take, drop-set-lt}
use Rattle.std.proofs.lemmas.List.{take_more_set, drop-drop}
use Rattle.pages.specs.Pages.{Chain}
use Rattle.serial.specs.Rules.{fresh, after, answers, list_put, lists_put}
use Rattle.serial.proofs.Booking.{every_list_booked}
use Rattle.serial.proofs.Histories.{chain_then}
use Rattle.engine.specs.declared.engine.booking.Call.TheVariants.{SetAllowance}
use Rattle.engine.specs.Table.{engine_of}
use Rattle.engine.specs.Calls.{state_of}
use Rattle.engine.specs.Booking.{call_of, first_calls, CallsMade}
use Rattle.engine.proofs.Booked.{one_more, made_push, more_state, more_answers, more_lists}
use Rattle.engine.proofs.engine.booking.carry_out.Goals as goal

pub loop-i-preserved : goal.loop-i-preserved
loop-i-preserved g c =
    let pages = g.S.Reader.pages in
    let ar = g.A.Arithmetic.meaning c.args.arithmetic.now in
    let first = fresh (pages c.args.store.now) in
    let calls = c.args.calls.now in
    let i = c.loop-i.i in
    let inv = c.loop-i.invariant in
    let s = state_of c.loop-i.engine (pages c.loop-i.store) in
    let s' = state_of c.call.new.self (pages c.call.new.store) in
    let n = c.min-count.result in
    let short : i < n = omega (arith, c.loop-i-test.true, length-take n calls) in
    let l : i < length calls = omega (arith, c.min-count.ensures) in
    let room : i < length c.loop-i.answers = omega (arith, c.min-count.ensures) in
    let is : get_or (take n calls) i (SetAllowance 0) ≡ get_or calls i (SetAllowance 0) = get_or-take n calls i (SetAllowance 0) short in
    let rule = rw is at c.call.ensures.rule in
    let puts = rw is at c.call.ensures.puts in
    let a = c.call.result in (
      more_state ar first calls i s s' a l inv.0 rule,
      take_more_set c.loop-i.answers i a room ∙ ap (λ xs. xs ++ a ∷ []) inv.1 ∙ sym (more_answers ar first calls i s s' a l inv.0 rule),
      drop-set-lt (i + 1) c.loop-i.answers i a (omega arith) ∙ sym (drop-drop 1 i c.loop-i.answers) ∙ ap (drop 1) inv.2 ∙ drop-drop 1 i c.args.answers.now,
      subst (λ es. Chain g.S.Store.wrote c.args.store.now es c.call.new.store) (more_lists ar first calls i s s' a l inv.0 rule)
          (chain_then g.S.Store.wrote (lists_put ar (first_calls i calls) first) (list_put (engine_of c.loop-i.engine.table) (call_of (get_or calls i (SetAllowance 0))) a) c.args.store.now c.loop-i.store c.call.new.store inv.3 puts),
      length-set c.loop-i.answers i a ∙ inv.4,
      subst (λ cs. CallsMade pages g.S.Store.wrote ar cs (take (i + 1) (set c.loop-i.answers i a)) c.new-engine.result c.args.store.now c.call.new.self c.call.new.store) (sym (one_more ar first calls i s s' a l inv.0 rule))
          (subst (λ told. CallsMade pages g.S.Store.wrote ar (first_calls i calls ++ call_of (get_or calls i (SetAllowance 0)) ∷ []) told c.new-engine.result c.args.store.now c.call.new.self c.call.new.store) (sym (take_more_set c.loop-i.answers i a room))
          (made_push pages g.S.Store.wrote ar (first_calls i calls) (take i c.loop-i.answers) c.new-engine.result c.args.store.now c.loop-i.engine c.loop-i.store (call_of (get_or calls i (SetAllowance 0))) a c.call.new.self c.call.new.store inv.5
          (record { rule = rule; puts = puts; declined = c.call.ensures.declined; store = c.call.ensures.store; no_step = c.call.ensures.no_step }))),
    )

pub returns : goal.returns
returns g c =
    let pages = g.S.Reader.pages in
    let ar = g.A.Arithmetic.meaning c.args.arithmetic.now in
    let first = fresh (pages c.args.store.now) in
    let calls = c.args.calls.now in
    let inv = c.loop-i.invariant in
    let n : c.loop-i.i ≡ c.min-count.result = omega (arith, c.min-count.ensures, c.loop-i-test.false, length-take c.min-count.result calls) in
    record {
      count = c.min-count.ensures;
      state = inv.0 ∙ ap (λ k. after ar (first_calls k calls) first) n;
      answered = ap (λ k. take k c.loop-i.answers) (sym n) ∙ inv.1 ∙ ap (λ k. answers ar (first_calls k calls) first) n;
      untouched = ap (λ k. drop k c.loop-i.answers) (sym n) ∙ inv.2 ∙ ap (λ k. drop k c.args.answers.now) n;
      puts = subst (λ k. Chain g.S.Store.wrote c.args.store.now (lists_put ar (first_calls k calls) first) c.loop-i.store) n inv.3;
      one_by_one = record {
        first = c.new-engine.result;
        fresh = c.new-engine.ensures.rule;
        made = subst (λ k. CallsMade pages g.S.Store.wrote ar (first_calls k calls) (take k c.loop-i.answers) c.new-engine.result c.args.store.now c.loop-i.engine c.loop-i.store) n inv.5;
      };
      booked = every_list_booked ar (pages c.args.store.now) (first_calls c.min-count.result calls);
    }
