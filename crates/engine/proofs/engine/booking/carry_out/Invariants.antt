use Rattle.std.proofs.Common.{◌≡◌, length, take, drop}
use Rattle.pages.specs.Pages.{Chain}
use Rattle.serial.specs.Rules.{fresh, after, answers, lists_put}
use Rattle.engine.specs.Calls.{state_of}
use Rattle.engine.specs.Booking.{first_calls, CallsMade}
use Rattle.engine.proofs.engine.booking.carry_out.Given as goal

abbrev pub invariant-loop-i : goal.invariant-loop-i
invariant-loop-i g l =
    let pages = g.S.Reader.pages in
    let ar = g.A.Arithmetic.meaning l.arithmetic in
    let first = fresh (pages l.initial.store) in
    (state_of l.engine (pages l.store) ≡ after ar (first_calls l.i l.calls) first)
    × (take l.i l.answers ≡ answers ar (first_calls l.i l.calls) first)
    × (drop l.i l.answers ≡ drop l.i l.initial.answers)
    × Chain g.S.Store.wrote l.initial.store (lists_put ar (first_calls l.i l.calls) first) l.store
    × (length l.answers ≡ length l.initial.answers)
    × CallsMade pages g.S.Store.wrote ar (first_calls l.i l.calls) (take l.i l.answers) l.initial.engine l.initial.store l.engine l.store
