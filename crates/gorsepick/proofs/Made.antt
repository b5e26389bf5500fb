-- A call that is made between changes of the book alone is made so. Assumes nothing.
use Rattle.std.proofs.Common.{◌≡◌, Ok, Err, Result, IfOk, ◌∙◌}
use Rattle.arithmetic.specs.Words.{delivered}
use Rattle.serial.specs.Faults.{Answer as Told}
use Rattle.serial.specs.Rules.{Call, does, list_put}
use Rattle.engine.specs.Calls.{state_of}
use Rattle.engine.specs.Table.{engine_of}
use Rattle.gorsepick.specs.Answers.{PutsBy}
use Rattle.gorsepick.specs.Commands.{SameButBook, ShowsTold, CallMade}
use Rattle.gorsepick.specs.Kinds.{store_pages, held}
use Rattle.gorsepick.specs.declared.answer.Answer.{Answer}
use Rattle.gorsepick.specs.declared.answer.Answer.TheVariants as told
use Rattle.gorsepick.specs.declared.session.Session.{Session}

pub same_twice : (a b c : Session) → SameButBook a b → SameButBook b c → SameButBook a c
same_twice a b c p q = record { store = q.store ∙ p.store; engine = q.engine ∙ p.engine; arithmetic = q.arithmetic ∙ p.arithmetic }

module _ (old mid called entered new : Session) (call : Call) (answer : Told) where
  call_so : (a : Answer) → SameButBook old mid
      → does (delivered mid.arithmetic) call (state_of mid.engine (store_pages mid.memory)) ≡ (state_of called.engine (store_pages called.memory), answer)
      → PutsBy (held mid.memory) (list_put (engine_of mid.engine.table) call answer) (held called.memory)
      → called.arithmetic ≡ mid.arithmetic → SameButBook called new → ShowsTold answer told.Accepted a → CallMade old call a new
  call_so a s rule puts same k shown = record {
    answer = answer;
    rule = rw (← s.arithmetic, ← s.engine, ← s.store, k.engine, k.store) rule;
    puts = rw (← s.store, ← s.engine, k.store) puts;
    shown = shown;
    arithmetic = k.arithmetic ∙ same ∙ s.arithmetic;
  }

  pub made_so : {E : Type 0} (r : Result Answer E) → SameButBook old mid
      → does (delivered mid.arithmetic) call (state_of mid.engine (store_pages mid.memory)) ≡ (state_of called.engine (store_pages called.memory), answer)
      → PutsBy (held mid.memory) (list_put (engine_of mid.engine.table) call answer) (held called.memory)
      → called.arithmetic ≡ mid.arithmetic → SameButBook called entered → SameButBook entered new → IfOk r (ShowsTold answer told.Accepted) → IfOk r (λ a. CallMade old call a new)
  made_so (Ok a) s rule puts same k l shown = call_so a s rule puts same (same_twice called entered new k l) shown
  made_so (Err e) s rule puts same k l shown = tt
