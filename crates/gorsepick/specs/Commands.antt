-- What a session does with a command. Assumes nothing.
use Rattle.std.specs.Prelude.{◌≡◌, ℕ, length, vec_items, Some, None, Ok, Err, Option, Result}
use Rattle.std.specs.Global.{Vec}
use Rattle.arithmetic.specs.Words.{delivered}
use Rattle.pages.specs.Image.{image_fault}
use Rattle.serial.specs.declared.fault.CallFault.{CallFault}
use Rattle.serial.specs.Faults.{Answer as Told, call_cause, call_returned}
use Rattle.serial.specs.Rules.{Call, does, list_put}
use Rattle.engine.specs.declared.engine.Engine.{Engine}
use Rattle.engine.specs.Calls.{state_of}
use Rattle.serial.specs.Questions.{stand_told, entry_told}
use Rattle.engine.specs.Table.{engine_of}
use Rattle.gorsepick.specs.Answers.{Refuses, ShowsImage, ShowsWords, AnsweredBy, PutsBy}
use Rattle.gorsepick.specs.Kinds.{memory_pages, store_pages, held}
use Rattle.gorsepick.specs.Made.{call_made}
use Rattle.gorsepick.specs.declared.answer.Answer.{Answer}
use Rattle.gorsepick.specs.declared.answer.Answer.TheVariants as told
use Rattle.gorsepick.specs.declared.command.Command.{Command}
use Rattle.gorsepick.specs.declared.command.Command.TheVariants.{Store, Arithmetic, Script, Image, Words, Ask, Make, Look}
use Rattle.gorsepick.specs.declared.command.Question.{Question}
use Rattle.gorsepick.specs.declared.command.Question.TheVariants.{Stand, Entry, Shadows, Book}
use Rattle.gorsepick.specs.declared.session.Session.{Session}

-- the engine, the arithmetic and what there is of the store are as they were
pub record SameButBook (old new : Session) : Type 0 where
  pub store : held new.memory ≡ held old.memory
  pub engine : new.engine ≡ old.engine
  pub arithmetic : new.arithmetic ≡ old.arithmetic

-- what the engine told, as an answer, or its refusal
abbrev pub ShowsTold : {X : Type 0} → Result X CallFault → (X → Answer) → Answer → Type 0
ShowsTold (Ok x) show a = a ≡ show x
ShowsTold (Err f) show a = Refuses (call_cause f) (call_returned f) a

-- a question to the engine, or to the book: the number of shadows and the book's pages are not told here
abbrev pub Looked : Question → Engine → Answer → Type 0
Looked (Stand t u) e a = ShowsTold (stand_told (engine_of e.table) t u) (λ x. told.Stands x.0 x.1) a
Looked (Entry t u i) e a = ShowsTold (entry_told (engine_of e.table) t u i) told.Read a
Looked Shadows e a = (n : ℕ) × (a ≡ told.Shadows n)
Looked Book e a = (v : Vec ℕ) × (a ≡ told.Pages v)

-- a call was made with the store: it does what the rules say, and what it puts is put
pub record CallMade (old : Session) (call : Call) (a : Answer) (new : Session) : Type 0 where
  pub answer : Told
  pub rule : does (delivered old.arithmetic) call (state_of old.engine (store_pages old.memory)) ≡ (state_of new.engine (store_pages new.memory), answer)
  pub puts : PutsBy (held old.memory) (list_put (engine_of old.engine.table) call answer) (held new.memory)
  pub shown : ShowsTold answer told.Accepted a
  pub arithmetic : new.arithmetic ≡ old.arithmetic

-- a command was carried out and answered, where it has an answer
abbrev pub CarriedOut : Session → Command → Option Answer → Session → Type 0
CarriedOut old (Store m) a new = (held new.memory ≡ held (Some m)) × (new.engine ≡ old.engine) × (new.arithmetic ≡ old.arithmetic) × (a ≡ Some (told.Size (length (memory_pages m))))
CarriedOut old (Arithmetic x) a new = (held new.memory ≡ held old.memory) × (new.engine ≡ old.engine) × (new.arithmetic ≡ x) × (a ≡ None)
CarriedOut old Script a new = SameButBook old new × (a ≡ None)
CarriedOut old (Image bytes) a new = SameButBook old new × ((x : Answer) × (a ≡ Some x) × ShowsImage (vec_items bytes) (image_fault (vec_items bytes)) x)
CarriedOut old Words a new = SameButBook old new × ((x : Answer) × (a ≡ Some x) × ShowsWords (held old.memory) x)
CarriedOut old (Ask request) a new = (new.engine ≡ old.engine) × (new.arithmetic ≡ old.arithmetic) × ((x : Answer) × (a ≡ Some x) × AnsweredBy (delivered old.arithmetic) request (held old.memory) x (held new.memory))
CarriedOut old (Make made) a new = (x : Answer) × (a ≡ Some x) × CallMade old (call_made made) x new
CarriedOut old (Look question) a new = SameButBook old new × ((x : Answer) × (a ≡ Some x) × Looked question old.engine x)
