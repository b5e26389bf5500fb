-- What the answers of a store and of a decoder are to the program. Assumes nothing.
use Rattle.std.specs.Prelude.{◌≡◌, ℕ, List, [], length, take, Some, None, Ok, Err, vec_items, Option, Result}
use Rattle.std.specs.Global.{Vec}
use Rattle.pages.specs.Pages.{word_at, Put, Chain}
use Rattle.pages.specs.Image.{image_pages, image_cause, image_returned}
use Rattle.pages.specs.Load.{ImageLoaded, image_load_cause, image_load_returned}
use Rattle.pages.specs.declared.StoreFault.{StoreFault}
use Rattle.pages.specs.declared.WriteEntry.{WriteEntry}
use Rattle.pages.specs.declared.fault.ImageFault.{ImageFault}
use Rattle.pages.specs.declared.fault.ImageLoadFault.{ImageLoadFault}
use Rattle.script.specs.Script.{decoded, script_cause, script_returned}
use Rattle.serial.specs.Machine.{Meaning}
use Rattle.engine.specs.Alone.{RanAlone}
use Rattle.engine.specs.declared.alone.AloneFault.{AloneFault}
use Rattle.engine.specs.declared.alone.AloneFault.TheVariants.{Script, Step}
use Rattle.gorsepick.specs.Kinds.{kind_pages, kind_wrote}
use Rattle.gorsepick.specs.declared.memory.Kind.{Kind}
use Rattle.gorsepick.specs.declared.memory.Kind.TheVariants.{Flat}
use Rattle.gorsepick.specs.declared.answer.Answer.{Answer}
use Rattle.gorsepick.specs.declared.answer.Answer.TheVariants.{Size, Word, Fault, Written, Pages, Words, Loaded, Finished, Stopped, Refused}
use Rattle.gorsepick.specs.declared.command.Request.{Request}
use Rattle.gorsepick.specs.declared.command.Request.TheVariants as asked

abbrev pub read_answer : Result ℕ StoreFault → Answer
read_answer (Ok w) = Word w
read_answer (Err f) = Fault f.page

abbrev pub put_answer : Result (Unit {0}) StoreFault → Answer
put_answer (Ok x) = Written
put_answer (Err f) = Fault f.page

-- these pages
abbrev pub Shows : List ℕ → Answer → Type 0
Shows pages a = (v : Vec ℕ) × (a ≡ Pages v) × (vec_items v ≡ pages)

-- the words of what there is of the store
abbrev pub ShowsWords : Option (Kind × List ℕ) → Answer → Type 0
ShowsWords None a = (v : Vec ℕ) × (a ≡ Words v) × (vec_items v ≡ [])
ShowsWords (Some m) a = (v : Vec ℕ) × (a ≡ Words v) × (vec_items v ≡ m.1)

-- this number, and the first three of these values: no refusal tells more
abbrev pub Refuses : ℕ → List ℕ → Answer → Type 0
Refuses cause returned a = (v : Vec ℕ) × (a ≡ Refused cause v) × (vec_items v ≡ take 3 returned)

-- bytes as an image: its pages, or what is wrong with it
abbrev pub ShowsImage : List ℕ → Option ImageFault → Answer → Type 0
ShowsImage bytes None a = Shows (image_pages bytes) a
ShowsImage bytes (Some f) a = Refuses (image_cause f) (image_returned f) a

abbrev pub LoadAnswer : Result (Unit {0}) ImageLoadFault → Answer → Type 0
LoadAnswer (Ok x) a = a ≡ Loaded
LoadAnswer (Err f) a = Refuses (image_load_cause f) (image_load_returned f) a

-- a run alone: register 0 and the number of pages put, or the step and the page that is not there
abbrev pub AloneAnswer : Result (ℕ × ℕ) AloneFault → Answer → Type 0
AloneAnswer (Ok (word, count)) a = a ≡ Finished word count
AloneAnswer (Err (Script f)) a = Refuses (script_cause f) (script_returned f) a
AloneAnswer (Err (Step n f)) a = a ≡ Stopped n f.page

module _ {S : Type 0} (pages : S → List ℕ) (wrote : S → ℕ → ℕ → S → Type 0) (ar : Meaning) where
  -- a request took the store s to t and was answered a
  abbrev pub Answered : Request → S → Answer → S → Type 0
  Answered asked.Size s a t = (a ≡ Size (length (pages s))) × (t ≡ s)
  Answered (asked.Get page) s a t = (a ≡ read_answer (word_at (pages s) page)) × (t ≡ s)
  Answered (asked.Put page word) s a t =
      (o : Result (Unit {0}) StoreFault) × Put pages wrote s page word o t × (a ≡ put_answer o)
  Answered asked.Pages s a t = Shows (pages s) a × (t ≡ s)
  Answered (asked.Load bytes) s a t =
      (o : Result (Unit {0}) ImageLoadFault) × ImageLoaded pages wrote (vec_items bytes) s o t × LoadAnswer o a
  Answered (asked.Alone bytes) s a t =
      (o : Result (ℕ × ℕ) AloneFault) × RanAlone pages wrote ar s (decoded (vec_items bytes)) o t × AloneAnswer o a

-- the same over words that are read as a store of this kind
abbrev pub AnsweredIn : Kind → Meaning → Request → List ℕ → Answer → List ℕ → Type 0
AnsweredIn kind = Answered (kind_pages kind) (kind_wrote kind)

-- and over what there is of the store, whose kind stays. Before one is given a flat store with no words stands in for it, of
-- which nothing is kept
abbrev pub AnsweredBy : Meaning → Request → Option (Kind × List ℕ) → Answer → Option (Kind × List ℕ) → Type 0
AnsweredBy ar request None a after = (vs : List ℕ) × AnsweredIn Flat ar request [] a vs × (after ≡ None)
AnsweredBy ar request (Some m) a after = (vs : List ℕ) × AnsweredIn m.0 ar request m.1 a vs × (after ≡ Some (m.0, vs))

-- puts of these pages and words, in this order, to what there is of the store, whose kind stays
abbrev pub PutsBy : Option (Kind × List ℕ) → List WriteEntry → Option (Kind × List ℕ) → Type 0
PutsBy None es after = after ≡ None
PutsBy (Some m) es after = (vs : List ℕ) × Chain (kind_wrote m.0) m.1 es vs × (after ≡ Some (m.0, vs))
