-- What a known run is, and what it is for one to hold. Assumes nothing.
--
-- A run tells what is asked and what comes of it. It holds if the definitions, given what is asked, make the same of it.
use Rattle.std.specs.Prelude.{◌≡◌, ℕ, cond, List, [], ◌∷◌, length, Some, None, Ok, Err, Option, Result, ◌==◌, nat_lt}
use Rattle.pages.specs.Pages.{word_at}
use Rattle.pages.specs.declared.StoreFault.{StoreFault}
use Rattle.pages.specs.Log.{log_pages, log_put}
use Rattle.script.specs.Script.{decoded, script_cause, script_returned}
use Rattle.script.specs.declared.Register.TheVariants.{R0}
use Rattle.script.specs.declared.ScriptFault.{ScriptFault}
use Rattle.serial.specs.declared.fault.Accepted.{Accepted}
use Rattle.serial.specs.declared.fault.Standing.{Standing}
use Rattle.serial.specs.Faults.{Answer, call_cause, call_returned}
use Rattle.serial.specs.Machine.{Meaning, Steps, Stand, holds}
use Rattle.serial.specs.Alone.{Reached, there, fault, past_end, alone, whole_run, before_read_of, put_all}
use Rattle.serial.specs.Rules.{Engine, State, fresh, script_of, shadow, lead_writes, standing, Call, does}

-- what a call answers; a refusal by its number and its values
pub data Told : Type 0 where
  says : Accepted → Told
  refuses : ℕ → List ℕ → Told

abbrev pub told : Answer → Told
told (Ok how) = says how
told (Err f) = refuses (call_cause f) (call_returned f)

-- what happens to an engine: a call is made, and answers; a shadow of one slot for another is looked at, and stands at a
-- step where its next turn finds something, or is not there; the same, with all that is where it stands; what the commit of
-- one slot would do to another now is looked at: it spoils it, whose run alone stands somewhere before its first store read
-- of a page to be replaced, or does not; the pages are looked at; from here on the host gives a store with other pages
pub data Event : Type 0 where
  asks : Call → Told → Event
  looks : ℕ → ℕ → Option (ℕ × Standing) → Event
  shows : ℕ → ℕ → Option Stand → Event
  would_spoil : ℕ → ℕ → Option Stand → Event
  pages_are : List ℕ → Event
  store_is : List ℕ → Event

-- where a shadow stands and what its next turn finds
abbrev pub seen : Engine → ℕ → ℕ → Option Steps → Option Stand → Option (ℕ × Standing)
seen e t u None s = None
seen e t u (Some script) None = None
seen e t u (Some script) (Some s) = Some (s.step, standing e t u script s)

-- where a run alone got to, if that is before this step
abbrev pub earlier : ℕ → Reached → Option Stand
earlier n (there s) = cond (nat_lt s.step n) (Some s) None
earlier n (fault step p) = None
earlier n past_end = None

-- A commit of t, which replaces the pages that its leading shadow has written, spoils another transaction v if v's script,
-- run alone over the present pages to v's leading shadow's step, makes a store read of such a page. The answer is where that run
-- stands before its first such read
abbrev pub spoiled_from : Meaning → State → ℕ → Option Steps → Option Stand → Option Stand
spoiled_from ar s t None lead = None
spoiled_from ar s t (Some script) None = None
spoiled_from ar s t (Some script) (Some lead) =
    earlier lead.step (alone ar script s.pages (before_read_of (lead_writes s.engine t) script))

abbrev pub spoiled_by : Meaning → State → ℕ → ℕ → Option Stand
spoiled_by ar s t v = cond (v == t) None (spoiled_from ar s t (script_of s.engine v) (shadow s.engine v v))

-- the same events, with what the rules make of them
abbrev pub happens : Meaning → State → List Event → List Event
happens ar s [] = []
happens ar s (asks c a ∷ es) = asks c (told (does ar c s).1) ∷ happens ar (does ar c s).0 es
happens ar s (looks t u found ∷ es) =
    looks t u (seen s.engine t u (script_of s.engine t) (shadow s.engine t u)) ∷ happens ar s es
happens ar s (shows t u found ∷ es) = shows t u (shadow s.engine t u) ∷ happens ar s es
happens ar s (would_spoil t v first ∷ es) = would_spoil t v (spoiled_by ar s t v) ∷ happens ar s es
happens ar s (pages_are pages ∷ es) = pages_are s.pages ∷ happens ar s es
happens ar s (store_is pages ∷ es) = store_is pages ∷ happens ar (record { engine = s.engine; pages = pages }) es

-- how a script run alone ends: at its end, with register 0, the number of pages put and the pages after; with a fault at
-- a step for a page; or the bytes are no script. No decoded script is unending
pub data Ending : Type 0 where
  answers : ℕ → ℕ → List ℕ → Ending
  faults : ℕ → ℕ → Ending
  no_script : ℕ → List ℕ → Ending
  unending : Ending

abbrev pub ending : List ℕ → Reached → Ending
ending pages (there s) = answers (holds s R0) (length s.own) (put_all s.own pages)
ending pages (fault step p) = faults step p
ending pages past_end = unending

abbrev pub ends : Meaning → List ℕ → Result Steps ScriptFault → Ending
ends ar pages (Ok script) = ending pages (whole_run ar script pages)
ends ar pages (Err f) = no_script (script_cause f) (script_returned f)

-- the pages that an ending leaves
abbrev pub leaves : List ℕ → Ending → List ℕ
leaves pages (answers r n after) = after
leaves pages (faults step p) = pages
leaves pages (no_script number values) = pages
leaves pages unending = pages

-- bytes run alone, and how that ends
pub data Lone : Type 0 where
  runs : List ℕ → Ending → Lone

-- the same runs, one after the other, with what a run alone is
abbrev pub in_turn : Meaning → List ℕ → List Lone → List Lone
in_turn ar pages [] = []
in_turn ar pages (runs bytes end ∷ rest) =
    runs bytes (ends ar pages (decoded bytes)) ∷ in_turn ar (leaves pages (ends ar pages (decoded bytes))) rest

-- what decoding comes to: a script of so many bytes and steps, or a refusal
pub data Decoding : Type 0 where
  accepted : ℕ → ℕ → Decoding
  refused : ℕ → List ℕ → Decoding

abbrev pub decoding : List ℕ → Result Steps ScriptFault → Decoding
decoding bytes (Ok script) = accepted (length bytes) (length script)
decoding bytes (Err f) = refused (script_cause f) (script_returned f)

-- bytes to decode, and what that comes to
pub data Given : Type 0 where
  gives : List ℕ → Decoding → Given

-- the same bytes, with what decoding makes of them
abbrev pub decodings : List Given → List Given
decodings [] = []
decodings (gives bytes d ∷ rest) = gives bytes (decoding bytes (decoded bytes)) ∷ decodings rest

-- what is asked of the words of a log store: a page is looked at, and holds a word, or the answer is a fault for a page; a
-- page is given a word, and then the words are these, as before where it is not there
pub data Logged : Type 0 where
  page_holds : ℕ → ℕ → Logged
  no_page : ℕ → ℕ → Logged
  page_takes : ℕ → ℕ → List ℕ → Logged

-- a page that was looked at, with what the store answers
abbrev pub looked : ℕ → Result ℕ StoreFault → Logged
looked p (Ok w) = page_holds p w
looked p (Err f) = no_page p f.page

-- the words after a put, which changes nothing where the page is not below the size
abbrev pub put_in : List ℕ → ℕ → ℕ → List ℕ
put_in words p w = cond (nat_lt p (length (log_pages words))) (log_put words p w) words

-- the same, with what a log store makes of it, one after the other
abbrev pub logs : List ℕ → List Logged → List Logged
logs words [] = []
logs words (page_holds p held ∷ rest) = looked p (word_at (log_pages words) p) ∷ logs words rest
logs words (no_page p q ∷ rest) = looked p (word_at (log_pages words) p) ∷ logs words rest
logs words (page_takes p w after ∷ rest) = page_takes p w (put_in words p w) ∷ logs (put_in words p w) rest

-- a run of the engine from fresh, over these pages, with its events; scripts run alone, one after the other, over these
-- pages; bytes decoded; the words of a log store, with what is asked of them
pub data Run : Type 0 where
  engine_run : Meaning → List ℕ → List Event → Run
  alone_runs : Meaning → List ℕ → List Lone → Run
  decodes : List Given → Run
  log_run : List ℕ → List Logged → Run

-- a run holds if the definitions make of what is asked what is written beside it
abbrev pub Holds : Run → Type 0
Holds (engine_run ar pages events) = happens ar (fresh pages) events ≡ events
Holds (alone_runs ar pages lones) = in_turn ar pages lones ≡ lones
Holds (decodes given) = decodings given ≡ given
Holds (log_run words asked) = logs words asked ≡ asked

abbrev pub AllHold : List Run → Type 0
AllHold [] = Unit {0}
AllHold (r ∷ rs) = Holds r × AllHold rs
