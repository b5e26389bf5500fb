-- The serial book: what the calls come to if each transaction had run alone, at its commit. Assumes nothing.
use Rattle.std.specs.Prelude.{◌≡◌, ℕ, ◌<◌, ◌≤◌, true, false, ◌≢◌, List, [], ◌∷◌, ◌++◌, length, replicate, is_some, Some, None, Ok, Err, Option, Result, slice_index_or, slice_set}
use Rattle.pages.specs.declared.WriteEntry.{WriteEntry}
use Rattle.script.specs.declared.Register.TheVariants.{R0}
use Rattle.script.specs.declared.ScriptFault.{ScriptFault}
use Rattle.script.specs.Script.{decoded}
use Rattle.serial.specs.declared.fault.Turned.TheVariants.{Waiting}
use Rattle.serial.specs.declared.fault.Accepted.TheVariants.{Allowed, Begun, Took, Committed, Aborted}
use Rattle.serial.specs.Faults.{Answer}
use Rattle.serial.specs.Machine.{Meaning, Steps, Stand, holds}
use Rattle.serial.specs.Alone.{Reached, there, fault, past_end, alone, stand_at, whole_run, before_read_of, put_all}
use Rattle.serial.specs.Rules.{Engine, State, fresh, script_of, is_open, row, shadow, count, Call, set_allowance, begin, turn, commit, abort, does, after, answers}

-- pages, the script of each slot, and what each commit's run alone answered
pub record Ledger : Type 0 where
  pub pages : List ℕ
  pub scripts : List (Option Steps)
  pub notes : List (ℕ × ℕ)

-- at first the store's pages and no script
abbrev pub empty_book : List ℕ → Ledger
empty_book pages = record { pages = pages; scripts = replicate 8 None; notes = [] }

abbrev pub with_script : Ledger → ℕ → Option Steps → Ledger
with_script b t script = record { pages = b.pages; scripts = slice_set b.scripts t script; notes = b.notes }

-- begin enters its script
abbrev pub enters : Ledger → ℕ → Result Steps ScriptFault → Option Ledger
enters b t (Ok script) = Some (with_script b t (Some script))
enters b t (Err f) = None

-- commit takes the pages that the run left, notes its answer and strikes the script out; a run that meets a store fault
-- has no place in the book
abbrev pub books_run : Ledger → ℕ → Reached → Option Ledger
books_run b t (there s) =
    Some (record { pages = put_all s.own b.pages; scripts = slice_set b.scripts t None; notes = b.notes ++ (holds s R0, length s.own) ∷ [] })
books_run b t (fault step p) = None
books_run b t past_end = None

-- and neither has the commit of a slot with no script
abbrev pub books_commit : Meaning → Ledger → ℕ → Option Steps → Option Ledger
books_commit ar b t None = None
books_commit ar b t (Some script) = books_run b t (whole_run ar script b.pages)

-- an accepted call: set allowance and turn leave the book as it is, begin enters, commit runs alone, abort strikes out
abbrev pub books_accepted : Meaning → Call → Ledger → Option Ledger
books_accepted ar (set_allowance k) b = Some b
books_accepted ar (begin t bytes) b = enters b t (decoded bytes)
books_accepted ar (turn t u) b = Some b
books_accepted ar (commit t) b = books_commit ar b t (slice_index_or b.scripts t None)
books_accepted ar (abort t) b = Some (with_script b t None)

-- a declined call leaves the book as it is
abbrev pub books : Meaning → Call → Answer → Ledger → Option Ledger
books ar c (Err f) b = Some b
books ar c (Ok how) b = books_accepted ar c b

-- the book after a list of calls with their answers, or none where some commit has no place in it
abbrev pub book_after : Meaning → List Call → List Answer → Option Ledger → Option Ledger
book_after ar cs rest None = None
book_after ar [] rest (Some b) = Some b
book_after ar (c ∷ cs) [] (Some b) = None
book_after ar (c ∷ cs) (a ∷ rest) (Some b) = book_after ar cs rest (books ar c a b)

-- what the commits among the answers answered
abbrev pub commits_among : List Answer → List (ℕ × ℕ)
commits_among [] = []
commits_among (Ok (Committed r n) ∷ rest) = (r, n) ∷ commits_among rest
commits_among (Err f ∷ rest) = commits_among rest
commits_among (Ok Allowed ∷ rest) = commits_among rest
commits_among (Ok Begun ∷ rest) = commits_among rest
commits_among (Ok (Took how) ∷ rest) = commits_among rest
commits_among (Ok Aborted ∷ rest) = commits_among rest

-- what holds in every engine: the allowance is 1 to 8; a closed slot has no shadow, an open one has its leading shadow,
-- no slot has more than the allowance, and no shadow is for a closed slot
pub record Tidy (e : Engine) : Type 0 where
  pub allowed : (1 ≤ e.allowance) × (e.allowance ≤ 8)
  pub closed_bare : (t u : ℕ) → is_open e t ≡ false → shadow e t u ≡ None
  pub open_led : (t : ℕ) → is_open e t ≡ true → is_some (shadow e t t) ≡ true
  pub few : (t : ℕ) → count (row e t) ≤ e.allowance
  pub for_open : (t u : ℕ) → is_some (shadow e t u) ≡ true → is_open e u ≡ true

-- t's accepted commit takes s to s' and replaces the pages of the list. It spoils another transaction v if v's script, run
-- alone over the pages before the commit to v's leading shadow's step, makes a store read of a replaced page; `first` is
-- where that run stands before its first such read. Then v had a shadow for t, and if that shadow was waiting, v goes on
-- at `first`
abbrev pub Rescued : Meaning → State → ℕ → List WriteEntry → State → Type 0
Rescued ar s t replaced s' =
    (v : ℕ) (script : Steps) (lead first : Stand) → v ≢ t
    → script_of s.engine v ≡ Some script → shadow s.engine v v ≡ Some lead
    → alone ar script s.pages (before_read_of replaced script) ≡ there first → first.step < lead.step
    → (r : Stand) × (shadow s.engine v t ≡ Some r)
    × ((does ar (turn v t) s).1 ≡ Ok (Took Waiting) → shadow s'.engine v v ≡ Some first)

-- the calls, from a fresh engine over these pages, book serially
pub record Booked (ar : Meaning) (pages : List ℕ) (calls : List Call) : Type 0 where
  -- the book is there: the script of every commit is in it, and its run meets no store fault; its pages are the store's,
  -- its scripts the engine's, and each commit answered what its run alone answers
  pub book : book_after ar calls (answers ar calls (fresh pages)) (Some (empty_book pages))
      ≡ Some (record { pages = (after ar calls (fresh pages)).pages; scripts = (after ar calls (fresh pages)).engine.scripts; notes = commits_among (answers ar calls (fresh pages)) })
  -- every shadow stands where its script, run alone over the pages of that moment, stands on reaching the same step
  pub stands : (t u : ℕ) (s : Stand) → shadow (after ar calls (fresh pages)).engine t u ≡ Some s
      → (script : Steps) × (script_of (after ar calls (fresh pages)).engine t ≡ Some script)
      × (stand_at ar script (after ar calls (fresh pages)).pages s.step ≡ there s)
  -- every accepted commit under allowance 8 rescues what it spoils
  pub rescues : (before rest : List Call) (t r n : ℕ) (last : Stand) → calls ≡ before ++ (commit t ∷ rest)
      → (after ar before (fresh pages)).engine.allowance ≡ 8
      → (does ar (commit t) (after ar before (fresh pages))).1 ≡ Ok (Committed r n)
      → shadow (after ar before (fresh pages)).engine t t ≡ Some last
      → Rescued ar (after ar before (fresh pages)) t last.own (does ar (commit t) (after ar before (fresh pages))).0
  pub tidy : Tidy (after ar calls (fresh pages)).engine

-- for every arithmetic, all first pages and every list of calls, of any length and order
abbrev pub EveryListBooked : Type 0
EveryListBooked = (ar : Meaning) (pages : List ℕ) (calls : List Call) → Booked ar pages calls
