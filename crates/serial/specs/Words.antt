-- The rules in words: relations that say what a call does and not how, so strong that only the rules meet them. Assumes
-- nothing.
--
-- The five calls are relations between the engine before, e, and after, e'. Slot t is the one that acts; `shadow e t u` is its
-- shadow for u and `shadow e t t` its leading one, so that the table of shadows has eight rows of eight places. At most one
-- engine meets each relation (`RelationsFixEngine`). What one step does, what it reads and writes, what bytes are a script and
-- what puts leave are words of `Machine`, `Alone` and of the crate `script`, with laws of their own. To have read a page is to
-- have it among the recorded reads, and to have written it, to have it on the own list.
use Rattle.std.specs.Prelude.{◌≡◌, ℕ, suc, ◌<◌, ◌≤◌, Bool, true, false, not, ◌≢◌, ◌⊎◌, ◌↔◌, List, length, is_some, Some, None, Ok, Err, Option, slice_index_or}
use Rattle.std.specs.List.{slice_get}
use Rattle.pages.specs.declared.WriteEntry.{WriteEntry}
use Rattle.script.specs.declared.Register.TheVariants.{R0}
use Rattle.script.specs.Script.{decoded}
use Rattle.serial.specs.declared.fault.Turned.TheVariants.{Moved, Ended, Waiting}
use Rattle.serial.specs.declared.fault.Standing.{Standing}
use Rattle.serial.specs.declared.fault.Standing.TheVariants.{AtEnd, Halted, Ready}
use Rattle.serial.specs.declared.fault.Accepted.TheVariants.{Allowed, Begun, Took, Committed, Aborted}
use Rattle.serial.specs.declared.fault.CallFault.{CallFault}
use Rattle.serial.specs.Machine.{Meaning, Steps, Stand, start, holds, moved, store_read, write_of, has_read, has_written, has_read_any}
use Rattle.serial.specs.Alone.{next, put_all}
use Rattle.serial.specs.Rules.{Row, Engine, State, fresh_engine, Done, Call, set_allowance, begin, turn, commit, abort, does, script_of, is_open, row, shadow, reads_of, lead_writes, clean, furthest_of, count, account}
use Rattle.serial.specs.Sound.{Eight, SoundEngine}

-- of slot t's shadows, y for slot w counts as no further than s for slot u: its step is lower; or the steps are equal, and s
-- leads, or neither leads and u is not above w
abbrev pub NoFurther : ℕ → ℕ → Stand → ℕ → Stand → Type 0
NoFurther t w y u s = (y.step < s.step) ⊎ ((y.step ≡ s.step) × ((u ≡ t) ⊎ ((w ≢ t) × (u ≤ w))))

-- the furthest of t's shadows that pass a test: s passes, and each one that passes counts as no further than s; none where
-- none passes
abbrev pub Furthest : (Stand → Bool) → ℕ → Row → Option Stand → Type 0
Furthest test t shadows (Some s) =
    (u : ℕ) × (slice_index_or shadows u None ≡ Some s) × (test s ≡ true)
    × ((w : ℕ) (y : Stand) → slice_index_or shadows w None ≡ Some y → test y ≡ true → NoFurther t w y u s)
Furthest test t shadows None = (w : ℕ) (y : Stand) → slice_index_or shadows w None ≡ Some y → test y ≡ false

-- the rule that picks a shadow picks the furthest
abbrev pub PicksFurthest : Type 0
PicksFurthest = (test : Stand → Bool) (t : ℕ) (shadows : Row) → Furthest test t shadows (furthest_of test t shadows)

-- the furthest that passes, or a start where none does
abbrev pub FurthestOrStart : (Stand → Bool) → ℕ → Row → Stand → Type 0
FurthestOrStart test t shadows s = Furthest test t shadows (Some s) ⊎ ((s ≡ start) × Furthest test t shadows None)

-- t's shadow for u is s, whatever was there: every other place of the table, the scripts and the allowance are as they were
pub record SetsShadow (e : Engine) (t u : ℕ) (s : Stand) (e' : Engine) : Type 0 where
  pub named : shadow e' t u ≡ Some s
  pub besides : (v w : ℕ) → (v ≡ t → w ≢ u) → shadow e' v w ≡ shadow e v w
  pub scripts : e'.scripts ≡ e.scripts
  pub allowance : e'.allowance ≡ e.allowance
  pub eight : Eight e'

-- t accounts for u: where t has a shadow for u, or fewer than the allowance, its shadow for u becomes a copy of the furthest
-- that is clean for u, else a start; with no room for it nothing is done
pub record AccountsFor (e : Engine) (t u : ℕ) (e' : Engine) : Type 0 where
  pub room : (is_some (shadow e t u) ≡ true) ⊎ (count (row e t) < e.allowance)
      → (s : Stand) × FurthestOrStart (clean e u) t (row e t) s × SetsShadow e t u s e'
  pub no_room : shadow e t u ≡ None → e.allowance ≤ count (row e t) → e' ≡ e

-- from e to e' in eight stages, one for each slot in rising order: where the slot is due in its stage's engine, the part for
-- it leads to the next stage; else nothing changes
pub record SlotBySlot (Due : Engine → ℕ → Type 0) (Part : Engine → ℕ → Engine → Type 0) (e e' : Engine) : Type 0 where
  pub stage : ℕ → Engine
  pub first : stage 0 ≡ e
  pub last : stage 8 ≡ e'
  pub due : (u : ℕ) → u < 8 → Due (stage u) u → Part (stage u) u (stage (suc u))
  pub spared : (u : ℕ) → u < 8 → (Due (stage u) u → ⊥) → stage (suc u) ≡ stage u

-- `read` is the page that t's leading shadow is about to read from the store, or none. t must first account for u where there
-- is such a page, u is another open slot, t has no shadow for u, and u's leading shadow has written the page
pub record DueBeforeRead (t : ℕ) (read : Option ℕ) (e : Engine) (u : ℕ) : Type 0 where
  pub other : u ≢ t
  pub opened : is_open e u ≡ true
  pub lacks : shadow e t u ≡ None
  pub page : ℕ
  pub is_read : read ≡ Some page
  pub wrote : has_written (lead_writes e u) page ≡ true

-- `write` is the page that t's leading shadow has just written, or none. v must then account for t where there is such a page,
-- v is another open slot whose leading shadow has read the page, and v has no shadow for t, or one that has read the page
pub record DueAfterWrite (t : ℕ) (write : Option ℕ) (e : Engine) (v : ℕ) : Type 0 where
  pub other : v ≢ t
  pub opened : is_open e v ≡ true
  pub page : ℕ
  pub is_written : write ≡ Some page
  pub lead_read : has_read (reads_of (shadow e v v)) page ≡ true
  pub lacks_or_read : (shadow e v t ≡ None) ⊎ (has_read (reads_of (shadow e v t)) page ≡ true)

-- t's leading shadow moves to `to` by a step that reads the page `read` from the store, writes the page `write`, or does
-- neither: first t accounts for each slot that is due before the read; then the shadow stands at `to`; then each slot that is
-- due after the write accounts for t
pub record LeadMoves (e : Engine) (t : ℕ) (read write : Option ℕ) (to : Stand) (e' : Engine) : Type 0 where
  pub accounted : Engine
  pub stepped : Engine
  pub before : SlotBySlot (DueBeforeRead t read) (λ a u b. AccountsFor a t u b) e accounted
  pub step : SetsShadow accounted t t to stepped
  pub after : SlotBySlot (DueAfterWrite t write) (λ a v b. AccountsFor a v t b) stepped e'

-- t's shadow for u moves from s to `to`. If u is t it is the leading one, and its accounting is done too; if not, nothing else
-- changes
pub record ShadowMoves (e : Engine) (t u : ℕ) (script : Steps) (s to : Stand) (e' : Engine) : Type 0 where
  pub leading : u ≡ t → LeadMoves e t (store_read (slice_get script s.step) s) (write_of (slice_get script s.step) s) to e'
  pub other : u ≢ t → SetsShadow e t u to e'

-- t's shadow for another slot u waits at s: t's leading shadow is no further, or the next step is a store read of a page that
-- u's leading shadow has written
abbrev pub Waits : Engine → ℕ → ℕ → Steps → Stand → Type 0
Waits e t u script s =
    ((lead : Stand) × (shadow e t t ≡ Some lead) × (lead.step ≤ s.step))
    ⊎ ((p : ℕ) × (store_read (slice_get script s.step) s ≡ Some p) × (has_written (lead_writes e u) p ≡ true))

-- what the next turn of t's shadow for u would find: a leading shadow at its end; another shadow that waits; else one that is
-- able to try a step
abbrev pub Finds : Engine → ℕ → ℕ → Steps → Stand → Standing → Type 0
Finds e t u script s AtEnd = (u ≡ t) × (length script ≤ s.step)
Finds e t u script s Halted = (u ≢ t) × Waits e t u script s
Finds e t u script s Ready = (u ≡ t → s.step < length script) × (u ≢ t → Waits e t u script s → ⊥)

-- an accepted turn of t's shadow for u: a leading shadow at its end answers ended, a waiting one waiting, and nothing changes;
-- else one step is taken, the shadow moves to where it leads, no page changes, and the answer is moved
pub record TurnAccepted (ar : Meaning) (s : State) (t u : ℕ) (d : Done) : Type 0 where
  pub script : Steps
  pub at : Stand
  pub runs : script_of s.engine t ≡ Some script
  pub stands : shadow s.engine t u ≡ Some at
  pub ended : Finds s.engine t u script at AtEnd → d ≡ (s, Ok (Took Ended))
  pub waiting : Finds s.engine t u script at Halted → d ≡ (s, Ok (Took Waiting))
  pub moves : Finds s.engine t u script at Ready
      → (to : Stand) × (next ar script s.pages at ≡ Some (moved to)) × ShadowMoves s.engine t u script at to d.0.engine
      × (d.0.pages ≡ s.pages) × (d.1 ≡ Ok (Took Moved))

-- t closes: its script and its shadows go, and every shadow for t; the other scripts and the allowance are as they were
pub record Closes (e : Engine) (t : ℕ) (e' : Engine) : Type 0 where
  pub script : script_of e' t ≡ None
  pub scripts : (v : ℕ) → v ≢ t → script_of e' v ≡ script_of e v
  pub bare : (u : ℕ) → shadow e' t u ≡ None
  pub none_for : (v : ℕ) → shadow e' v t ≡ None
  pub allowance : e'.allowance ≡ e.allowance
  pub eight : Eight e'

-- a shadow that has read nothing on the list
abbrev pub unread : List WriteEntry → Stand → Bool
unread replaced s = not (has_read_any s.reads replaced)

-- t commits the list and closes, and every shadow for t goes. In every other slot v, a shadow for a third slot stays exactly
-- if it has read no page of the list. v's leading shadow stays if it has read none; else v is spoiled, and led by a copy of
-- its furthest shadow that has read none, the one for t included, or by a start where there is none
pub record Commits (e : Engine) (t : ℕ) (replaced : List WriteEntry) (e' : Engine) : Type 0 where
  pub closes : Closes e t e'
  pub others : (v u : ℕ) (s : Stand) → v ≢ t → u ≢ t → u ≢ v
      → (shadow e' v u ≡ Some s) ↔ ((shadow e v u ≡ Some s) × (unread replaced s ≡ true))
  pub stays : (v : ℕ) (lead : Stand) → v ≢ t → shadow e v v ≡ Some lead → unread replaced lead ≡ true → shadow e' v v ≡ Some lead
  pub spoiled : (v : ℕ) (lead : Stand) → v ≢ t → shadow e v v ≡ Some lead → unread replaced lead ≡ false
      → (s : Stand) × FurthestOrStart (unread replaced) v (row e v) s × (shadow e' v v ≡ Some s)
  pub unled : (v : ℕ) → shadow e v v ≡ None → shadow e' v v ≡ None

-- t aborts and closes: every shadow that is not t's nor for t is as it was
pub record Aborts (e : Engine) (t : ℕ) (e' : Engine) : Type 0 where
  pub closes : Closes e t e'
  pub others : (v u : ℕ) → v ≢ t → u ≢ t → shadow e' v u ≡ shadow e v u

-- t opens with a script and a leading shadow at the start: every other place, the other scripts and the allowance are as
-- they were
pub record Opens (e : Engine) (t : ℕ) (script : Steps) (e' : Engine) : Type 0 where
  pub runs : script_of e' t ≡ Some script
  pub scripts : (v : ℕ) → v ≢ t → script_of e' v ≡ script_of e v
  pub lead : shadow e' t t ≡ Some start
  pub besides : (v w : ℕ) → (v ≡ t → w ≢ t) → shadow e' v w ≡ shadow e v w
  pub allowance : e'.allowance ≡ e.allowance
  pub eight : Eight e'

-- the allowance is k, and nothing else changes
pub record Allows (e : Engine) (k : ℕ) (e' : Engine) : Type 0 where
  pub allowance : e'.allowance ≡ k
  pub scripts : e'.scripts ≡ e.scripts
  pub shadows : e'.shadows ≡ e.shadows

-- what a call does to the engine and the pages, and what it answers, given that no refusal fits. A commit puts the list of
-- t's leading shadow, in its order, and answers that shadow's register 0 and how many pages are on the list; no other call
-- changes a page
abbrev pub Accepts : Meaning → Call → State → Done → Type 0
Accepts ar (set_allowance k) s d = Allows s.engine k d.0.engine × (d.0.pages ≡ s.pages) × (d.1 ≡ Ok Allowed)
Accepts ar (begin t bytes) s d =
    (script : Steps) × (decoded bytes ≡ Ok script) × Opens s.engine t script d.0.engine × (d.0.pages ≡ s.pages) × (d.1 ≡ Ok Begun)
Accepts ar (turn t u) s d = TurnAccepted ar s t u d
Accepts ar (commit t) s d =
    (lead : Stand) × (shadow s.engine t t ≡ Some lead) × Commits s.engine t lead.own d.0.engine
    × (d.0.pages ≡ put_all lead.own s.pages) × (d.1 ≡ Ok (Committed (holds lead R0) (length lead.own)))
Accepts ar (abort t) s d = Aborts s.engine t d.0.engine × (d.0.pages ≡ s.pages) × (d.1 ≡ Ok Aborted)

-- at most one engine meets a relation
abbrev pub OneEngine : (Engine → Type 0) → Type 0
OneEngine After = (a b : Engine) → After a → After b → a ≡ b

-- at most one engine after it meets each relation
pub record RelationsFixEngine : Type 0 where
  pub places : (e : Engine) (t u : ℕ) (s : Stand) → OneEngine (SetsShadow e t u s)
  pub accounts : (e : Engine) (t u : ℕ) → OneEngine (AccountsFor e t u)
  pub lead_moves : (e : Engine) (t : ℕ) (read write : Option ℕ) (to : Stand) → OneEngine (LeadMoves e t read write to)
  pub moves : (e : Engine) (t u : ℕ) (script : Steps) (s to : Stand) → OneEngine (ShadowMoves e t u script s to)
  pub commits : (e : Engine) (t : ℕ) (replaced : List WriteEntry) → OneEngine (Commits e t replaced)
  pub aborts : (e : Engine) (t : ℕ) → OneEngine (Aborts e t)
  pub opens : (e : Engine) (t : ℕ) (script : Steps) → OneEngine (Opens e t script)
  pub allows : (e : Engine) (k : ℕ) → OneEngine (Allows e k)

-- a fresh engine: the allowance is 2, no slot is open and there is no shadow
pub record Fresh (e : Engine) : Type 0 where
  pub allowance : e.allowance ≡ 2
  pub closed : (t : ℕ) → script_of e t ≡ None
  pub bare : (t u : ℕ) → shadow e t u ≡ None
  pub eight : Eight e

abbrev pub FreshInWords : Type 0
FreshInWords = (e : Engine) → Fresh e ↔ (fresh_engine ≡ e)

-- accounting by the rules is accounting in words
abbrev pub AccountsInWords : Type 0
AccountsInWords = (e : Engine) (t u : ℕ) → SoundEngine e → is_open e t ≡ true → is_open e u ≡ true → AccountsFor e t u (account e t u)

-- a pair that a move of t's leading shadow from s accounts for: before a store read of a page, t for another open slot w
-- that it has no shadow for and whose leading shadow has written the page; after a write of a page, another open slot v for
-- t whose leading shadow has read the page, and that has no shadow for t or one that has read the page
abbrev pub AccountedFor : Engine → ℕ → Steps → Stand → ℕ → ℕ → Type 0
AccountedFor e t script s v w =
    ((v ≡ t) × DueBeforeRead t (store_read (slice_get script s.step) s) e w)
    ⊎ ((w ≡ t) × DueAfterWrite t (write_of (slice_get script s.step) s) e v)

-- a turn changes, of all shadows, at most the named one and those that the engine before the turn makes due
abbrev pub TurnsChangeOnly : Type 0
TurnsChangeOnly =
    (ar : Meaning) (st : State) (t u : ℕ) (script : Steps) (s : Stand) → SoundEngine st.engine
    → script_of st.engine t ≡ Some script → shadow st.engine t u ≡ Some s
    → (v w : ℕ) → (v ≡ t → w ≢ u) → (u ≡ t → AccountedFor st.engine t script s v w → ⊥)
    → shadow (does ar (turn t u) st).0.engine v w ≡ shadow st.engine v w

-- a declined call leaves everything as it was
abbrev pub DeclinedChangesNothing : Type 0
DeclinedChangesNothing = (ar : Meaning) (c : Call) (s : State) (f : CallFault) → (does ar c s).1 ≡ Err f → (does ar c s).0 ≡ s
