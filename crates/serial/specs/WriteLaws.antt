-- Laws of writes: what stands on the own list of a run, and what its puts leave. Assumes nothing.
use Rattle.std.specs.Prelude.{◌≡◌, ℕ, ◌<◌, ◌≤◌, ◌≢◌, ◌↔◌, List, [], ◌∷◌, length, Some, slice_index}
use Rattle.std.specs.List.{slice_get}
use Rattle.pages.specs.Pages.{entry}
use Rattle.pages.specs.declared.WriteEntry.{WriteEntry}
use Rattle.script.specs.declared.Register.{Register}
use Rattle.script.specs.declared.Step.{Step}
use Rattle.serial.specs.Machine.{Meaning, Steps, Stand, start, holds}
use Rattle.serial.specs.Alone.{put_all}
use Rattle.serial.specs.Laws.{Next, Leads}
use Rattle.serial.specs.OneStep.{OnList, NotOnList, Once, Reads, Writes}

-- the next step at s writes w to page p
abbrev pub WritesNext : Steps → Stand → ℕ → ℕ → Type 0
WritesNext script s p w = (st : Step) × (slice_get script s.step ≡ Some st) × Writes st s p w

module _ (ar : Meaning) (script : Steps) (pages : List ℕ) where
  -- t is reached from s, and these are the pages and words that the steps on the way have written, in order of time
  pub data Wrote : Stand → Stand → List WriteEntry → Type 0 where
    no_step : {s : Stand} → Wrote s s []
    a_write : {s t u : Stand} {ws : List WriteEntry} (p w : ℕ) → Next ar script pages s t → WritesNext script s p w
        → Wrote t u ws → Wrote s u (entry p w ∷ ws)
    no_write : {s t u : Stand} {ws : List WriteEntry} → Next ar script pages s t → ((p w : ℕ) → WritesNext script s p w → ⊥)
        → Wrote t u ws → Wrote s u ws

-- t is reached from s exactly if there is a list of the writes on the way
abbrev pub WritesTold : Type 0
WritesTold =
    (ar : Meaning) (script : Steps) (pages : List ℕ) (s t : Stand)
    → Leads ar script pages s t ↔ ((ws : List WriteEntry) × Wrote ar script pages s t ws)

-- of the writes, the last that names the page has this word
abbrev pub IsLast : List WriteEntry → ℕ → ℕ → Type 0
IsLast ws p w =
    (i : ℕ) × (slice_get ws i ≡ Some (entry p w))
    × ((j : ℕ) (later : WriteEntry) → i < j → slice_get ws j ≡ Some later → later.page ≢ p)

-- a page stands on the own list once
abbrev pub StandsOnce : Type 0
StandsOnce =
    (ar : Meaning) (script : Steps) (pages : List ℕ) (s : Stand) → Leads ar script pages start s → Once s.own

-- a page that is on the list stays on it
abbrev pub StaysWritten : Type 0
StaysWritten =
    (ar : Meaning) (script : Steps) (pages : List ℕ) (s t : Stand) (p w : ℕ)
    → Leads ar script pages start s → Leads ar script pages start t → s.step ≤ t.step
    → OnList s.own p w → (later : ℕ) × OnList t.own p later

-- exactly the pages that the run has written are on the list, each with the word that was written last
abbrev pub LastWritten : Type 0
LastWritten =
    (ar : Meaning) (script : Steps) (pages : List ℕ) (s : Stand) (ws : List WriteEntry) (p w : ℕ)
    → Wrote ar script pages start s ws → OnList s.own p w ↔ IsLast ws p w

-- and the pages stand in order of first write: each write of a page on the list came after a write of every page before it
-- there
abbrev pub InOrder : Type 0
InOrder =
    (ar : Meaning) (script : Steps) (pages : List ℕ) (s : Stand) (ws : List WriteEntry) (i j : ℕ) (x y : WriteEntry)
    (k : ℕ) (later : WriteEntry)
    → Wrote ar script pages start s ws → i < j → slice_get s.own i ≡ Some x → slice_get s.own j ≡ Some y
    → slice_get ws k ≡ Some later → later.page ≡ y.page
    → (m : ℕ) × (before : WriteEntry) × (m < k) × (slice_get ws m ≡ Some before) × (before.page ≡ x.page)

-- a read of a page on the list takes that word, whatever the store holds, and is not recorded
abbrev pub ReadsOwnWord : Type 0
ReadsOwnWord =
    (ar : Meaning) (script : Steps) (pages : List ℕ) (s : Stand) (st : Step) (a : Register) (p w : ℕ)
    → Leads ar script pages start s → slice_get script s.step ≡ Some st → Reads st s a p → OnList s.own p w
    → (t : Stand) × Next ar script pages s t × (holds t a ≡ w) × (t.reads ≡ s.reads)

-- after the puts of a list on which a page stands once, each listed page below the size has its word, every other is as it
-- was, and there are as many pages as before
pub record PutsLeave (own : List WriteEntry) (pages : List ℕ) (pages' : List ℕ) : Type 0 where
  pub size : length pages' ≡ length pages
  pub listed : (p w : ℕ) → OnList own p w → p < length pages → slice_index pages' p ≡ w
  pub others : (p : ℕ) → NotOnList own p → slice_index pages' p ≡ slice_index pages p

abbrev pub PutsInWords : Type 0
PutsInWords = (own : List WriteEntry) (pages : List ℕ) → Once own → PutsLeave own pages (put_all own pages)
