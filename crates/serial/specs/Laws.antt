-- Laws of a run alone, in words. Assumes nothing.
use Rattle.std.specs.Prelude.{◌≡◌, ℕ, ◌<◌, ◌≤◌, false, List, ◌++◌, length, Some, slice_index}
use Rattle.pages.specs.declared.WriteEntry.{WriteEntry}
use Rattle.script.specs.Laws.{EndsAtEnd}
use Rattle.serial.specs.declared.ReadEntry.{ReadEntry}
use Rattle.serial.specs.Machine.{Meaning, Steps, Stand, start, moved, has_written, has_read_any}
use Rattle.serial.specs.Alone.{there, next, stand_at}

module _ (ar : Meaning) (script : Steps) (pages : List ℕ) where
  -- the step taken at s leads to t
  abbrev pub Next : Stand → Stand → Type 0
  Next s t = next ar script pages s ≡ Some (moved t)

  -- t is reached from s
  pub data Leads : Stand → Stand → Type 0 where
    here : {s : Stand} → Leads s s
    more : {s t u : Stand} → Next s t → Leads t u → Leads s u

-- steps only rise
abbrev pub StepsRise : Type 0
StepsRise = (ar : Meaning) (script : Steps) (pages : List ℕ) (s t : Stand) → Next ar script pages s t → s.step < t.step

-- a run is determined by its script and pages: it stands in one way at each step that it reaches
abbrev pub RunsDetermined : Type 0
RunsDetermined =
    (ar : Meaning) (script : Steps) (pages : List ℕ) (s t : Stand)
    → Leads ar script pages start s → Leads ar script pages start t → s.step ≡ t.step → s ≡ t

-- the reads of an earlier stand are the first reads of a later one
abbrev pub ReadsGrow : Type 0
ReadsGrow =
    (ar : Meaning) (script : Steps) (pages : List ℕ) (s t : Stand)
    → Leads ar script pages start s → Leads ar script pages start t → s.step ≤ t.step
    → (later : List ReadEntry) × (t.reads ≡ s.reads ++ later)

-- a stand whose recorded reads name no replaced page is reached over the replaced pages too
abbrev pub UnreadReached : Type 0
UnreadReached =
    (ar : Meaning) (script : Steps) (pages pages' : List ℕ) (replaced : List WriteEntry) (s : Stand)
    → length pages' ≡ length pages
    → ((p : ℕ) → has_written replaced p ≡ false → slice_index pages' p ≡ slice_index pages p)
    → has_read_any s.reads replaced ≡ false
    → Leads ar script pages start s → Leads ar script pages' start s

-- asking for the stand on reaching a step finds just the stand that is reached there
abbrev pub StandFound : Type 0
StandFound =
    (ar : Meaning) (script : Steps) (pages : List ℕ) (n : ℕ) (s : Stand)
    → EndsAtEnd script
    → (stand_at ar script pages n ≡ there s → Leads ar script pages start s × (s.step ≡ n))
    × (Leads ar script pages start s → s.step ≡ n → stand_at ar script pages n ≡ there s)
