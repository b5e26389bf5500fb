-- Where a shadow stands, and what its calls answer. Assumes nothing.
use Rattle.std.specs.Prelude.{◌≡◌, ℕ, ◌+◌, ◌<◌, ◌≤◌, List, [], ◌∷◌, ◌++◌, length, Some, None, Ok, Err, Option, Result, slice_index, slice_index_or, slice_set}
use Rattle.std.specs.Borrow.{Bor}
use Rattle.basics.specs.Trail.{items_of}
use Rattle.pages.specs.Pages.{entry, fault_at}
use Rattle.pages.specs.declared.StoreFault.{StoreFault}
use Rattle.pages.specs.declared.WriteEntry.{WriteEntry}
use Rattle.script.specs.View.{steps_of}
use Rattle.script.specs.declared.Script.{Script}
use Rattle.serial.specs.Machine.{Steps, Stand, written, write, recorded, Taken, moved, off_pages}
use Rattle.engine.specs.declared.shadow.Shadow.{Shadow}

-- where a shadow stands, as the rules have it
abbrev pub stand_of : Shadow → Stand
stand_of s =
    record { step = s.step; registers = s.registers; reads = items_of s.reads; own = items_of s.own }

-- a shadow that is lent
abbrev pub seen : Bor Shadow → Stand
seen s = stand_of s.now

-- and a script that is lent
abbrev pub steps_seen : Bor Script → Steps
steps_seen s = steps_of s.now

-- where page p stands on an own list: there its word is, and a write replaces it; where it stands nowhere, a write goes
-- to the end
abbrev pub Placed : List WriteEntry → ℕ → Option ℕ → Type 0
Placed own p None = (written own p ≡ None) × ((w : ℕ) → write own p w ≡ own ++ entry p w ∷ [])
Placed own p (Some i) =
    (i < length own) × (written own p ≡ Some (slice_index_or own i (entry 0 0)).word) × ((w : ℕ) → write own p w ≡ slice_set own i (entry p w))

-- a shadow with a word for a page on its own list
abbrev pub with_own : Stand → ℕ → ℕ → Stand
with_own s p w = record { step = s.step; registers = s.registers; reads = s.reads; own = write s.own p w }

-- a shadow one step on, and n more
abbrev pub with_steps : Stand → ℕ → Stand
with_steps s n = record { step = s.step + 1 + n; registers = s.registers; reads = s.reads; own = s.own }

-- a shadow that has room for one more step
pub record Room (s : Stand) : Type 0 where
  pub step : s.step < 16
  pub reads : length s.reads < 16
  pub own : length s.own < 16

-- the word of page p for a read took a shadow from s to t: a page of the own list is as the list says; any other is read
-- from the store, and recorded; one that the store does not have leaves the shadow as it was
abbrev pub FetchedBy : List ℕ → Shadow → ℕ → Option ℕ → Result ℕ StoreFault → Shadow → Type 0
FetchedBy pages s p (Some w) r t = (r ≡ Ok w) × (t ≡ s)
FetchedBy pages s p None (Ok w) t = (p < length pages) × (w ≡ slice_index pages p) × (stand_of t ≡ recorded (stand_of s) p)
FetchedBy pages s p None (Err f) t = (length pages ≤ p) × (f ≡ fault_at p) × (t ≡ s)

-- and whether it stands on the own list is looked up there
abbrev pub Fetched : List ℕ → Shadow → ℕ → Result ℕ StoreFault → Shadow → Type 0
Fetched pages s p r t = FetchedBy pages s p (written (stand_of s).own p) r t

-- a step took a shadow to t and answered r: where it moved the shadow, it stands there; else it is as it was
abbrev pub Took : Shadow → Taken → Result (Unit {0}) StoreFault → Shadow → Type 0
Took s (moved e) r t = (r ≡ Ok tt) × (stand_of t ≡ e)
Took s (off_pages p) r t = (r ≡ Err (fault_at p)) × (t ≡ s)
