-- The table of shadows as the rules have it. Assumes nothing.
use Rattle.std.specs.Prelude.{◌≡◌, ℕ, Bool, true, false, cond, not, ◌&&◌, List, map, is_some, Some, None, Ok, Err, Option, Result, ◌==◌, nat_lt, slice_index_or, slice_set}
use Rattle.std.specs.Option.{option_map}
use Rattle.pages.specs.Pages.{fault_at}
use Rattle.pages.specs.declared.StoreFault.{StoreFault}
use Rattle.pages.specs.declared.WriteEntry.{WriteEntry}
use Rattle.script.specs.declared.Script.{Script}
use Rattle.script.specs.declared.Step.{Step}
use Rattle.script.specs.View.{steps_of}
use Rattle.serial.specs.declared.fault.StepFault.{StepFault}
use Rattle.serial.specs.Faults.{step_fault}
use Rattle.serial.specs.Machine.{Steps, Stand, Taken, moved, off_pages, store_read, write_of, has_read_any}
use Rattle.serial.specs.Rules.{Engine, is_open, row, no_shadows, with_shadow, before_step, after_step, cleared}
use Rattle.engine.specs.View.{stand_of}
use Rattle.engine.specs.BySlot.{by_slot}
use Rattle.engine.specs.declared.by_slot.BySlot.{BySlot}
use Rattle.engine.specs.declared.row.Row.{Row}
use Rattle.engine.specs.declared.table.Table.{Table}

-- the shadows of one slot
abbrev pub row_of : Row → List (Option Stand)
row_of r = map (option_map stand_of) (by_slot r.shadows)

-- the scripts of the open slots
abbrev pub scripts_of : BySlot Script → List (Option Steps)
scripts_of s = map (option_map steps_of) (by_slot s)

-- a table as the rules' engine
abbrev pub engine_of : Table → Engine
engine_of t = record { allowance = t.allowance; scripts = scripts_of t.scripts; shadows = map row_of t.rows }

-- with another allowance
abbrev pub with_allowance : Engine → ℕ → Engine
with_allowance e k = record { allowance = k; scripts = e.scripts; shadows = e.shadows }

-- with other rows
abbrev pub with_rows : Engine → List (List (Option Stand)) → Engine
with_rows e rows = record { allowance = e.allowance; scripts = e.scripts; shadows = rows }

-- without t's script and row
abbrev pub without_slot : Engine → ℕ → Engine
without_slot e t =
    record { allowance = e.allowance; scripts = slice_set e.scripts t None; shadows = slice_set e.shadows t no_shadows }

-- without the shadows for t
abbrev pub without_column : Engine → ℕ → Engine
without_column e t = with_rows e (map (cleared t) e.shadows)

-- the shadow at a place of a row, where one is given
abbrev pub there_at : List (Option Stand) → Option ℕ → Option Stand
there_at shadows None = None
there_at shadows (Some u) = slice_index_or shadows u None

-- whether a row has a shadow for a slot
abbrev pub has_shadow : List (Option Stand) → ℕ → Bool
has_shadow shadows u = is_some (slice_index_or shadows u None)

-- another open slot than t
abbrev pub other_open : Engine → ℕ → ℕ → Bool
other_open e t u = not (u == t) && is_open e u

-- another open slot, that t has no shadow for
abbrev pub unguessed : Engine → ℕ → ℕ → Bool
unguessed e t u = other_open e t u && not (has_shadow (row e t) u)

-- where a place is given, a shadow is at it
abbrev pub IsThere : List (Option Stand) → Option ℕ → Type 0
IsThere shadows None = Unit {0}
IsThere shadows (Some u) = has_shadow shadows u ≡ true

-- whether a shadow has read no page of the list
abbrev pub unread : List WriteEntry → Stand → Bool
unread list s = not (has_read_any s.reads list)

-- whether there is a shadow, and it passes
abbrev pub passes : (Stand → Bool) → Option Stand → Bool
passes test None = false
passes test (Some s) = test s

-- a step of the shadow for u took a row to t and answered r: where it moved the shadow, it stands there; else the row is
-- as it was
abbrev pub Lent : Row → ℕ → Taken → Result (Unit {0}) StoreFault → Row → Type 0
Lent s u (moved e) r t = (r ≡ Ok tt) × (row_of t ≡ slice_set (row_of s) u (Some e))
Lent s u (off_pages p) r t = (r ≡ Err (fault_at p)) × (t ≡ s)

-- whether a store of n pages has a page, where one is needed
abbrev pub checked : ℕ → Option ℕ → Result (Unit {0}) StoreFault
checked n None = Ok tt
checked n (Some p) = cond (nat_lt p n) (Ok tt) (Err (fault_at p))

-- the leading shadow takes the step st from s to `to`, with the accounting before and after it
abbrev pub lead_takes : Engine → ℕ → Step → Stand → Stand → Engine
lead_takes e t st s to =
    after_step (with_shadow (before_step e t (store_read (Some st) s)) t t (Some to)) t (write_of (Some st) s)

-- any shadow of t takes the step st: only those of the leading one are accounted for
abbrev pub shadow_takes : Engine → ℕ → ℕ → Step → Stand → Stand → Engine
shadow_takes e t u st s to = cond (u == t) (lead_takes e t st s to) (with_shadow e t u (Some to))

-- a step took a table from s to t and answered r: where it moved a shadow, the table is as `to` says; else as it was
abbrev pub Stepped : Table → (Stand → Engine) → Taken → Result (Unit {0}) StoreFault → Table → Type 0
Stepped s to (moved e) r t = (r ≡ Ok tt) × (engine_of t ≡ to e)
Stepped s to (off_pages p) r t = (r ≡ Err (fault_at p)) × (t ≡ s)

-- the same for a turn, whose fault is told with the slot and the step; with no step next nothing is done
abbrev pub TookTurn : Table → (Stand → Engine) → ℕ → ℕ → Option Taken → Result (Unit {0}) StepFault → Table → Type 0
TookTurn s to slot step None r t = (r ≡ Ok tt) × (t ≡ s)
TookTurn s to slot step (Some (moved e)) r t = (r ≡ Ok tt) × (engine_of t ≡ to e)
TookTurn s to slot step (Some (off_pages p)) r t = (r ≡ Err (step_fault slot step (fault_at p))) × (t ≡ s)
