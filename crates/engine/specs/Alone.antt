-- A script run alone over a store, with its own list put at the end. Assumes nothing.
use Rattle.std.specs.Prelude.{◌≡◌, ℕ, ◌<◌, List, [], ◌∷◌, length, Ok, Err, Result}
use Rattle.pages.specs.Pages.{Chain, fault_at}
use Rattle.pages.specs.declared.WriteEntry.{WriteEntry}
use Rattle.script.specs.declared.Register.TheVariants.{R0}
use Rattle.script.specs.declared.ScriptFault.{ScriptFault}
use Rattle.script.specs.Script.{script_cause, script_returned}
use Rattle.serial.specs.Machine.{Meaning, Steps, holds, Taken, moved, off_pages}
use Rattle.serial.specs.Alone.{Reached, there, fault, past_end, whole_run, put_all}
use Rattle.engine.specs.View.{stand_of}
use Rattle.engine.specs.declared.alone.AloneFault.{AloneFault}
use Rattle.engine.specs.declared.alone.AloneFault.TheVariants.{Script, Step}
use Rattle.engine.specs.declared.shadow.Shadow.{Shadow}

-- a fault's number: 5 and 6, bytes that are no script; 9, a step for a page that the store does not have
abbrev pub alone_cause : AloneFault → ℕ
alone_cause (Script f) = script_cause f
alone_cause (Step n f) = 9

-- and its values: those of a script's fault; the step and the page, since there is no slot
abbrev pub alone_returned : AloneFault → List ℕ
alone_returned (Script f) = script_returned f
alone_returned (Step n f) = n ∷ f.page ∷ []

-- every page of the list is below n
abbrev pub Inside : ℕ → List WriteEntry → Type 0
Inside n [] = Unit {0}
Inside n (e ∷ es) = (e.page < n) × Inside n es

-- a step took a shadow from s to t and answered r: a fault is told with the step's number
abbrev pub Advanced : Shadow → Taken → Result (Unit {0}) AloneFault → Shadow → Type 0
Advanced s (moved e) r t = (r ≡ Ok tt) × (stand_of t ≡ e)
Advanced s (off_pages p) r t = (r ≡ Err (Step s.step (fault_at p))) × (t ≡ s)

-- a script ran to its end, with a list that the store has room for, or to its first step for a page that the store does
-- not have
abbrev pub Ended : Meaning → Steps → List ℕ → Result Shadow AloneFault → Type 0
Ended ar script pages (Ok s) = (whole_run ar script pages ≡ there (stand_of s)) × Inside (length pages) (stand_of s).own
Ended ar script pages (Err (Script f)) = ⊥
Ended ar script pages (Err (Step n f)) = whole_run ar script pages ≡ fault n f.page

module _ {S : Type 0} (pages : S → List ℕ) (wrote : S → ℕ → ℕ → S → Type 0) where
  -- a run took the store s to t and answered r: at the end it answers register 0 and the number of pages on its list,
  -- and puts the list in its order; a fault is told with its step, and the store is as it was. A decoded script has an
  -- end, and no run goes past it
  abbrev pub Ran : S → Reached → Result (ℕ × ℕ) AloneFault → S → Type 0
  Ran s (there e) r t =
      (r ≡ Ok (holds e R0, length e.own)) × (pages t ≡ put_all e.own (pages s)) × Chain wrote s e.own t
  Ran s (fault n p) r t = (r ≡ Err (Step n (fault_at p))) × (t ≡ s)
  Ran s past_end r t = ⊥

  -- the same from bytes: those that are no script change nothing
  abbrev pub RanAlone : Meaning → S → Result Steps ScriptFault → Result (ℕ × ℕ) AloneFault → S → Type 0
  RanAlone ar s (Ok script) r t = Ran s (whole_run ar script (pages s)) r t
  RanAlone ar s (Err f) r t = (r ≡ Err (Script f)) × (t ≡ s)
