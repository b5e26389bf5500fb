-- What the calls of the table come to, as the rules have it. Assumes nothing.
use Rattle.std.proofs.Common.{◌≡◌, ℕ, ◌≤◌, List, Some, None, Ok, Err, Option, Result, sym, refl, ap, ◌∙◌, subst}
use Rattle.std.specs.Result.{OnErr}
use Rattle.std.proofs.iter.runs.Lists.{nth_read}
use Rattle.pages.specs.Pages.{fault_at}
use Rattle.script.specs.declared.Register.TheVariants.{R0}
use Rattle.script.specs.declared.Action.TheVariants.{Set}
use Rattle.serial.specs.declared.fault.StepFault.{StepFault}
use Rattle.serial.specs.declared.fault.CallFault.TheVariants.{OffPages}
use Rattle.serial.specs.declared.fault.Standing.TheVariants.{Ready}
use Rattle.serial.specs.declared.fault.Turned.TheVariants.{Moved}
use Rattle.serial.specs.declared.fault.Accepted.TheVariants.{Took}
use Rattle.serial.specs.Faults.{Answer, step_fault}
use Rattle.serial.specs.Machine.{Meaning, Steps, Stand, Taken, moved, off_pages}
use Rattle.serial.specs.Alone.{try_step, next}
use Rattle.serial.specs.Rules.{script_of, shadow, standing, shadow_moves, turns, turn}
use Rattle.serial.proofs.Outcomes.{turn_by_step, ready_before_end}
use Rattle.serial.proofs.Table.{none_is_some}
use Rattle.engine.specs.declared.table.Table.{Table}
use Rattle.engine.specs.declared.engine.Engine.{Engine as Held}
use Rattle.engine.specs.Table.{engine_of, TookTurn}
use Rattle.engine.specs.Calls.{state_of}
use Rattle.engine.proofs.Kept.{Spread, whole, kept_by}

abbrev pub turn_answer : Result (Unit {0}) StepFault → Answer
turn_answer (Ok x) = Ok (Took Moved)
turn_answer (Err f) = Err (OffPages f)

module _ (ar : Meaning) (e : Held) (pages : List ℕ) (t u : ℕ) (t_in : t ≤ 7) (u_in : u ≤ 7) (sc : Steps) (at : Stand)
    (script : script_of (engine_of e.table) t ≡ Some sc) (there : shadow (engine_of e.table) t u ≡ Some at) (ready : standing (engine_of e.table) t u sc at ≡ Ready) where
  -- a turn's step, as the rules have the turn
  pub record TurnedTo (r : Result (Unit {0}) StepFault) (table : Table) : Type 0 where
    pub rule : turns ar (state_of e pages) t u ≡ (record { engine = engine_of table; pages = pages }, turn_answer r)
    pub refused : OnErr r (table ≡ e.table)

  by_step : (o : Option Taken) → next ar sc pages at ≡ o → (r : Result (Unit {0}) StepFault) (table : Table) → TookTurn e.table (λ x. shadow_moves (engine_of e.table) t u sc at x) t at.step o r table → TurnedTo r table
  by_step None h r table k =
      let low = ready_before_end (engine_of e.table) (whole e) t u sc at script there ready in
      let some = nth_read sc at.step (record { action = Set R0; operand = 0 }) low in
      none_is_some _ (sym h ∙ ap (try_step ar pages at) some)
  by_step (Some (moved to)) h r table k =
      subst (λ x. TurnedTo x table) (sym k.0) (record {
        rule = turn_by_step (state_of e pages) ar t u sc at (Some (moved to)) t_in u_in script there ready h ∙ ap (λ x. (record { engine = x; pages = pages }, Ok (Took Moved))) (sym k.1);
        refused = tt;
      })
  by_step (Some (off_pages p)) h r table k =
      subst (λ x. TurnedTo x table) (sym k.0) (record {
        rule = turn_by_step (state_of e pages) ar t u sc at (Some (off_pages p)) t_in u_in script there ready h ∙ ap (λ x. (record { engine = engine_of x; pages = pages }, Err (OffPages (step_fault t at.step (fault_at p))))) (sym k.1);
        refused = k.1;
      })

  pub turned_to : (r : Result (Unit {0}) StepFault) (table : Table) → TookTurn e.table (λ x. shadow_moves (engine_of e.table) t u sc at x) t at.step (next ar sc pages at) r table → TurnedTo r table
  turned_to r table k = by_step (next ar sc pages at) refl r table k

  pub turned_kept : (r : Result (Unit {0}) StepFault) (table : Table) → TookTurn e.table (λ x. shadow_moves (engine_of e.table) t u sc at x) t at.step (next ar sc pages at) r table → Spread table
  turned_kept r table k = kept_by ar (turn t u) e pages pages table (engine_of table) (turn_answer r) (turned_to r table k).rule refl
