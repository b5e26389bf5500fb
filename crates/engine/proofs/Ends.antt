-- How the steps of a run, taken one by one, come to what the run alone comes to. Assumes nothing.
use Rattle.std.proofs.Common.{◌≡◌, ℕ, zero, suc, ◌<◌, ◌≤◌, List, [], ◌∷◌, length, Some, None, Ok, Err, Option, sym, refl, ap, ◌∙◌, subst, arith}
use Rattle.std.specs.List.{slice_get}
use Rattle.std.proofs.iter.runs.Lists.{slice_get_within}
use Rattle.std.proofs.lemmas.Bool.{ne_eqb}
use Rattle.pages.specs.Pages.{fault_at}
use Rattle.script.specs.declared.Step.{Step}
use Rattle.script.specs.Laws.{EndsAtEnd}
use Rattle.serial.specs.Machine.{Meaning, Steps, Stand, start, Taken, moved, off_pages, takes}
use Rattle.serial.specs.Alone.{there, fault, try_step, is_at, stand_at, whole_run}
use Rattle.serial.specs.Laws.{Next, Leads}
use Rattle.serial.proofs.Runs.{leads-ends, reached_stand, stops_at}
use Rattle.engine.specs.declared.shadow.Shadow.{Shadow}
use Rattle.engine.specs.declared.alone.AloneFault.{AloneFault}
use Rattle.engine.specs.declared.alone.AloneFault.TheVariants.{Step as StepFault}
use Rattle.engine.specs.View.{stand_of, Room}
use Rattle.engine.specs.Alone.{Advanced, Ended}
use Rattle.engine.proofs.Stands.{start-sound, leads-sound, sound-room}

nth_none : (ss : Steps) (i : ℕ) → slice_get ss i ≡ None → length ss ≤ i
nth_none [] i e = omega arith
nth_none (s ∷ ss) zero e = let z : ◌≡◌ {A = ℕ} 0 1 = cc in absurd (omega arith)
nth_none (s ∷ ss) (suc i) e = let rest = nth_none ss i e in omega arith

-- what a look at step m told, where m is n
pub looked_up : (ss : Steps) (m n : ℕ) (o : Option Step) → m ≡ n → o ≡ slice_get ss m → slice_get ss n ≡ o
looked_up ss m n o e h = ap (slice_get ss) (sym e) ∙ sym h

-- what an answer tells of the step taken
pub advanced_ok : (s t : Shadow) (k : Taken) → Advanced s k (Ok tt) t → k ≡ moved (stand_of t)
advanced_ok s t (moved e) h = ap moved (sym h.1)
advanced_ok s t (off_pages p) h = let x = h.0 in let z : ◌≡◌ {A = ℕ} 0 1 = cc in absurd (omega arith)

pub advanced_err : (s t : Shadow) (k : Taken) (f : AloneFault) → Advanced s k (Err f) t → (p : ℕ) × (k ≡ off_pages p) × (f ≡ StepFault s.step (fault_at p))
advanced_err s t (moved e) f h = let x = h.0 in let z : ◌≡◌ {A = ℕ} 0 1 = cc in absurd (omega arith)
advanced_err s t (off_pages p) f h = let x = h.0 in (p, refl, (cc))

module _ (ar : Meaning) (script : Steps) (pages : List ℕ) where
  pub next_taken : (s t : Stand) (st : Step) → slice_get script s.step ≡ Some st → takes ar pages st s ≡ moved t → Next ar script pages s t
  next_taken s t st at h = ap (try_step ar pages s) at ∙ ap Some h

  -- a run that has come to where no step is next is at its end
  pub run_ends : (s : Stand) → EndsAtEnd script → Leads ar script pages start s → slice_get script s.step ≡ None → whole_run ar script pages ≡ there s
  run_ends s ends l none =
      let low : s.step ≤ length script = leads-ends ar script pages ends (omega arith) l in
      let e : length script ≡ s.step = omega (arith, nth_none script s.step none) in
      ap (stand_at ar script pages) e ∙ reached_stand ar script pages s l low

  -- a step for a page that is not there ends the run
  pub run_stops : (s : Stand) (st : Step) (p : ℕ) → Leads ar script pages start s → slice_get script s.step ≡ Some st → takes ar pages st s ≡ off_pages p → whole_run ar script pages ≡ fault s.step p
  run_stops s st p l at h =
      let low : s.step < length script = slice_get_within script s.step st at in
      stops_at ar script pages (suc (length script)) (is_at (length script)) p l (ap (try_step ar pages s) at ∙ ap Some h) (omega arith)
      (λ u x y. ne_eqb u.step (length script) (λ e. omega arith))

  -- where a step is next, there is room for it
  pub next-room : (s : Stand) (st : Step) → length script ≤ 16 → Leads ar script pages start s → slice_get script s.step ≡ Some st → Room s
  next-room s st few l at =
      let low : s.step < length script = slice_get_within script s.step st at in
      sound-room pages s (omega arith) (leads-sound ar script pages l (start-sound pages))

  pub run_faults : (s t : Shadow) (st : Step) (f : AloneFault) → Leads ar script pages start (stand_of s) → slice_get script s.step ≡ Some st → Advanced s (takes ar pages st (stand_of s)) (Err f) t → Ended ar script pages (Err f)
  run_faults s t st f l at h =
      let e = advanced_err s t (takes ar pages st (stand_of s)) f h in
      subst (λ x. Ended ar script pages (Err x)) (sym e.2) (run_stops (stand_of s) st e.0 l at e.1)
