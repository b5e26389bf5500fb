-- What each call comes to, by the checks that decide it: whatever holds at each way out holds of the call. Assumes nothing.
use Rattle.std.proofs.Common.{◌≡◌, ℕ, ◌<◌, ◌≤◌, Bool, true, false, not, ◌&&◌, leb, ◌⊎◌, List, length, Some, None, Ok, Err, Option, Result, refl, inl, inr, ⊎_elim, arith}
use Rattle.std.proofs.lemmas.Bool.{cases_lt, and_parts, and_from, leb-true, leb-false, le-leb, not-true, not-false, both_ways}
use Rattle.pages.specs.Pages.{fault_at}
use Rattle.script.specs.Script.{decoded}
use Rattle.script.specs.declared.Register.TheVariants.{R0}
use Rattle.script.specs.declared.ScriptFault.{ScriptFault}
use Rattle.serial.specs.declared.fault.CallFault.{CallFault}
use Rattle.serial.specs.declared.fault.CallFault.TheVariants.{NoSlot, BadAllowance, SlotsOpen, AlreadyOpen, Undecoded, NotOpen, NoShadow, OffPages, NotEnded, Unwritable}
use Rattle.serial.specs.declared.fault.Turned.TheVariants.{Moved, Ended, Waiting}
use Rattle.serial.specs.declared.fault.Standing.{Standing}
use Rattle.serial.specs.declared.fault.Standing.TheVariants.{AtEnd, Halted, Ready}
use Rattle.serial.specs.declared.fault.Accepted.{Accepted}
use Rattle.serial.specs.declared.fault.Accepted.TheVariants.{Allowed, Begun, Took, Committed, Aborted}
use Rattle.serial.specs.Faults.{step_fault}
use Rattle.serial.specs.Machine.{Meaning, Steps, Stand, holds, Taken, moved, off_pages}
use Rattle.serial.specs.Alone.{next, put_all}
use Rattle.serial.specs.Rules.{State, Done, Checked, ◌>>=◌, ◌>>◌, check◌else◌, some◌else◌, none◌else◌, ok◌else◌, called, script_of, is_open, shadow, standing, first_open, allows, begun, begins, shadow_moves, tries, turns_at, turns, closed, committed, first_off, commits, aborts}

-- a check passes or refuses
module _ {X : Type 0} (Q : Checked X → Type 0) where
  check-cases : (b : Bool) (f : CallFault) (rest : Checked X) → (b ≡ true → Q rest) → (b ≡ false → Q (Err f)) → Q ((check b else f) >> rest)
  check-cases true f rest a n = a refl
  check-cases false f rest a n = n refl

  some-cases : {Y : Type 0} (o : Option Y) (f : CallFault) (rest : Y → Checked X) → ((y : Y) → o ≡ Some y → Q (rest y)) → (o ≡ None → Q (Err f)) → Q ((some o else f) >>= rest)
  some-cases (Some y) f rest a n = a y refl
  some-cases None f rest a n = n refl

  none-cases : {Y : Type 0} (o : Option Y) (f : Y → CallFault) (rest : Checked X) → (o ≡ None → Q rest) → ((y : Y) → o ≡ Some y → Q (Err (f y))) → Q ((none o else f) >> rest)
  none-cases None f rest a n = a refl
  none-cases (Some y) f rest a n = n y refl

  ok-cases : {Y E : Type 0} (r : Result Y E) (f : E → CallFault) (rest : Y → Checked X) → ((y : Y) → r ≡ Ok y → Q (rest y)) → ((e : E) → r ≡ Err e → Q (Err (f e))) → Q ((ok r else f) >>= rest)
  ok-cases (Ok y) f rest a n = a y refl
  ok-cases (Err e) f rest a n = n e refl

-- slots are numbered below 8
pub below_eight : (t : ℕ) → leb t 7 ≡ true → t < 8
below_eight t e = let l = leb-true t 7 e in omega arith

pub from_eight : (t : ℕ) → leb t 7 ≡ false → 8 ≤ t
from_eight t e = let l = leb-false t 7 e in omega arith

pub outside : (k : ℕ) → (leb 1 k && leb k 8) ≡ false → (k < 1) ⊎ (8 < k)
outside k e =
    ⊎_elim
    (λ (l : k < 1). inl l)
    (λ (l : 1 ≤ k). ⊎_elim (λ (m : 8 < k). inr m) (λ (m : k ≤ 8). absurd (both_ways (leb 1 k && leb k 8) e (and_from (leb 1 k) (leb k 8) (le-leb 1 k l) (le-leb k 8 m)))) (cases_lt 8 k))
    (cases_lt k 1)

module _ (s : State) (P : Done → Type 0) where
  abbrev At : Checked (State × Accepted) → Type 0
  At r = P (called s r)

  pub allows-opened : (k : ℕ)
      → ((k < 1) ⊎ (8 < k) → At (Err (BadAllowance k)))
      → ((t : ℕ) → 1 ≤ k → k ≤ 8 → first_open 0 s.engine.scripts ≡ Some t → At (Err (SlotsOpen t)))
      → (1 ≤ k → k ≤ 8 → first_open 0 s.engine.scripts ≡ None → P (record s { engine = record s.engine { allowance = k } }, Ok Allowed))
      → P (allows s k)
  allows-opened k bad busy go =
      check-cases At (leb 1 k && leb k 8) (BadAllowance k) _
      (λ e.
      let a = and_parts (leb 1 k) (leb k 8) e in
      none-cases At (first_open 0 s.engine.scripts) SlotsOpen _ (go (leb-true 1 k a.0) (leb-true k 8 a.1)) (λ t h. busy t (leb-true 1 k a.0) (leb-true k 8 a.1) h))
      (λ e. bad (outside k e))

  pub begins-opened : (t : ℕ) (bytes : List ℕ)
      → (8 ≤ t → At (Err (NoSlot t)))
      → (t < 8 → is_open s.engine t ≡ true → At (Err (AlreadyOpen t)))
      → (t < 8 → is_open s.engine t ≡ false → (f : ScriptFault) → decoded bytes ≡ Err f → At (Err (Undecoded f)))
      → (t < 8 → is_open s.engine t ≡ false → (sc : Steps) → decoded bytes ≡ Ok sc → P (record s { engine = begun s.engine t sc }, Ok Begun))
      → P (begins s t bytes)
  begins-opened t bytes far full bad go =
      check-cases At (leb t 7) (NoSlot t) _
      (λ e.
      let l = below_eight t e in
      check-cases At (not (is_open s.engine t)) (AlreadyOpen t) _
      (λ h. let free = not-true (is_open s.engine t) h in ok-cases At (decoded bytes) Undecoded _ (go l free) (bad l free))
      (λ h. full l (not-false (is_open s.engine t) h)))
      (λ e. far (from_eight t e))

  module _ (ar : Meaning) (t u : ℕ) where
    -- a shadow that is there takes its turn
    pub turns-opened :
        (8 ≤ t → At (Err (NoSlot t)))
        → (t < 8 → 8 ≤ u → At (Err (NoSlot u)))
        → (t < 8 → u < 8 → script_of s.engine t ≡ None → At (Err (NotOpen t)))
        → (t < 8 → u < 8 → (sc : Steps) → script_of s.engine t ≡ Some sc → shadow s.engine t u ≡ None → At (Err (NoShadow u)))
        → (t < 8 → u < 8 → (sc : Steps) → script_of s.engine t ≡ Some sc → (at : Stand) → shadow s.engine t u ≡ Some at
        → P (called s (turns_at ar s t u sc at (standing s.engine t u sc at))))
        → P (turns ar s t u)
    turns-opened far far' shut gone go =
        check-cases At (leb t 7) (NoSlot t) _
        (λ e.
        let l = below_eight t e in
        check-cases At (leb u 7) (NoSlot u) _
        (λ h.
        let k = below_eight u h in
        some-cases At (script_of s.engine t) (NotOpen t) _
        (λ sc script. some-cases At (shadow s.engine t u) (NoShadow u) _ (go l k sc script) (gone l k sc script))
        (shut l k))
        (λ h. far' l (from_eight u h)))
        (λ e. far (from_eight t e))

    -- and by what it finds
    pub turn-found : (sc : Steps) (at : Stand)
        → (standing s.engine t u sc at ≡ AtEnd → P (s, Ok (Took Ended)))
        → (standing s.engine t u sc at ≡ Halted → P (s, Ok (Took Waiting)))
        → (standing s.engine t u sc at ≡ Ready → next ar sc s.pages at ≡ None → P (s, Ok (Took Ended)))
        → (standing s.engine t u sc at ≡ Ready → (p : ℕ) → next ar sc s.pages at ≡ Some (off_pages p) → At (Err (OffPages (step_fault t at.step (fault_at p)))))
        → (standing s.engine t u sc at ≡ Ready → (to : Stand) → next ar sc s.pages at ≡ Some (moved to)
        → P (record s { engine = shadow_moves s.engine t u sc at to }, Ok (Took Moved)))
        → P (called s (turns_at ar s t u sc at (standing s.engine t u sc at)))
    turn-found sc at ended waiting past off go = by (standing s.engine t u sc at) refl
      where
        taken : standing s.engine t u sc at ≡ Ready → (o : Option Taken) → next ar sc s.pages at ≡ o → P (called s (tries s t u sc at o))
        taken r None h = past r h
        taken r (Some (off_pages p)) h = off r p h
        taken r (Some (moved to)) h = go r to h

        by : (x : Standing) → standing s.engine t u sc at ≡ x → P (called s (turns_at ar s t u sc at x))
        by AtEnd h = ended h
        by Halted h = waiting h
        by Ready h = taken h (next ar sc s.pages at) refl

  pub commits-opened : (t : ℕ)
      → (8 ≤ t → At (Err (NoSlot t)))
      → (t < 8 → script_of s.engine t ≡ None → At (Err (NotOpen t)))
      → (t < 8 → (sc : Steps) → script_of s.engine t ≡ Some sc → shadow s.engine t t ≡ None → At (Err (NotOpen t)))
      → (t < 8 → (sc : Steps) → script_of s.engine t ≡ Some sc → (lead : Stand) → shadow s.engine t t ≡ Some lead → lead.step < length sc → At (Err (NotEnded lead.step)))
      → (t < 8 → (sc : Steps) → script_of s.engine t ≡ Some sc → (lead : Stand) → shadow s.engine t t ≡ Some lead → length sc ≤ lead.step
      → (p : ℕ) → first_off (length s.pages) lead.own ≡ Some p → At (Err (Unwritable t (fault_at p))))
      → (t < 8 → (sc : Steps) → script_of s.engine t ≡ Some sc → (lead : Stand) → shadow s.engine t t ≡ Some lead → length sc ≤ lead.step
      → first_off (length s.pages) lead.own ≡ None
      → P (record { engine = committed s.engine t lead.own; pages = put_all lead.own s.pages }, Ok (Committed (holds lead R0) (length lead.own))))
      → P (commits s t)
  commits-opened t far shut unled early off go =
      check-cases At (leb t 7) (NoSlot t) _
      (λ e.
      let l = below_eight t e in
      some-cases At (script_of s.engine t) (NotOpen t) _
      (λ sc script.
      some-cases At (shadow s.engine t t) (NotOpen t) _
      (λ lead leads.
      check-cases At (leb (length sc) lead.step) (NotEnded lead.step) _
      (λ h.
      let far_on = leb-true (length sc) lead.step h in
      none-cases At (first_off (length s.pages) lead.own) (λ p. Unwritable t (fault_at p)) _ (go l sc script lead leads far_on) (off l sc script lead leads far_on))
      (λ h. early l sc script lead leads (leb-false (length sc) lead.step h)))
      (unled l sc script))
      (shut l))
      (λ e. far (from_eight t e))

  pub aborts-opened : (t : ℕ)
      → (8 ≤ t → At (Err (NoSlot t)))
      → (t < 8 → is_open s.engine t ≡ false → At (Err (NotOpen t)))
      → (t < 8 → is_open s.engine t ≡ true → P (record s { engine = closed s.engine t s.engine.shadows }, Ok Aborted))
      → P (aborts s t)
  aborts-opened t far shut go =
      check-cases At (leb t 7) (NoSlot t) _
      (λ e. check-cases At (is_open s.engine t) (NotOpen t) _ (go (below_eight t e)) (shut (below_eight t e)))
      (λ e. far (from_eight t e))
