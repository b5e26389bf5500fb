-- When a call is declined: the table of refusals, a fact for each number. Assumes nothing.
use Rattle.std.specs.Prelude.{◌≡◌, ℕ, ◌<◌, ◌≤◌, true, false, ◌⊎◌, List, [], ◌∷◌, map, length, Some, None, Err, Option}
use Rattle.std.specs.List.{slice_get}
use Rattle.pages.specs.Pages.{fault_at}
use Rattle.pages.specs.declared.StoreFault.{StoreFault}
use Rattle.script.specs.Script.{decoded}
use Rattle.serial.specs.declared.fault.StepFault.{StepFault}
use Rattle.serial.specs.declared.fault.CallFault.{CallFault}
use Rattle.serial.specs.declared.fault.CallFault.TheVariants.{NoSlot, BadAllowance, SlotsOpen, AlreadyOpen, Undecoded, NotOpen, NoShadow, OffPages, NotEnded, Unwritable}
use Rattle.serial.specs.declared.fault.Standing.TheVariants.{Ready}
use Rattle.serial.specs.Faults.{step_fault, call_cause, call_returned}
use Rattle.serial.specs.Machine.{Steps, Stand, store_read, write_of}
use Rattle.serial.specs.Rules.{Engine, State, Call, set_allowance, begin, turn, commit, abort, script_of, is_open, shadow}
use Rattle.serial.specs.Words.{Finds}

-- what an engine is asked: one of the five calls, or a question, stand or read entry, about t's shadow for u; both questions
-- are refused alike
pub data Asked : Type 0 where
  made : Call → Asked
  question : ℕ → ℕ → Asked

-- the slot numbers that are named, in order
abbrev pub named : Asked → List ℕ
named (made (set_allowance k)) = []
named (made (begin t bytes)) = t ∷ []
named (made (turn t u)) = t ∷ u ∷ []
named (made (commit t)) = t ∷ []
named (made (abort t)) = t ∷ []
named (question t u) = t ∷ u ∷ []

-- the slot that has to be open
abbrev pub needs_open : Asked → Option ℕ
needs_open (made (set_allowance k)) = None
needs_open (made (begin t bytes)) = None
needs_open (made (turn t u)) = Some t
needs_open (made (commit t)) = Some t
needs_open (made (abort t)) = Some t
needs_open (question t u) = Some t

-- the shadow that has to be there, by its slot and the slot that it is for
abbrev pub needs_shadow : Asked → Option (ℕ × ℕ)
needs_shadow (made (set_allowance k)) = None
needs_shadow (made (begin t bytes)) = None
needs_shadow (made (turn t u)) = Some (t, u)
needs_shadow (made (commit t)) = None
needs_shadow (made (abort t)) = None
needs_shadow (question t u) = Some (t, u)

-- n is the first number on the list that is not below the limit
abbrev pub FirstNotBelow : ℕ → List ℕ → ℕ → Type 0
FirstNotBelow limit [] n = ⊥
FirstNotBelow limit (x ∷ xs) n = ((limit ≤ x) × (n ≡ x)) ⊎ ((x < limit) × FirstNotBelow limit xs n)

-- t is the lowest open slot
abbrev pub LowestOpen : Engine → ℕ → Type 0
LowestOpen e t = (is_open e t ≡ true) × ((v : ℕ) → v < t → is_open e v ≡ false)

-- the next turn of t's shadow for u would try a step that is a store read or a write of a page not below the store's size; f
-- holds the slot, the step and the store fault
pub record StepOff (s : State) (t u : ℕ) (f : StepFault) : Type 0 where
  pub script : Steps
  pub at : Stand
  pub page : ℕ
  pub runs : script_of s.engine t ≡ Some script
  pub stands : shadow s.engine t u ≡ Some at
  pub ready : Finds s.engine t u script at Ready
  pub touches : (store_read (slice_get script at.step) at ≡ Some page) ⊎ (write_of (slice_get script at.step) at ≡ Some page)
  pub off : length s.pages ≤ page
  pub told : f ≡ step_fault t at.step (fault_at page)

-- t's leading shadow is before its end, at step n
pub record BeforeEnd (s : State) (t n : ℕ) : Type 0 where
  pub script : Steps
  pub lead : Stand
  pub runs : script_of s.engine t ≡ Some script
  pub leads : shadow s.engine t t ≡ Some lead
  pub before : lead.step < length script
  pub told : n ≡ lead.step

-- the list of t's leading shadow has a page that the store does not have; f tells the first such page in the list's order
pub record ListOff (s : State) (t : ℕ) (f : StoreFault) : Type 0 where
  pub lead : Stand
  pub page : ℕ
  pub leads : shadow s.engine t t ≡ Some lead
  pub off : FirstNotBelow (length s.pages) (map (λ w. w.page) lead.own) page
  pub told : f ≡ fault_at page

-- the table: a refusal, with its values, fits what is asked
abbrev pub Fits : Asked → State → CallFault → Type 0
-- 1: a slot number above 7, the first such number
Fits a s (NoSlot n) = FirstNotBelow 8 (named a) n
-- 2: an allowance of 0 or above 8
Fits a s (BadAllowance k) = (a ≡ made (set_allowance k)) × ((k < 1) ⊎ (8 < k))
-- 3: set allowance with a slot open, the lowest such slot
Fits a s (SlotsOpen t) = (k : ℕ) × (a ≡ made (set_allowance k)) × LowestOpen s.engine t
-- 4: begin on an open slot
Fits a s (AlreadyOpen t) = (bytes : List ℕ) × (a ≡ made (begin t bytes)) × (is_open s.engine t ≡ true)
-- 5 and 6: begin with bytes that are no script. 5: of no fit size or length, the length; 6: with a step that is not defined,
-- the first such step
Fits a s (Undecoded f) = (t : ℕ) × (bytes : List ℕ) × (a ≡ made (begin t bytes)) × (decoded bytes ≡ Err f)
-- 7: a slot that has to be open and is not
Fits a s (NotOpen t) = (needs_open a ≡ Some t) × (is_open s.engine t ≡ false)
-- 8: a shadow that has to be there and is not, the slot that it would be for
Fits a s (NoShadow u) = (t : ℕ) × (needs_shadow a ≡ Some (t, u)) × (shadow s.engine t u ≡ None)
-- 9: a turn that would try a step for a page that the store does not have: the slot, the step and the store fault
Fits a s (OffPages f) = (t : ℕ) × (u : ℕ) × (a ≡ made (turn t u)) × StepOff s t u f
-- 10: commit before the end, the leading shadow's step
Fits a s (NotEnded n) = (t : ℕ) × (a ≡ made (commit t)) × BeforeEnd s t n
-- 11: commit with a written page that the store does not have: the slot, the first such page
Fits a s (Unwritable t f) = (a ≡ made (commit t)) × ListOff s t f

-- f fits, and whatever else fits has a higher number
abbrev pub LeastFits : Asked → State → CallFault → Type 0
LeastFits a s f = Fits a s f × ((g : CallFault) → Fits a s g → (g ≡ f) ⊎ (call_cause f < call_cause g))

-- no refusal fits
abbrev pub NoneFits : Asked → State → Type 0
NoneFits a s = (g : CallFault) → Fits a s g → ⊥

-- number and values say which refusal it is
abbrev pub FaultsTold : Type 0
FaultsTold = (f g : CallFault) → call_cause f ≡ call_cause g → call_returned f ≡ call_returned g → f ≡ g
