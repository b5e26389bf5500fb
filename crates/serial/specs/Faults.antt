-- What a call answers, and the numbers and values of a declined one. Assumes nothing.
use Rattle.std.specs.Prelude.{ℕ, List, [], ◌∷◌, Result}
use Rattle.pages.specs.declared.StoreFault.{StoreFault}
use Rattle.script.specs.Script.{script_cause, script_returned}
use Rattle.serial.specs.declared.fault.StepFault.{StepFault}
use Rattle.serial.specs.declared.fault.Accepted.{Accepted}
use Rattle.serial.specs.declared.fault.CallFault.{CallFault}
use Rattle.serial.specs.declared.fault.CallFault.TheVariants.{NoSlot, BadAllowance, SlotsOpen, AlreadyOpen, Undecoded, NotOpen, NoShadow, OffPages, NotEnded, Unwritable}

-- what a call answers: what an accepted one does, or why it is declined
abbrev pub Answer : Type 0
Answer = Result Accepted CallFault

abbrev pub step_fault : ℕ → ℕ → StoreFault → StepFault
step_fault slot step fault = record { slot = slot; step = step; fault = fault }

-- 1 a slot number above 7; 2 an allowance of 0 or above 8; 3 set allowance with a slot open; 4 begin on an open slot;
-- 5 and 6 bytes that are no script; 7 a slot that is not open; 8 no such shadow; 9 a step for a page that the store does
-- not have; 10 commit before the end; 11 commit with a written page that the store does not have
abbrev pub call_cause : CallFault → ℕ
call_cause (NoSlot n) = 1
call_cause (BadAllowance k) = 2
call_cause (SlotsOpen t) = 3
call_cause (AlreadyOpen t) = 4
call_cause (Undecoded f) = script_cause f
call_cause (NotOpen t) = 7
call_cause (NoShadow u) = 8
call_cause (OffPages f) = 9
call_cause (NotEnded step) = 10
call_cause (Unwritable t f) = 11

abbrev pub call_returned : CallFault → List ℕ
call_returned (NoSlot n) = n ∷ []
call_returned (BadAllowance k) = k ∷ []
call_returned (SlotsOpen t) = t ∷ []
call_returned (AlreadyOpen t) = t ∷ []
call_returned (Undecoded f) = script_returned f
call_returned (NotOpen t) = t ∷ []
call_returned (NoShadow u) = u ∷ []
call_returned (OffPages f) = f.slot ∷ f.step ∷ f.fault.page ∷ []
call_returned (NotEnded step) = step ∷ []
call_returned (Unwritable t f) = t ∷ f.page ∷ []
