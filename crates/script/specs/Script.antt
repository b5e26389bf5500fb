-- What bytes mean as a script. Assumes nothing.
--
-- Byte 0 is n, the number of steps; then come n code bytes, and n operands of four bytes, most significant first. In a
-- code byte the high four bits are the action, bits 3 and 2 register a, bits 1 and 0 register b.
use Rattle.std.specs.Prelude.{ℕ, zero, suc, ◌+◌, ◌*◌, ◌/◌, ◌%◌, Bool, cond, ◌&&◌, List, [], ◌∷◌, ◌++◌, length, Some, None, Ok, Err, Option, Result, ◌==◌, nat_le, slice_index}
use Rattle.basics.specs.Bytes.{big_endian}
use Rattle.arithmetic.specs.Words.{from_number}
use Rattle.arithmetic.specs.declared.Operation.{Operation}
use Rattle.script.specs.declared.Register.{Register}
use Rattle.script.specs.declared.Register.TheVariants.{R0, R1, R2, R3}
use Rattle.script.specs.declared.Action.{Action}
use Rattle.script.specs.declared.Action.TheVariants.{Read, ReadIndexed, Write, WriteIndexed, Set, Combine, Skip}
use Rattle.script.specs.declared.Step.{Step}
use Rattle.script.specs.declared.ScriptFault.{ScriptFault}
use Rattle.script.specs.declared.ScriptFault.TheVariants.{Unfit, Undefined}

-- bytes of no fit size or length are refused with number 5 and the length; a script with a step that is not defined with
-- number 6 and the first such step
abbrev pub script_cause : ScriptFault → ℕ
script_cause (Unfit length) = 5
script_cause (Undefined step) = 6

abbrev pub script_returned : ScriptFault → List ℕ
script_returned (Unfit length) = length ∷ []
script_returned (Undefined step) = step ∷ []

-- registers are numbered 0 to 3
abbrev pub register : ℕ → Register
register zero = R0
register (suc zero) = R1
register (suc (suc zero)) = R2
register (suc (suc (suc n))) = R3

-- a register's place among the four
abbrev pub index : Register → ℕ
index R0 = 0
index R1 = 1
index R2 = 2
index R3 = 3

abbrev pub steps_told : List ℕ → ℕ
steps_told bs = slice_index bs 0

-- n is 1 to 16, and there are exactly 1 + 5n bytes
abbrev pub fit : List ℕ → Bool
fit bs = nat_le 1 (steps_told bs) && (nat_le (steps_told bs) 16 && length bs == 1 + 5 * steps_told bs)

-- how many steps fit bytes have
abbrev pub size_told : List ℕ → Option ℕ
size_told bs = cond (fit bs) (Some (steps_told bs)) None

abbrev pub code_at : List ℕ → ℕ → ℕ
code_at bs i = slice_index bs (1 + i)

abbrev pub operand_at : List ℕ → ℕ → ℕ
operand_at bs i = big_endian bs (1 + steps_told bs + 4 * i)

abbrev pub step_with : Action → ℕ → Option Step
step_with action operand = Some (record { action = action; operand = operand })

abbrev pub combining : ℕ → Register → Register → Option Operation → Option Step
combining operand a b None = None
combining operand a b (Some op) = step_with (Combine op a b) operand

-- step i of n with this action, registers and operand, where it is defined: actions 0, 2 and 4 have no register b; a
-- combine has operand 0, 1 or 2; a skip leaves out 1 to 15 steps and ends at n at most
abbrev pub defined : ℕ → ℕ → ℕ → ℕ → ℕ → ℕ → Option Step
defined n i zero a b operand = cond (b == 0) (step_with (Read (register a)) operand) None
defined n i (suc zero) a b operand = step_with (ReadIndexed (register a) (register b)) operand
defined n i (suc (suc zero)) a b operand = cond (b == 0) (step_with (Write (register a)) operand) None
defined n i (suc (suc (suc zero))) a b operand = step_with (WriteIndexed (register a) (register b)) operand
defined n i (suc (suc (suc (suc zero)))) a b operand = cond (b == 0) (step_with (Set (register a)) operand) None
defined n i (suc (suc (suc (suc (suc zero))))) a b operand = combining operand (register a) (register b) (from_number operand)
defined n i (suc (suc (suc (suc (suc (suc zero)))))) a b operand =
    cond (nat_le 1 operand && (nat_le operand 15 && nat_le (i + 1 + operand) n)) (step_with (Skip (register a) (register b)) operand) None
defined n i (suc (suc (suc (suc (suc (suc (suc action))))))) a b operand = None

-- step i of n, by its code byte and its operand
abbrev pub step_of : ℕ → ℕ → ℕ → ℕ → Option Step
step_of n i code operand = defined n i (code / 16) (code / 4 % 4) (code % 4) operand

abbrev pub step_at : List ℕ → ℕ → Option Step
step_at bs i = step_of (steps_told bs) i (code_at bs i) (operand_at bs i)

-- step i after the steps before it: the first that is not defined stays the fault
abbrev pub then_step : ℕ → Option Step → Result (List Step) ScriptFault → Result (List Step) ScriptFault
then_step i step (Err fault) = Err fault
then_step i (Some step) (Ok steps) = Ok (steps ++ step ∷ [])
then_step i None (Ok steps) = Err (Undefined i)

abbrev pub steps_to : List ℕ → ℕ → Result (List Step) ScriptFault
steps_to bs zero = Ok []
steps_to bs (suc i) = then_step i (step_at bs i) (steps_to bs i)

-- the steps of a script, or why there are none
abbrev pub decoded : List ℕ → Result (List Step) ScriptFault
decoded bs = cond (fit bs) (steps_to bs (steps_told bs)) (Err (Unfit (length bs)))
