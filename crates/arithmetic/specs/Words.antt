-- What the operations are and what the two delivered arithmetics make of them. Assumes nothing.
use Rattle.std.specs.Prelude.{ℕ, zero, suc, ◌+◌, ◌-◌, ◌%◌, ◌^◌, max, Some, None, Option, Result, bit_and, bit_or, bit_xor}
use Rattle.std.specs.Option.{ok_or}
use Rattle.arithmetic.specs.declared.Operation.{Operation}
use Rattle.arithmetic.specs.declared.Operation.TheVariants.{Zero, One, Two}
use Rattle.arithmetic.specs.declared.UnknownOperation.{UnknownOperation}
use Rattle.arithmetic.specs.declared.Delivered.{Delivered}
use Rattle.arithmetic.specs.declared.Delivered.TheVariants.{Counting, Flagging}

-- the operations are numbered 0, 1 and 2
abbrev pub number : Operation → ℕ
number Zero = 0
number One = 1
number Two = 2

-- and no other number names one
abbrev pub from_number : ℕ → Option Operation
from_number zero = Some Zero
from_number (suc zero) = Some One
from_number (suc (suc zero)) = Some Two
from_number (suc (suc (suc n))) = None

-- the operation with a number, or the number that names none
abbrev pub operation_told : ℕ → Result Operation UnknownOperation
operation_told n = ok_or (from_number n) (record { number = n })

-- counters: 0 is the sum modulo 2^32, 1 the first minus the second modulo 2^32, 2 the larger
abbrev pub counters : Operation → ℕ → ℕ → ℕ
counters Zero a b = (a + b) % 2 ^ 32
counters One a b = (a + (2 ^ 32 - b)) % 2 ^ 32
counters Two a b = max a b

-- flags, bit by bit: 0 is both, 1 is either, 2 is exactly one
abbrev pub flags : Operation → ℕ → ℕ → ℕ
flags Zero a b = bit_and a b
flags One a b = bit_or a b
flags Two a b = bit_xor a b

abbrev pub delivered : Delivered → Operation → ℕ → ℕ → ℕ
delivered Counting = counters
delivered Flagging = flags
