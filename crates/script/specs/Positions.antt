-- Which bytes are a script of which steps, by the positions of the bytes and without decoding them. Assumes nothing.
use Rattle.std.specs.Prelude.{◌≡◌, ℕ, ◌+◌, ◌*◌, ◌<◌, ◌≤◌, ◌↔◌, List, length, Some, Ok, Err, Result, slice_index}
use Rattle.std.specs.List.{slice_get}
use Rattle.arithmetic.specs.Words.{number}
use Rattle.script.specs.declared.Action.{Action}
use Rattle.script.specs.declared.Action.TheVariants.{Read, ReadIndexed, Write, WriteIndexed, Set, Combine, Skip}
use Rattle.script.specs.declared.Step.{Step}
use Rattle.script.specs.declared.ScriptFault.{ScriptFault}
use Rattle.script.specs.declared.ScriptFault.TheVariants.{Unfit, Undefined}
use Rattle.script.specs.Script.{index, decoded}

-- a code byte: four bits of action, two of register a, two of register b
abbrev pub code : ℕ → ℕ → ℕ → ℕ
code action a b = 16 * action + 4 * a + b

-- the actions are numbered 0 to 6; where there is no register b, its bits are clear
abbrev pub code_of : Action → ℕ
code_of (Read a) = code 0 (index a) 0
code_of (ReadIndexed a b) = code 1 (index a) (index b)
code_of (Write a) = code 2 (index a) 0
code_of (WriteIndexed a b) = code 3 (index a) (index b)
code_of (Set a) = code 4 (index a) 0
code_of (Combine op a b) = code 5 (index a) (index b)
code_of (Skip a b) = code 6 (index a) (index b)

-- the operands that an action takes as step i of n: a combine that of its operation alone, a skip 1 to 15 with its end at n
-- at most, and every other action any
abbrev pub Takes : ℕ → ℕ → Action → ℕ → Type 0
Takes n i (Read a) operand = Unit {0}
Takes n i (ReadIndexed a b) operand = Unit {0}
Takes n i (Write a) operand = Unit {0}
Takes n i (WriteIndexed a b) operand = Unit {0}
Takes n i (Set a) operand = Unit {0}
Takes n i (Combine op a b) operand = operand ≡ number op
Takes n i (Skip a b) operand = (1 ≤ operand) × (operand ≤ 15) × (i + 1 + operand ≤ n)

-- four bytes as one number: each counts 256 times the next
abbrev pub number_at : List ℕ → ℕ → ℕ
number_at bs at = 256 * (256 * (256 * slice_index bs at + slice_index bs (at + 1)) + slice_index bs (at + 2)) + slice_index bs (at + 3)

-- step i of n stands in these bytes: n code bytes follow byte 0, and n operands follow those
pub record StandsAt (bs : List ℕ) (n i : ℕ) (s : Step) : Type 0 where
  pub coded : slice_index bs (1 + i) ≡ code_of s.action
  pub beside : number_at bs (1 + n + 4 * i) ≡ s.operand
  pub operand_fits : Takes n i s.action s.operand

-- byte 0 is n, 1 to 16, and there are 1 + 5n bytes
pub record IsFit (bs : List ℕ) : Type 0 where
  pub some : 1 ≤ slice_index bs 0
  pub few : slice_index bs 0 ≤ 16
  pub long : length bs ≡ 1 + 5 * slice_index bs 0

-- the bytes are a script of these steps: they are fit, byte 0 is how many steps there are, and each stands at its place
pub record IsScript (bs : List ℕ) (ss : List Step) : Type 0 where
  pub fits : IsFit bs
  pub count : length ss ≡ slice_index bs 0
  pub steps : (i : ℕ) (s : Step) → slice_get ss i ≡ Some s → StandsAt bs (slice_index bs 0) i s

-- the bytes are fit, and i is the first of the n places where no step stands
pub record FirstBare (bs : List ℕ) (i : ℕ) : Type 0 where
  pub fits : IsFit bs
  pub within : i < slice_index bs 0
  pub bare : (s : Step) → StandsAt bs (slice_index bs 0) i s → ⊥
  pub before : (k : ℕ) → k < i → (s : Step) × StandsAt bs (slice_index bs 0) k s

-- what bytes come to: a script of these steps; or, where they are not fit, their length; or the first place with no step
abbrev pub DecodesTo : List ℕ → Result (List Step) ScriptFault → Type 0
DecodesTo bs (Ok ss) = IsScript bs ss
DecodesTo bs (Err (Unfit n)) = (IsFit bs → ⊥) × (n ≡ length bs)
DecodesTo bs (Err (Undefined i)) = FirstBare bs i

-- decoding gives r exactly if the bytes come to r, so that they come to one result
abbrev pub DecodedByPosition : List ℕ → Type 0
DecodedByPosition bs = (r : Result (List Step) ScriptFault) → (decoded bs ≡ r) ↔ DecodesTo bs r
