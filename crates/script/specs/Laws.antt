-- What decoding comes to, told step by step. Assumes nothing.
use Rattle.std.specs.Prelude.{◌≡◌, ℕ, ◌+◌, ◌<◌, ◌≤◌, true, false, List, length, is_some, Some, None, Ok, Err, Result}
use Rattle.std.specs.List.{slice_get}
use Rattle.script.specs.declared.Action.TheVariants.{Read, ReadIndexed, Write, WriteIndexed, Set, Combine, Skip}
use Rattle.script.specs.declared.Step.{Step}
use Rattle.script.specs.declared.ScriptFault.{ScriptFault}
use Rattle.script.specs.declared.ScriptFault.TheVariants.{Unfit, Undefined}
use Rattle.script.specs.Script.{fit, steps_told, step_at}

-- how many steps a step may leave out
abbrev pub leaves_out : Step → ℕ
leaves_out s = elim s.action [
  | Read a ↦ 0
  | ReadIndexed a b ↦ 0
  | Write a ↦ 0
  | WriteIndexed a b ↦ 0
  | Set a ↦ 0
  | Combine op a b ↦ 0
  | Skip a b ↦ s.operand
]

-- no step leaves out more than there are: a run comes to the end and not past it
abbrev pub EndsAtEnd : List Step → Type 0
EndsAtEnd ss = (i : ℕ) (s : Step) → slice_get ss i ≡ Some s → i + 1 + leaves_out s ≤ length ss

-- one of three outcomes: fit bytes with every step defined, each step as its bytes say; unfit bytes with their length;
-- fit bytes with the first step that is not defined
abbrev pub Decodes : List ℕ → Result (List Step) ScriptFault → Type 0
Decodes bs (Ok ss) =
    (fit bs ≡ true) × (length ss ≡ steps_told bs) × ((i : ℕ) → i < steps_told bs → step_at bs i ≡ slice_get ss i) × EndsAtEnd ss
Decodes bs (Err (Unfit n)) = (fit bs ≡ false) × (n ≡ length bs)
Decodes bs (Err (Undefined i)) =
    (fit bs ≡ true) × (i < steps_told bs) × (step_at bs i ≡ None) × ((k : ℕ) → k < i → is_some (step_at bs k) ≡ true)
