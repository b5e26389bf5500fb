-- Calls made one by one by a host in C. Assumes nothing.
use Rattle.std.specs.Prelude.{◌≡◌}
use Rattle.serial.specs.Faults.{Answer}
use Rattle.serial.specs.Rules.{fresh_engine}
use Rattle.engine.specs.declared.engine.Engine.{Engine}
use Rattle.engine.specs.Table.{engine_of}
use Rattle.engine.specs.History.{AsFreshOverAny}
use Rattle.linked.specs.declared.told.Told.{Told}
use Rattle.linked.specs.Told.{answer_told}

-- a fresh engine: it is as the rules have one, and has the history of no calls
pub record MadeFresh (e : Engine) : Type 0 where
  pub rule : engine_of e.table ≡ fresh_engine
  pub history : AsFreshOverAny e

-- what the host is told is told of an answer of which this holds
pub record ToldOf (Holds : Answer → Type 0) (t : Told) : Type 0 where
  pub answer : Answer
  pub tells : answer_told answer ≡ t
  pub holds : Holds answer
