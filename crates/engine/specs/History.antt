-- Calls made one by one on an engine. Assumes nothing.
use Rattle.std.specs.Prelude.{ℕ, List}
use Rattle.serial.specs.Faults.{Answer}
use Rattle.serial.specs.Machine.{Meaning}
use Rattle.serial.specs.Rules.{State, Call}
use Rattle.serial.specs.History.{AsFresh, Continued}
use Rattle.engine.specs.declared.engine.Engine.{Engine as Held}
use Rattle.engine.specs.Calls.{state_of}

-- the engine is as fresh, whatever pages and whatever arithmetic it is to be called with
pub record AsFreshOverAny (e : Held) : Type 0 where
  pub over : (ar : Meaning) (pages : List ℕ) → AsFresh ar (state_of e pages)

-- a call that is given no arithmetic, answered so, took s to s', and goes on with every history, whatever arithmetic the
-- other calls are given
pub record ContinuedByAny (s : State) (c : Call) (a : Answer) (s' : State) : Type 0 where
  pub by : (ar : Meaning) → Continued ar s c a s'

-- the same for a call that is given no store either and took the engine from e to e', whatever pages the store has
pub record ContinuedOverAny (e : Held) (c : Call) (a : Answer) (e' : Held) : Type 0 where
  pub over : (ar : Meaning) (pages : List ℕ) → Continued ar (state_of e pages) c a (state_of e' pages)
