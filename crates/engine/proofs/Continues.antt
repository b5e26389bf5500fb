-- From what a call does to how it goes on with a history. Assumes nothing.
use Rattle.std.proofs.Common.{◌≡◌, ℕ, List, ap}
use Rattle.serial.specs.Faults.{Answer}
use Rattle.serial.specs.Machine.{Meaning}
use Rattle.serial.specs.Rules.{Engine, State, fresh_engine, Call, does}
use Rattle.serial.proofs.Continued.{started, continued}
use Rattle.engine.specs.declared.engine.Engine.{Engine as Held}
use Rattle.engine.specs.Table.{engine_of}
use Rattle.engine.specs.Calls.{state_of}
use Rattle.engine.specs.History.{AsFreshOverAny, ContinuedByAny, ContinuedOverAny}

pub as_fresh_any : (e : Held) → engine_of e.table ≡ fresh_engine → AsFreshOverAny e
as_fresh_any e h = record { over = λ ar pages. started ar (state_of e pages) (ap (λ (x : Engine). record { engine = x; pages = pages }) h) }

pub by_any : (s : State) (c : Call) (a : Answer) (s' : State) → ((ar : Meaning) → does ar c s ≡ (s', a)) → ContinuedByAny s c a s'
by_any s c a s' h = record { by = λ ar. continued ar s c a s' (h ar) }

pub over_any : (e : Held) (c : Call) (a : Answer) (e' : Held) → ((ar : Meaning) (pages : List ℕ) → does ar c (state_of e pages) ≡ (state_of e' pages, a)) → ContinuedOverAny e c a e'
over_any e c a e' h = record { over = λ ar pages. continued ar (state_of e pages) c a (state_of e' pages) (h ar pages) }
