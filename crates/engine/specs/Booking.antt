-- What carrying out a list of calls promises. Assumes nothing.
use Rattle.std.specs.Prelude.{◌≡◌, ℕ, min, List, [], ◌∷◌, map, length, take, drop, OnErr}
use Rattle.pages.specs.Pages.{Chain}
use Rattle.serial.specs.Faults.{Answer}
use Rattle.serial.specs.Machine.{Meaning}
use Rattle.serial.specs.Rules.{fresh_engine, fresh, Call, set_allowance, begin, turn, commit, abort, does, after, answers, list_put, lists_put}
use Rattle.serial.specs.Book.{Booked}
use Rattle.engine.specs.declared.engine.Engine.{Engine as Held}
use Rattle.engine.specs.declared.engine.booking.Call.{Call as Given}
use Rattle.engine.specs.declared.engine.booking.Call.TheVariants.{SetAllowance, Begin, Turn, Commit, Abort}
use Rattle.engine.specs.Table.{engine_of}
use Rattle.engine.specs.Calls.{state_of, OnStill}

-- a call as the rules have it
abbrev pub call_of : Given → Call
call_of (SetAllowance k) = set_allowance k
call_of (Begin t script) = begin t script.now
call_of (Turn t u) = turn t u
call_of (Commit t) = commit t
call_of (Abort t) = abort t

-- the first n of the calls that were handed over
abbrev pub first_calls : ℕ → List Given → List Call
first_calls n calls = map call_of (take n calls)

module _ {S : Type 0} (pages : S → List ℕ) (wrote : S → ℕ → ℕ → S → Type 0) (ar : Meaning) where
  -- one call took an engine and a store to an engine and a store, and was answered so: it did what the rules say, the
  -- memory behind the store went by what it puts, and where it was declined both are as they were, the engine's memory
  -- and the store; where it was a turn that took no step, the engine's memory is
  pub record CallMade (e : Held) (s : S) (c : Call) (a : Answer) (e' : Held) (t : S) : Type 0 where
    pub rule : does ar c (state_of e (pages s)) ≡ (state_of e' (pages t), a)
    pub puts : Chain wrote s (list_put (engine_of e.table) c a) t
    pub declined : OnErr a (e'.table ≡ e.table)
    pub store : OnErr a (t ≡ s)
    pub no_step : OnStill a (e'.table ≡ e.table)

  -- calls made one after the other, with their answers, each from the engine and the store that the one before it left
  abbrev pub CallsMade : List Call → List Answer → Held → S → Held → S → Type 0
  CallsMade [] [] e s e' t = (e' ≡ e) × (t ≡ s)
  CallsMade [] (a ∷ rest) e s e' t = ⊥
  CallsMade (c ∷ calls) [] e s e' t = ⊥
  CallsMade (c ∷ calls) (a ∷ rest) e s e' t = (m : Held) × (n : S) × CallMade e s c a m n × CallsMade calls rest m n e' t

  -- and the first of them on a fresh engine
  pub record CallsMadeAfresh (calls : List Call) (told : List Answer) (s : S) (e : Held) (t : S) : Type 0 where
    pub first : Held
    pub fresh : engine_of first.table ≡ fresh_engine
    pub made : CallsMade calls told first s e t

  -- the calls were carried out on a fresh engine, as many as there is room for answers, and left this engine and store
  pub record Carried (calls : List Given) (given : List Answer) (s : S) (e : Held) (n : ℕ) (told : List Answer) (t : S) : Type 0 where
    pub count : n ≡ min (length calls) (length given)
    -- each did what the rules say
    pub state : state_of e (pages t) ≡ after ar (first_calls n calls) (fresh (pages s))
    -- and answered what they say; answers past them stay
    pub answered : take n told ≡ answers ar (first_calls n calls) (fresh (pages s))
    pub untouched : drop n told ≡ drop n given
    -- the memory behind the store went by the puts of the commits, in order
    pub puts : Chain wrote s (lists_put ar (first_calls n calls) (fresh (pages s))) t
    -- call by call, so that each declined call left the engine and the store as they were
    pub one_by_one : CallsMadeAfresh (first_calls n calls) (take n told) s e t
    -- and the calls booked serially
    pub booked : Booked ar (pages s) (first_calls n calls)
