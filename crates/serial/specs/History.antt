-- Calls made one by one: what an engine has been through. Assumes nothing.
use Rattle.std.specs.Prelude.{◌≡◌, ℕ, List, [], ◌∷◌, ◌++◌}
use Rattle.serial.specs.Faults.{Answer}
use Rattle.serial.specs.Machine.{Meaning}
use Rattle.serial.specs.Rules.{State, fresh, Call, after, answers}
use Rattle.serial.specs.Book.{Booked}

-- a history of a state: it is what these calls make of a fresh engine over these first pages, these are the answers that
-- they were given, and they book serially
pub record History (ar : Meaning) (pages : List ℕ) (calls : List Call) (told : List Answer) (s : State) : Type 0 where
  pub state : after ar calls (fresh pages) ≡ s
  pub answered : answers ar calls (fresh pages) ≡ told
  pub booked : Booked ar pages calls

-- the state has some history from these first pages
pub record HasHistory (ar : Meaning) (pages : List ℕ) (s : State) : Type 0 where
  pub calls : List Call
  pub told : List Answer
  pub history : History ar pages calls told s

-- a state that has the history of no calls: it is as fresh, over its own pages
pub record AsFresh (ar : Meaning) (s : State) : Type 0 where
  pub none_yet : History ar s.pages [] [] s
  pub has : HasHistory ar s.pages s

-- one call more, answered so, took s to s': every history of s, with this call at its end and this answer at the end of
-- its answers, is one of s'
pub record Continued (ar : Meaning) (s : State) (c : Call) (a : Answer) (s' : State) : Type 0 where
  pub longer : (pages : List ℕ) (calls : List Call) (told : List Answer)
      → History ar pages calls told s → History ar pages (calls ++ c ∷ []) (told ++ a ∷ []) s'
  pub has : (pages : List ℕ) → HasHistory ar pages s → HasHistory ar pages s'
