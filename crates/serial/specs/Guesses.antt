-- What shadows are for, and what a commit spoils. Assumes nothing.
use Rattle.std.specs.Prelude.{◌≡◌, ℕ, ◌<◌, ◌≤◌, true, ◌≢◌, ◌↔◌, List, length, is_some, Some, Ok}
use Rattle.std.specs.List.{slice_get, filter}
use Rattle.pages.specs.declared.WriteEntry.{WriteEntry}
use Rattle.script.specs.declared.Register.{Register}
use Rattle.script.specs.declared.Step.{Step}
use Rattle.serial.specs.declared.fault.Accepted.TheVariants.{Committed}
use Rattle.serial.specs.Machine.{Meaning, Steps, Stand, has_read, has_written, has_read_any}
use Rattle.serial.specs.Alone.{there, alone, before_read_of}
use Rattle.serial.specs.Rules.{Row, Engine, State, fresh, script_of, shadow, clean, count, Call, commit, does, after}
use Rattle.serial.specs.OneStep.{OnList, NotOnList, Reads}

-- a recorded read names the page
abbrev pub HasRead : Stand → ℕ → Type 0
HasRead s p = (i : ℕ) × (step : ℕ) × (slice_get s.reads i ≡ Some (record { step = step; page = p }))

-- the page stands on the own list
abbrev pub HasWritten : Stand → ℕ → Type 0
HasWritten s p = (w : ℕ) × OnList s.own p w

-- t's shadow for u guesses that u commits first
pub record Guesses (e : Engine) : Type 0 where
  -- so it has read no page that u's leading shadow has written
  pub guess : (t u p : ℕ) (s lead : Stand) → u ≢ t → shadow e t u ≡ Some s → shadow e u u ≡ Some lead
      → HasWritten lead p → HasRead s p → ⊥
  -- it is not past t's leading shadow
  pub behind : (t u : ℕ) (s lead : Stand) → shadow e t u ≡ Some s → shadow e t t ≡ Some lead → s.step ≤ lead.step
  -- and under allowance 8 it is there, if t's leading shadow has read a page that u's has written
  pub covered : e.allowance ≡ 8 → (t u p : ℕ) (lead other : Stand) → u ≢ t → shadow e t t ≡ Some lead → shadow e u u ≡ Some other
      → HasRead lead p → HasWritten other p → (s : Stand) × (shadow e t u ≡ Some s)

-- at every moment of any list of calls
abbrev pub ShadowsGuess : Type 0
ShadowsGuess = (ar : Meaning) (pages : List ℕ) (calls : List Call) → Guesses (after ar calls (fresh pages)).engine

-- the tests that the rules are made of: whether a recorded read names the page; whether the page stands on the own list;
-- whether a recorded read names a page of another's own list; whether a shadow is clean for u; how many shadows a row has;
-- and whether the next step is a store read of a page of a list
pub record TestsInWords : Type 0 where
  pub read : (s : Stand) (p : ℕ) → (has_read s.reads p ≡ true) ↔ HasRead s p
  pub written : (s : Stand) (p : ℕ) → (has_written s.own p ≡ true) ↔ HasWritten s p
  pub read_any : (s lead : Stand) → (has_read_any s.reads lead.own ≡ true) ↔ ((p : ℕ) × HasRead s p × HasWritten lead p)
  pub clean : (e : Engine) (u : ℕ) (s lead : Stand) → shadow e u u ≡ Some lead
      → (clean e u s ≡ true) ↔ ((p : ℕ) → HasRead s p → HasWritten lead p → ⊥)
  pub counted : (shadows : Row) → count shadows ≡ length (filter (λ s. is_some s) shadows)
  pub before_read : (lead : Stand) (script : Steps) (s : Stand) → (before_read_of lead.own script s ≡ true)
      ↔ ((st : Step) × (a : Register) × (p : ℕ) × (slice_get script s.step ≡ Some st) × Reads st s a p × NotOnList s.own p × HasWritten lead p)

-- a commit of t puts the list: another open slot v has a leading shadow that has read one of its pages exactly if v's script,
-- run alone over the pages before the commit to that shadow's step, makes a store read of one; `first` is where that run
-- stands before its first such read
abbrev pub SpoilsExactly : Meaning → State → ℕ → List WriteEntry → Type 0
SpoilsExactly ar s t put =
    (v : ℕ) (script : Steps) (lead : Stand) → v ≢ t → script_of s.engine v ≡ Some script → shadow s.engine v v ≡ Some lead
    → (has_read_any lead.reads put ≡ true)
    ↔ ((first : Stand) × (alone ar script s.pages (before_read_of put script) ≡ there first) × (first.step < lead.step))

-- so it is at every accepted commit, whatever calls came before
abbrev pub SpoiledByReads : Type 0
SpoiledByReads =
    (ar : Meaning) (pages : List ℕ) (before : List Call) (t r n : ℕ) (last : Stand)
    → (does ar (commit t) (after ar before (fresh pages))).1 ≡ Ok (Committed r n)
    → shadow (after ar before (fresh pages)).engine t t ≡ Some last
    → SpoilsExactly ar (after ar before (fresh pages)) t last.own
