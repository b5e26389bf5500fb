-- What holds in every engine, whatever store it was called with. Assumes nothing.
use Rattle.std.specs.Prelude.{◌≡◌, ℕ, suc, ◌+◌, ◌<◌, ◌≤◌, Bool, true, false, not, ◌&&◌, ◌==◌, List, [], ◌∷◌, length, is_some, Some, None, Option, nat_le}
use Rattle.pages.specs.declared.WriteEntry.{WriteEntry}
use Rattle.script.specs.Laws.{leaves_out}
use Rattle.serial.specs.Machine.{Meaning, Steps, Stand, has_written}
use Rattle.serial.specs.Rules.{Engine, State, fresh_engine, Call, does, script_of, is_open, row, shadow, count}

-- eight scripts, and eight rows of eight places
abbrev pub Eight : Engine → Type 0
Eight e = (length e.scripts ≡ 8) × (length e.shadows ≡ 8) × ((t : ℕ) → t < 8 → length (row e t) ≡ 8)

-- the allowance is 1 to 8
abbrev pub AllowanceFits : Engine → Type 0
AllowanceFits e = (1 ≤ e.allowance) × (e.allowance ≤ 8)

-- a closed slot has no shadow
abbrev pub ClosedBare : Engine → Type 0
ClosedBare e = (t u : ℕ) → is_open e t ≡ false → is_some (shadow e t u) ≡ false

-- an open slot has its leading shadow
abbrev pub OpenLed : Engine → Type 0
OpenLed e = (t : ℕ) → is_open e t ≡ true → is_some (shadow e t t) ≡ true

-- no slot has more shadows than the allowance
abbrev pub WithinAllowance : Engine → Type 0
WithinAllowance e = (t : ℕ) → count (row e t) ≤ e.allowance

-- no shadow is for a closed slot
abbrev pub ForOpen : Engine → Type 0
ForOpen e = (t u : ℕ) → is_some (shadow e t u) ≡ true → is_open e u ≡ true

-- a script has at most sixteen steps and comes to its end: no step leaves out more than there are
abbrev pub ends_within : ℕ → ℕ → Steps → Bool
ends_within n i [] = true
ends_within n i (s ∷ ss) = nat_le (i + 1 + leaves_out s) n && ends_within n (suc i) ss

abbrev pub script_fits : Option Steps → Bool
script_fits None = true
script_fits (Some script) = nat_le (length script) 16 && ends_within (length script) 0 script

abbrev pub ScriptsFit : Engine → Type 0
ScriptsFit e = (t : ℕ) → script_fits (script_of e t) ≡ true

-- a page stands on the list once
abbrev pub stands_once : List WriteEntry → Bool
stands_once [] = true
stands_once (w ∷ list) = not (has_written list w.page) && stands_once list

-- a shadow is not past its script's end, has at most one read and one page on its list for each step behind it, and has four
-- registers; and a page stands on its list once
abbrev pub shadow_fits : Option Steps → Option Stand → Bool
shadow_fits None s = true
shadow_fits (Some script) None = true
shadow_fits (Some script) (Some s) =
    nat_le s.step (length script) && (nat_le (length s.reads) s.step && (nat_le (length s.own) s.step
    && (length s.registers == 4 && stands_once s.own)))

abbrev pub ShadowsFit : Engine → Type 0
ShadowsFit e = (t u : ℕ) → shadow_fits (script_of e t) (shadow e t u) ≡ true

-- the engine's invariant
abbrev pub SoundEngine : Engine → Type 0
SoundEngine e =
    Eight e × AllowanceFits e × ClosedBare e × OpenLed e × WithinAllowance e × ForOpen e × ScriptsFit e × ShadowsFit e

-- a fresh engine is sound, and every call keeps that, whatever it answers and over any pages
abbrev pub EnginesStaySound : Type 0
EnginesStaySound =
    SoundEngine fresh_engine
    × ((ar : Meaning) (c : Call) (s : State) → SoundEngine s.engine → SoundEngine (does ar c s).0.engine)
