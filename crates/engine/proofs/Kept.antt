-- The engine's invariant, from its ghost fields and back to them. Assumes nothing.
use Rattle.std.proofs.Common.{◌≡◌, ℕ, List, sym, ap, ◌∙◌, subst}
use Rattle.serial.specs.Faults.{Answer}
use Rattle.serial.specs.Machine.{Meaning}
use Rattle.serial.specs.Rules.{Engine, Call, does}
use Rattle.serial.specs.Sound.{Eight, AllowanceFits, ClosedBare, OpenLed, WithinAllowance, ForOpen, ScriptsFit, ShadowsFit, SoundEngine}
use Rattle.serial.proofs.Sound.{does-sound}
use Rattle.engine.specs.declared.table.Table.{Table}
use Rattle.engine.specs.declared.engine.Engine.{Engine as Held}
use Rattle.engine.specs.Table.{engine_of}
use Rattle.engine.specs.Calls.{state_of}

pub whole : (e : Held) → SoundEngine (engine_of e.table)
whole e = (e.eight, e.allowance, e.bare, e.led, e.few, e.«open», e.scripts, e.shadows)

-- as the ghost fields of a table hold it
abbrev pub Spread : Table → Type 0
Spread t =
    record {
      eight : Eight (engine_of t);
      allowance : AllowanceFits (engine_of t);
      bare : ClosedBare (engine_of t);
      led : OpenLed (engine_of t);
      few : WithinAllowance (engine_of t);
      «open» : ForOpen (engine_of t);
      scripts : ScriptsFit (engine_of t);
      shadows : ShadowsFit (engine_of t);
    }

pub spread : (t : Table) → SoundEngine (engine_of t) → Spread t
spread t h =
    record { eight = h.0; allowance = h.1; bare = h.2; led = h.3; few = h.4; «open» = h.5; scripts = h.6; shadows = h.7 }

-- the table that a call leaves is sound
pub kept_by : (ar : Meaning) (c : Call) (e : Held) (pages pages' : List ℕ) (t : Table) (x : Engine) (a : Answer) → does ar c (state_of e pages) ≡ (record { engine = x; pages = pages' }, a) → engine_of t ≡ x → Spread t
kept_by ar c e pages pages' t x a h q =
    spread t (subst SoundEngine (ap (λ d. d.0.engine) h ∙ sym q) (does-sound ar c (state_of e pages) (whole e)))

-- an arithmetic for calls that use none
abbrev pub idle : Meaning
idle op a b = 0
