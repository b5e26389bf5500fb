-- What the engine answers of a shadow. Assumes nothing.
use Rattle.std.specs.Prelude.{ℕ, cond, Some, None, Ok, Err, Option, Result, nat_le}
use Rattle.std.specs.List.{slice_get}
use Rattle.serial.specs.declared.ReadEntry.{ReadEntry}
use Rattle.serial.specs.declared.fault.CallFault.{CallFault}
use Rattle.serial.specs.declared.fault.CallFault.TheVariants.{NoSlot, NotOpen, NoShadow}
use Rattle.serial.specs.declared.fault.Standing.{Standing}
use Rattle.serial.specs.Machine.{Steps, Stand}
use Rattle.serial.specs.Rules.{Engine, script_of, shadow, standing}

-- a question names a shadow as a turn does: slots are 0 to 7, the slot is open and has such a shadow
abbrev pub of_shadow : {X : Type 0} → ℕ → Option Stand → (Stand → X) → Result X CallFault
of_shadow u None f = Err (NoShadow u)
of_shadow u (Some s) f = Ok (f s)

abbrev pub of_open : {X : Type 0} → ℕ → ℕ → Option Steps → Option Stand → (Steps → Stand → X) → Result X CallFault
of_open t u None o f = Err (NotOpen t)
of_open t u (Some script) o f = of_shadow u o (f script)

abbrev pub asked : {X : Type 0} → Engine → ℕ → ℕ → (Steps → Stand → X) → Result X CallFault
asked e t u f = cond (nat_le t 7) (cond (nat_le u 7) (of_open t u (script_of e t) (shadow e t u) f) (Err (NoSlot u))) (Err (NoSlot t))

-- stand: the shadow's step, and what its next turn would find
abbrev pub stand_told : Engine → ℕ → ℕ → Result (ℕ × Standing) CallFault
stand_told e t u = asked e t u (λ script s. (s.step, standing e t u script s))

-- read entry: the recorded read with this index, from 0, or absent
abbrev pub entry_told : Engine → ℕ → ℕ → ℕ → Result (Option ReadEntry) CallFault
entry_told e t u i = asked e t u (λ script s. slice_get s.reads i)
