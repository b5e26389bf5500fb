-- The shadow that a call names. Assumes nothing.
use Rattle.std.specs.Prelude.{◌≡◌, ℕ, ◌≤◌, true, [], is_some, Ok, Err, Result}
use Rattle.std.specs.Option.{unwrap_or}
use Rattle.serial.specs.declared.fault.CallFault.{CallFault}
use Rattle.serial.specs.Machine.{Steps, Stand, start}
use Rattle.serial.specs.Rules.{Engine, script_of, shadow}
use Rattle.serial.specs.Questions.{asked}

-- an open slot's script, and a shadow that is there
abbrev pub script_at : Engine → ℕ → Steps
script_at e t = unwrap_or (script_of e t) []

abbrev pub stand_at : Engine → ℕ → ℕ → Stand
stand_at e t u = unwrap_or (shadow e t u) start

-- two numbers name the shadow of the one slot for the other, both as slots; a question about them is refused just where
-- they name none
abbrev pub NamedBy : Engine → ℕ → ℕ → Result (ℕ × ℕ) CallFault → Type 0
NamedBy e t u (Ok n) =
    (n.0 ≡ t) × (n.1 ≡ u) × (n.0 ≤ 7) × (n.1 ≤ 7)
    × (is_some (script_of e n.0) ≡ true) × (is_some (shadow e n.0 n.1) ≡ true)
NamedBy e t u (Err f) = asked e t u (λ script s. tt {0}) ≡ Err f
