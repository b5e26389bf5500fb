-- What a call comes to where the numbers that it is given name no shadow, or name one. Assumes nothing.
use Rattle.std.proofs.Common.{◌≡◌, ℕ, ◌≤◌, leb, Some, Ok, ap, ◌∙◌}
use Rattle.std.proofs.lemmas.Bool.{cond-true, le-leb}
use Rattle.serial.specs.Machine.{Steps, Stand}
use Rattle.serial.specs.Rules.{Engine, script_of, shadow}
use Rattle.serial.specs.Questions.{of_shadow, of_open, asked}

-- a question about a shadow that is there is answered
pub answered : {X : Type 0} (e : Engine) (t u : ℕ) (f : Steps → Stand → X) (sc : Steps) (s : Stand) → t ≤ 7 → u ≤ 7 → script_of e t ≡ Some sc → shadow e t u ≡ Some s → asked e t u f ≡ Ok (f sc s)
answered e t u f sc s t_in u_in script there =
    cond-true (leb t 7) _ _ (le-leb t 7 t_in) ∙ cond-true (leb u 7) _ _ (le-leb u 7 u_in)
    ∙ ap (λ o. of_open t u o (shadow e t u) f) script ∙ ap (λ p. of_shadow u p (f sc)) there
