-- A list with no page past the size is inside it. Assumes nothing.
use Rattle.std.proofs.Common.{◌≡◌, ℕ, true, false, leb, ltb, List, [], ◌∷◌, map, Some, None, sym, refl, ◌∙◌, ⊎_elim}
use Rattle.std.specs.List.{find}
use Rattle.std.proofs.lemmas.Bool.{cases_Bool, cond-true, cond-false, ltb-true, ltb-false, lt-leb, le-leb}
use Rattle.pages.specs.declared.WriteEntry.{WriteEntry}
use Rattle.serial.specs.Rules.{first_off}
use Rattle.serial.proofs.Table.{none_is_some}
use Rattle.engine.specs.Alone.{Inside}

pub off_inside : (n : ℕ) (own : List WriteEntry) → first_off n own ≡ None → Inside n own
off_inside n [] h = tt
off_inside n (w ∷ own) h =
    ⊎_elim
    (λ (l : ltb w.page n ≡ true). (ltb-true w.page n l, off_inside n own (sym (cond-true (ltb w.page n) (first_off n own) (Some w.page) l) ∙ h)))
    (λ (l : ltb w.page n ≡ false). none_is_some w.page (sym (sym (cond-false (ltb w.page n) (first_off n own) (Some w.page) l) ∙ h)))
    (cases_Bool (ltb w.page n))

-- the first page that is not below the size, as a search finds it
pub off_found : (n : ℕ) (own : List WriteEntry) → find (λ p. leb n p) (map (λ e. e.page) own) ≡ first_off n own
off_found n [] = refl
off_found n (w ∷ own) =
    let rest = off_found n own in
    ⊎_elim
    (λ (l : ltb w.page n ≡ true).
    cond-false (leb n w.page) (Some w.page) (find (λ p. leb n p) (map (λ e. e.page) own)) (lt-leb n w.page (ltb-true w.page n l)) ∙ rest ∙ sym (cond-true (ltb w.page n) (first_off n own) (Some w.page) l))
    (λ (l : ltb w.page n ≡ false).
    cond-true (leb n w.page) (Some w.page) (find (λ p. leb n p) (map (λ e. e.page) own)) (le-leb n w.page (ltb-false w.page n l)) ∙ sym (cond-false (ltb w.page n) (first_off n own) (Some w.page) l))
    (cases_Bool (ltb w.page n))
