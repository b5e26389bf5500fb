-- Searches through own lists. Assumes nothing.
use Rattle.std.proofs.Common.{◌≡◌, ℕ, zero, suc, ◌<◌, ◌≤◌, Bool, true, false, eqb, ltb, List, [], ◌∷◌, length, get_or, Some, None, Option, ap, ◌∙◌, refl, arith}
use Rattle.std.specs.List.{position, position_or_len}
use Rattle.std.proofs.lemmas.List.Quantifiers.{position-Some}
use Rattle.std.proofs.lemmas.List.Sums.{fails_before_first}
use Rattle.std.proofs.lemmas.Bool.{cond_both, cond-true, cond-false, ltb-false}
use Rattle.pages.specs.Pages.{entry}
use Rattle.pages.specs.declared.WriteEntry.{WriteEntry}
use Rattle.serial.specs.Machine.{written, write}
use Rattle.engine.specs.View.{Placed}

module _ (p : ℕ) where
  abbrev Here : WriteEntry → Bool
  Here e = eqb e.page p

  -- an entry for the page with none before it, and a list with none
  placed_at : (es : List WriteEntry) (i : ℕ) → i < length es → Here (get_or es i (entry 0 0)) ≡ true → ((k : ℕ) → k < i → Here (get_or es k (entry 0 0)) ≡ false) → Placed es p (Some i)
  placed_at [] i l h before = absurd (omega arith)
  placed_at (e ∷ es) zero l h before = (
    l,
    cond-true (Here e) (Some e.word) (written es p) h,
    λ w. cond-true (Here e) (entry p w ∷ es) (e ∷ write es p w) h,
  )
  placed_at (e ∷ es) (suc i) l h before =
      let rest = placed_at es i (omega arith) h (λ k m. before (suc k) (omega arith)) in
      let other = before 0 (omega arith) in (
        l,
        cond-false (Here e) (Some e.word) (written es p) other ∙ rest.1,
        λ w. cond-false (Here e) (entry p w ∷ es) (e ∷ write es p w) other ∙ ap (λ xs. e ∷ xs) (rest.2 w),
      )

  placed_nowhere : (es : List WriteEntry) → ((k : ℕ) → k < length es → Here (get_or es k (entry 0 0)) ≡ false) → Placed es p None
  placed_nowhere [] none = (refl, λ w. refl)
  placed_nowhere (e ∷ es) none =
      let rest = placed_nowhere es (λ k m. none (suc k) (omega arith)) in
      let other = none 0 (omega arith) in (
        cond-false (Here e) (Some e.word) (written es p) other ∙ rest.0,
        λ w. cond-false (Here e) (entry p w ∷ es) (e ∷ write es p w) other ∙ ap (λ xs. e ∷ xs) (rest.1 w),
      )

  past_all : (es : List WriteEntry) → position Here es ≡ None → length es ≤ position_or_len Here es
  past_all es =
      cond_both (ltb (position_or_len Here es) (length es)) (Some (position_or_len Here es)) None (λ o. o ≡ None → length es ≤ position_or_len Here es)
      (λ h e. let z : ◌≡◌ {A = ℕ} 0 1 = cc in absurd (omega arith))
      (λ h e. ltb-false (position_or_len Here es) (length es) h)

  pub placed : (es : List WriteEntry) (o : Option ℕ) → position Here es ≡ o → Placed es p o
  placed es None h = placed_nowhere es (let all = past_all es h in λ k m. fails_before_first Here es k (entry 0 0) (omega arith))
  placed es (Some i) h = let f = position-Some Here es i (entry 0 0) h in placed_at es i f.0 f.1 f.2
