-- What holds of every stand that a run reaches. Assumes nothing.
use Rattle.std.proofs.Common.{◌≡◌, ℕ, zero, suc, ◌+◌, ◌<◌, ◌≤◌, true, false, eqb, ltb, List, [], ◌∷◌, length, get_or, Some, None, Option, sym, refl, ◌∙◌, subst, ⊎_elim, arith}
use Rattle.std.proofs.lemmas.List.{length_push}
use Rattle.std.proofs.lemmas.Bool.{cases_Bool, cond-true, cond-false, cond_both, ltb-true}
use Rattle.pages.specs.Pages.{entry}
use Rattle.pages.specs.declared.WriteEntry.{WriteEntry}
use Rattle.script.specs.declared.Register.{Register}
use Rattle.serial.specs.declared.ReadEntry.{ReadEntry}
use Rattle.serial.specs.Machine.{Meaning, Steps, Stand, start, written, write, Effect, reading, writing, setting, leaving, effect, with_register, recorded, with_write, moved, off_pages, take_read, take_effect}
use Rattle.serial.specs.Laws.{Next, Leads, here, more}
use Rattle.serial.proofs.Steps.{off_moved}
use Rattle.serial.proofs.Runs.{stepped}
use Rattle.serial.proofs.Sound.{length-write}
use Rattle.engine.specs.View.{Room}
use Rattle.engine.specs.Alone.{Inside}

inside-write : (n : ℕ) (es : List WriteEntry) (p w : ℕ) → p < n → Inside n es → Inside n (write es p w)
inside-write n [] p w low in-es = (low, tt)
inside-write n (e ∷ es) p w low in-es =
    let rest = inside-write n es p w low in-es.1 in
    cond_both (eqb e.page p) (entry p w ∷ es) (e ∷ write es p w) (Inside n) (λ _. (low, in-es.1)) (λ _. (in-es.0, rest))

pub inside_at : (n : ℕ) (es : List WriteEntry) (i : ℕ) (d : WriteEntry) → Inside n es → i < length es → (get_or es i d).page < n
inside_at n [] i d h l = absurd (omega arith)
inside_at n (e ∷ es) zero d h l = h.0
inside_at n (e ∷ es) (suc i) d h l = inside_at n es i d h.1 (omega arith)

-- a shadow has at most one read and one page on its list for each step behind it, and every page that it has written
-- is there
pub record Sound (pages : List ℕ) (s : Stand) : Type 0 where
  pub reads : length s.reads ≤ s.step
  pub own : length s.own ≤ s.step
  pub inside : Inside (length pages) s.own

pub start-sound : (pages : List ℕ) → Sound pages start
start-sound pages = record { reads = omega arith; own = omega arith; inside = tt }

module _ (pages : List ℕ) (s : Stand) (h : Sound pages s) where
  read_sound : (a : Register) (p : ℕ) (o : Option ℕ) (t : Stand) → take_read pages s a p o ≡ moved t → Sound pages t
  read_sound a p (Some w) t e =
      let x : with_register s a w ≡ t = cc in
      subst (Sound pages) x (record { reads = omega (arith, h.reads); own = omega (arith, h.own); inside = h.inside })
  read_sound a p None t e =
      let u = with_register (recorded s p) a (get_or pages p 0) in
      let r : ReadEntry = record { step = s.step; page = p } in
      ⊎_elim
      (λ (k : ltb p (length pages) ≡ true).
      let x : u ≡ t = let z = sym (cond-true (ltb p (length pages)) (moved u) (off_pages p) k) ∙ e in cc in
      subst (Sound pages) x (record { reads = omega (arith, h.reads, length_push s.reads r); own = omega (arith, h.own); inside = h.inside }))
      (λ (k : ltb p (length pages) ≡ false). off_moved p t (sym (cond-false (ltb p (length pages)) (moved u) (off_pages p) k) ∙ e))
      (cases_Bool (ltb p (length pages)))

  effect-sound : (eff : Effect) (t : Stand) → take_effect pages s eff ≡ moved t → Sound pages t
  effect-sound (reading a p) t e = read_sound a p (written s.own p) t e
  effect-sound (writing p w) t e =
      let u = with_write s p w in
      ⊎_elim
      (λ (k : ltb p (length pages) ≡ true).
      let x : u ≡ t = let z = sym (cond-true (ltb p (length pages)) (moved u) (off_pages p) k) ∙ e in cc in
      let low = ltb-true p (length pages) k in
      subst (Sound pages) x (record { reads = omega (arith, h.reads); own = omega (arith, h.own, length-write s.own p w); inside = inside-write (length pages) s.own p w low h.inside }))
      (λ (k : ltb p (length pages) ≡ false). off_moved p t (sym (cond-false (ltb p (length pages)) (moved u) (off_pages p) k) ∙ e))
      (cases_Bool (ltb p (length pages)))
  effect-sound (setting a w) t e =
      let x : with_register s a w ≡ t = cc in
      subst (Sound pages) x (record { reads = omega (arith, h.reads); own = omega (arith, h.own); inside = h.inside })
  effect-sound (leaving n) t e =
      let x : record { step = s.step + 1 + n; registers = s.registers; reads = s.reads; own = s.own } ≡ t = cc in
      subst (Sound pages) x (record { reads = omega (arith, h.reads); own = omega (arith, h.own); inside = h.inside })

module _ (ar : Meaning) (script : Steps) (pages : List ℕ) where
  pub next-sound : (s t : Stand) → Next ar script pages s t → Sound pages s → Sound pages t
  next-sound s t n h =
      let x = stepped ar script pages s t n in
      effect-sound pages s h (effect ar x.step s) t (x.move.frame pages refl (λ p e. refl))

  pub leads-sound : {s t : Stand} → Leads ar script pages s t → Sound pages s → Sound pages t
  leads-sound here h = h
  leads-sound {s} {t} (more {t = m} n k) h = leads-sound k (next-sound s m n h)

-- before the end of a script of at most 16 steps there is room for one step more
pub sound-room : (pages : List ℕ) (s : Stand) → s.step < 16 → Sound pages s → Room s
sound-room pages s l h = record { step = l; reads = omega (arith, h.reads); own = omega (arith, h.own) }
