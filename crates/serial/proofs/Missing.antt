-- A step ends at a missing page exactly where it is a store read or a write of one. Assumes nothing.
use Rattle.std.proofs.Common.{◌≡◌, ℕ, ◌≤◌, true, false, ltb, ◌⊎◌, List, length, Some, None, Option, sym, ap, ◌∙◌, subst, inl, inr, ⊎_elim}
use Rattle.std.proofs.lemmas.Bool.{cases_Bool, cond-true, cond-false, ltb-false, le-ltb}
use Rattle.script.specs.declared.Register.{Register}
use Rattle.script.specs.declared.Action.{Action}
use Rattle.script.specs.declared.Action.TheVariants.{Read, ReadIndexed, Write, WriteIndexed, Set, Combine, Skip}
use Rattle.script.specs.declared.Step.{Step}
use Rattle.serial.specs.Machine.{Meaning, Stand, indexed, holds, does_action, with_write, with_register, written, writing, moved, off_pages, take_read, take_effect, page_read, page_written, unless_own, from_store, store_read, write_of}
use Rattle.serial.specs.Alone.{try_step}
use Rattle.serial.proofs.Steps.{off_moved}
use Rattle.serial.proofs.Table.{none_is_some}

-- a page is missing for an action: it reads it from the store, or writes it, and the store does not have it
abbrev Lacks : List ℕ → Stand → Action → ℕ → ℕ → Type 0
Lacks pages s a operand p = ((from_store s.own (page_read a operand s) ≡ Some p) ⊎ (page_written a operand s ≡ Some p)) × (length pages ≤ p)

module _ (pages : List ℕ) (s : Stand) where
  read_off : (a : Register) (p q : ℕ) (w : Option ℕ) → take_read pages s a p w ≡ off_pages q → (unless_own p w ≡ Some q) × (length pages ≤ q)
  read_off a p q (Some w) h = off_moved q (with_register s a w) (sym h)
  read_off a p q None h =
      ⊎_elim
      (λ (l : ltb p (length pages) ≡ true). off_moved q _ (sym h ∙ cond-true (ltb p (length pages)) _ (off_pages p) l))
      (λ (l : ltb p (length pages) ≡ false).
      let m : off_pages p ≡ off_pages q = sym (cond-false (ltb p (length pages)) _ (off_pages p) l) ∙ h in
      let same : p ≡ q = cc in
      (ap Some same, subst (λ x. length pages ≤ x) same (ltb-false p (length pages) l)))
      (cases_Bool (ltb p (length pages)))

  off_read : (a : Register) (p q : ℕ) (w : Option ℕ) → unless_own p w ≡ Some q → length pages ≤ q → take_read pages s a p w ≡ off_pages q
  off_read a p q (Some w) h l = none_is_some q h
  off_read a p q None h l =
      let same : p ≡ q = cc in
      cond-false (ltb p (length pages)) _ (off_pages p) (le-ltb p (length pages) (subst (λ x. length pages ≤ x) (sym same) l)) ∙ ap off_pages same

  write_off : (p w q : ℕ) → take_effect pages s (writing p w) ≡ off_pages q → (◌≡◌ {A = Option ℕ} (Some p) (Some q)) × (length pages ≤ q)
  write_off p w q h =
      ⊎_elim
      (λ (l : ltb p (length pages) ≡ true). off_moved q _ (sym h ∙ cond-true (ltb p (length pages)) (moved (with_write s p w)) (off_pages p) l))
      (λ (l : ltb p (length pages) ≡ false).
      let m : off_pages p ≡ off_pages q = sym (cond-false (ltb p (length pages)) (moved (with_write s p w)) (off_pages p) l) ∙ h in
      let same : p ≡ q = cc in
      (ap Some same, subst (λ x. length pages ≤ x) same (ltb-false p (length pages) l)))
      (cases_Bool (ltb p (length pages)))

  off_write : (p w q : ℕ) → ◌≡◌ {A = Option ℕ} (Some p) (Some q) → length pages ≤ q → take_effect pages s (writing p w) ≡ off_pages q
  off_write p w q h l =
      let same : p ≡ q = cc in
      cond-false (ltb p (length pages)) (moved (with_write s p w)) (off_pages p) (le-ltb p (length pages) (subst (λ x. length pages ≤ x) (sym same) l)) ∙ ap off_pages same

  lacks : (ar : Meaning) (a : Action) (operand q : ℕ) → take_effect pages s (does_action ar a operand s) ≡ off_pages q → Lacks pages s a operand q
  lacks ar (Read a) operand q h = let r = read_off a operand q (written s.own operand) h in (inl r.0, r.1)
  lacks ar (ReadIndexed a b) operand q h = let p = indexed operand (holds s b) in let r = read_off a p q (written s.own p) h in (inl r.0, r.1)
  lacks ar (Write a) operand q h = let r = write_off operand (holds s a) q h in (inr r.0, r.1)
  lacks ar (WriteIndexed a b) operand q h = let r = write_off (indexed operand (holds s b)) (holds s a) q h in (inr r.0, r.1)
  lacks ar (Set a) operand q h = off_moved q _ (sym h)
  lacks ar (Combine op a b) operand q h = off_moved q _ (sym h)
  lacks ar (Skip a b) operand q h = off_moved q _ (sym h)

  lacked : (ar : Meaning) (a : Action) (operand q : ℕ) → Lacks pages s a operand q → take_effect pages s (does_action ar a operand s) ≡ off_pages q
  lacked ar (Read a) operand q h = ⊎_elim (λ x. off_read a operand q (written s.own operand) x h.1) (λ x. none_is_some q x) h.0
  lacked ar (ReadIndexed a b) operand q h = let p = indexed operand (holds s b) in ⊎_elim (λ x. off_read a p q (written s.own p) x h.1) (λ x. none_is_some q x) h.0
  lacked ar (Write a) operand q h = ⊎_elim (λ x. none_is_some q x) (λ x. off_write operand (holds s a) q x h.1) h.0
  lacked ar (WriteIndexed a b) operand q h = ⊎_elim (λ x. none_is_some q x) (λ x. off_write (indexed operand (holds s b)) (holds s a) q x h.1) h.0
  lacked ar (Set a) operand q h = ⊎_elim (λ x. none_is_some q x) (λ x. none_is_some q x) h.0
  lacked ar (Combine op a b) operand q h = ⊎_elim (λ x. none_is_some q x) (λ x. none_is_some q x) h.0
  lacked ar (Skip a b) operand q h = ⊎_elim (λ x. none_is_some q x) (λ x. none_is_some q x) h.0

  -- the next step, where there is one
  pub off_touches : (ar : Meaning) (o : Option Step) (p : ℕ) → try_step ar pages s o ≡ Some (off_pages p) → ((store_read o s ≡ Some p) ⊎ (write_of o s ≡ Some p)) × (length pages ≤ p)
  off_touches ar None p h = none_is_some (off_pages p) h
  off_touches ar (Some st) p h = let m : take_effect pages s (does_action ar st.action st.operand s) ≡ off_pages p = cc in lacks ar st.action st.operand p m

  pub touches_off : (ar : Meaning) (o : Option Step) (p : ℕ) → (store_read o s ≡ Some p) ⊎ (write_of o s ≡ Some p) → length pages ≤ p → try_step ar pages s o ≡ Some (off_pages p)
  touches_off ar None p h l = ⊎_elim (λ x. none_is_some p x) (λ x. none_is_some p x) h
  touches_off ar (Some st) p h l = ap Some (lacked ar st.action st.operand p (h, l))
