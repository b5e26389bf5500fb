-- What one step does, told by what it reads and writes. Assumes nothing.
use Rattle.std.proofs.Common.{◌≡◌, ℕ, ◌+◌, ◌<◌, ◌≤◌, Bool, true, false, ◌||◌, eqb, ltb, List, [], ◌∷◌, ◌++◌, length, get_or, Some, None, Option, sym, refl, ap, ◌∙◌, subst, ⊎_elim, arith}
use Rattle.std.proofs.lemmas.List.{append-nil}
use Rattle.std.proofs.Math.Bool.{or-false, or_assoc}
use Rattle.std.proofs.lemmas.Bool.{cases_Bool, cond-true, cond-false, cond_both, ltb-true, lt-ltb, eqb-true}
use Rattle.pages.specs.Pages.{entry}
use Rattle.pages.specs.declared.WriteEntry.{WriteEntry}
use Rattle.script.specs.declared.Register.{Register}
use Rattle.script.specs.declared.Action.{Action}
use Rattle.script.specs.declared.Action.TheVariants.{Read, ReadIndexed, Write, WriteIndexed, Set, Combine, Skip}
use Rattle.script.specs.declared.Step.{Step}
use Rattle.script.specs.Laws.{leaves_out}
use Rattle.serial.specs.declared.ReadEntry.{ReadEntry}
use Rattle.serial.specs.Machine.{Meaning, Stand, written, write, holds, Effect, reading, writing, setting, leaving, does_action, effect, with_register, recorded, with_write, moved, off_pages, take_read, take_effect, takes, page_read, page_written, unless_own, from_store, store_read, write_of, has_written}
use Rattle.serial.proofs.Table.{none_is_some}

-- the read that a step records
abbrev pub noted : ℕ → Option ℕ → List ReadEntry
noted n None = []
noted n (Some p) = record { step = n; page = p } ∷ []

-- whether the option names the page
abbrev pub named : Option ℕ → ℕ → Bool
named None q = false
named (Some p) q = eqb p q

-- a write adds its page to the own list, and no other
pub written_more : (es : List WriteEntry) (p w q : ℕ) → has_written (write es p w) q ≡ (has_written es q || eqb p q)
written_more [] p w q = or-false (eqb p q)
written_more (e ∷ es) p w q =
    ⊎_elim
    (λ (h : eqb e.page p ≡ true).
    let same : e.page ≡ p = eqb-true e.page p h in
    ap (λ xs. has_written xs q) (cond-true (eqb e.page p) (entry p w ∷ es) (e ∷ write es p w) h) ∙ merged (eqb p q) (has_written es q) ∙ ap (λ x. (eqb x q || has_written es q) || eqb p q) (sym same))
    (λ (h : eqb e.page p ≡ false).
    ap (λ xs. has_written xs q) (cond-false (eqb e.page p) (entry p w ∷ es) (e ∷ write es p w) h) ∙ ap (λ b. eqb e.page q || b) (written_more es p w q) ∙ sym (or_assoc (eqb e.page q) (has_written es q) (eqb p q)))
    (cases_Bool (eqb e.page p))
  where
    merged : (a b : Bool) → (a || b) ≡ ((a || b) || a)
    merged true b = refl
    merged false true = refl
    merged false false = refl

-- what a step comes to that moves the shadow: `sr` is the page of its store read, `wr` the page of its write, and it
-- leaves out at most k steps
pub record Moves (pages : List ℕ) (s : Stand) (eff : Effect) (sr wr : Option ℕ) (k : ℕ) (t : Stand) : Type 0 where
  pub rises : s.step < t.step
  pub near : t.step ≤ s.step + 1 + k
  pub reads : t.reads ≡ s.reads ++ noted s.step sr
  pub own : (q : ℕ) → has_written t.own q ≡ (has_written s.own q || named wr q)
  pub read_inside : (p : ℕ) → sr ≡ Some p → p < length pages
  pub write_inside : (p : ℕ) → wr ≡ Some p → p < length pages
  pub frame : (pages' : List ℕ) → length pages' ≡ length pages → ((p : ℕ) → sr ≡ Some p → get_or pages' p 0 ≡ get_or pages p 0) → take_effect pages' s eff ≡ moved t

pub off_moved : (p : ℕ) (t : Stand) {A : Type 0} → off_pages p ≡ moved t → A
off_moved p t e = let z : ◌≡◌ {A = ℕ} 0 1 = cc in absurd (omega arith)

-- an effect with the pages that it reads and writes, and how many steps it leaves out at most
abbrev pub Tied : Effect → Option ℕ → Option ℕ → ℕ → Type 0
Tied (reading a p) pr pw k = (pr ≡ Some p) × (pw ≡ None)
Tied (writing p w) pr pw k = (pr ≡ None) × (pw ≡ Some p)
Tied (setting a w) pr pw k = (pr ≡ None) × (pw ≡ None)
Tied (leaving n) pr pw k = (pr ≡ None) × (pw ≡ None) × (n ≤ k)

tied_action : (ar : Meaning) (act : Action) (o : ℕ) (s : Stand) → Tied (does_action ar act o s) (page_read act o s) (page_written act o s) (leaves_out (record { action = act; operand = o }))
tied_action ar (Read a) o s = (refl, refl)
tied_action ar (ReadIndexed a b) o s = (refl, refl)
tied_action ar (Write a) o s = (refl, refl)
tied_action ar (WriteIndexed a b) o s = (refl, refl)
tied_action ar (Set a) o s = (refl, refl)
tied_action ar (Combine op a b) o s = (refl, refl)
tied_action ar (Skip a b) o s = (refl, refl, cond_both (eqb (holds s a) (holds s b)) o 0 (λ n. n ≤ o) (λ e. omega arith) (λ e. omega arith))

module _ (pages : List ℕ) (s : Stand) where
  quiet : (q : ℕ) → has_written s.own q ≡ (has_written s.own q || false)
  quiet q = sym (or-false (has_written s.own q))

  read_moves : (a : Register) (p k : ℕ) (o : Option ℕ) → written s.own p ≡ o → (t : Stand) → take_read pages s a p o ≡ moved t → Moves pages s (reading a p) (unless_own p o) None k t
  read_moves a p k (Some w) held t e =
      let x : with_register s a w ≡ t = cc in
      subst (Moves pages s (reading a p) None None k) x (record {
        rises = omega arith;
        near = omega arith;
        reads = sym (append-nil s.reads);
        own = quiet;
        read_inside = λ q z. none_is_some q z;
        write_inside = λ q z. none_is_some q z;
        frame = λ pages' long same. ap (take_read pages' s a p) held;
      })
  read_moves a p k None held t e =
      ⊎_elim
      (λ (h : ltb p (length pages) ≡ true).
      let u = with_register (recorded s p) a (get_or pages p 0) in
      let x : u ≡ t = let z = sym (cond-true (ltb p (length pages)) (moved u) (off_pages p) h) ∙ e in cc in
      let low = ltb-true p (length pages) h in
      subst (Moves pages s (reading a p) (Some p) None k) x (record {
        rises = omega arith;
        near = omega arith;
        reads = refl;
        own = quiet;
        read_inside = λ q z. let y : p ≡ q = cc in omega arith;
        write_inside = λ q z. none_is_some q z;
        frame = λ pages' long same.
            ap (take_read pages' s a p) held
            ∙ cond-true (ltb p (length pages')) _ (off_pages p) (lt-ltb p (length pages') (omega arith))
            ∙ ap (λ w. moved (with_register (recorded s p) a w)) (same p refl);
      }))
      (λ (h : ltb p (length pages) ≡ false). off_moved p t (sym (cond-false (ltb p (length pages)) _ (off_pages p) h) ∙ e))
      (cases_Bool (ltb p (length pages)))

  write_moves : (p w k : ℕ) (t : Stand) → take_effect pages s (writing p w) ≡ moved t → Moves pages s (writing p w) None (Some p) k t
  write_moves p w k t e =
      ⊎_elim
      (λ (h : ltb p (length pages) ≡ true).
      let x : with_write s p w ≡ t = let z = sym (cond-true (ltb p (length pages)) (moved (with_write s p w)) (off_pages p) h) ∙ e in cc in
      let low = ltb-true p (length pages) h in
      subst (Moves pages s (writing p w) None (Some p) k) x (record {
        rises = omega arith;
        near = omega arith;
        reads = sym (append-nil s.reads);
        own = λ q. written_more s.own p w q;
        read_inside = λ q z. none_is_some q z;
        write_inside = λ q z. let y : p ≡ q = cc in omega arith;
        frame = λ pages' long same. cond-true (ltb p (length pages')) _ (off_pages p) (lt-ltb p (length pages') (omega arith));
      }))
      (λ (h : ltb p (length pages) ≡ false). off_moved p t (sym (cond-false (ltb p (length pages)) _ (off_pages p) h) ∙ e))
      (cases_Bool (ltb p (length pages)))

  effect-moves : (eff : Effect) (pr pw : Option ℕ) (k : ℕ) → Tied eff pr pw k → (t : Stand) → take_effect pages s eff ≡ moved t → Moves pages s eff (from_store s.own pr) pw k t
  effect-moves (reading a p) pr pw k tied t e =
      let m = read_moves a p k (written s.own p) refl t e in
      subst (λ z. Moves pages s (reading a p) (from_store s.own z) pw k t) (sym tied.0)
      (subst (λ z. Moves pages s (reading a p) (unless_own p (written s.own p)) z k t) (sym tied.1) m)
  effect-moves (writing p w) pr pw k tied t e =
      subst (λ z. Moves pages s (writing p w) (from_store s.own z) pw k t) (sym tied.0)
      (subst (λ z. Moves pages s (writing p w) None z k t) (sym tied.1) (write_moves p w k t e))
  effect-moves (setting a w) pr pw k tied t e =
      let x : with_register s a w ≡ t = cc in
      subst (λ z. Moves pages s (setting a w) (from_store s.own z) pw k t) (sym tied.0)
      (subst (λ z. Moves pages s (setting a w) None z k t) (sym tied.1)
      (subst (Moves pages s (setting a w) None None k) x (record {
        rises = omega arith;
        near = omega arith;
        reads = sym (append-nil s.reads);
        own = quiet;
        read_inside = λ q z. none_is_some q z;
        write_inside = λ q z. none_is_some q z;
        frame = λ pages' long same. refl;
      })))
  effect-moves (leaving n) pr pw k tied t e =
      let most : n ≤ k = tied.2 in
      let x : record { step = s.step + 1 + n; registers = s.registers; reads = s.reads; own = s.own } ≡ t = cc in
      subst (λ z. Moves pages s (leaving n) (from_store s.own z) pw k t) (sym tied.0)
      (subst (λ z. Moves pages s (leaving n) None z k t) (sym tied.1)
      (subst (Moves pages s (leaving n) None None k) x (record {
        rises = omega arith;
        near = omega arith;
        reads = sym (append-nil s.reads);
        own = quiet;
        read_inside = λ q z. none_is_some q z;
        write_inside = λ q z. none_is_some q z;
        frame = λ pages' long same. refl;
      })))

-- a step that moves the shadow
pub step-moves : (ar : Meaning) (pages : List ℕ) (st : Step) (s t : Stand) → takes ar pages st s ≡ moved t → Moves pages s (effect ar st s) (store_read (Some st) s) (write_of (Some st) s) (leaves_out st) t
step-moves ar pages st s t e = effect-moves pages s (effect ar st s) _ _ _ (tied_action ar st.action st.operand s) t e
