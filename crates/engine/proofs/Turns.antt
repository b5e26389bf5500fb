-- Steps that a shadow in the table takes. Assumes nothing.
use Rattle.std.specs.Option.{option_or}
use Rattle.std.proofs.Common.{◌≡◌, ℕ, Bool, true, false, cond, ltb, List, length, get_or, set, is_some, Some, None, Ok, Err, Option, Result, unwrap_or, sym, refl, ap, ◌∙◌, subst, arith}
use Rattle.std.proofs.lemmas.List.{set-get_or}
use Rattle.pages.specs.Pages.{fault_at}
use Rattle.pages.specs.declared.StoreFault.{StoreFault}
use Rattle.script.specs.declared.Step.{Step}
use Rattle.script.specs.declared.Register.{Register}
use Rattle.script.specs.declared.Action.{Action}
use Rattle.script.specs.declared.Action.TheVariants.{Read, ReadIndexed, Write, WriteIndexed, Set, Combine, Skip}
use Rattle.serial.specs.Machine.{Meaning, Stand, start, holds, indexed, written, Taken, moved, off_pages, take_read, takes, unless_own, store_read, write_of}
use Rattle.serial.specs.Rules.{Engine, shadow, with_shadow, before_step, after_step}
use Rattle.engine.specs.declared.row.Row.{Row}
use Rattle.engine.specs.declared.table.Table.{Table}
use Rattle.engine.specs.View.{Room}
use Rattle.engine.specs.Table.{row_of, engine_of, Lent, checked, lead_takes, Stepped}
use Rattle.engine.proofs.Tables.{no_row, same_row, row-set}
use Rattle.engine.proofs.Accounts.{before_keeps}

-- a row's step is the table's
module _ (b : Table) (t u : ℕ) where
  abbrev pub with_step : Row → Table
  with_step x = record { allowance = b.allowance; scripts = b.scripts; rows = set b.rows t x }

  row_stepped : (k : Taken) (r : Result (Unit {0}) StoreFault) (x : Row) → Lent (get_or b.rows t no_row) u k r x → Stepped b (λ e. with_shadow (engine_of b) t u (Some e)) k r (with_step x)
  row_stepped (moved e) r x h = (h.0, row-set b t x _ (h.1 ∙ ap (λ q. set q u (Some e)) (same_row b t)))
  row_stepped (off_pages p) r x h = (h.0, ap with_step h.1 ∙ ap (λ q. record { allowance = b.allowance; scripts = b.scripts; rows = q }) (set-get_or b.rows t no_row))

  pub row_steps : (ar : Meaning) (pages : List ℕ) (st : Step) (r : Result (Unit {0}) StoreFault) (x : Row) → Lent (get_or b.rows t no_row) u (takes ar pages st (unwrap_or (get_or (row_of (get_or b.rows t no_row)) u None) start)) r x → Stepped b (λ e. with_shadow (engine_of b) t u (Some e)) (takes ar pages st (unwrap_or (shadow (engine_of b) t u) start)) r (with_step x)
  row_steps ar pages st r x h =
      row_stepped (takes ar pages st (unwrap_or (shadow (engine_of b) t u) start)) r x
      (subst (λ q. Lent (get_or b.rows t no_row) u (takes ar pages st (unwrap_or (get_or q u None) start)) r x) (same_row b t) h)

-- the page that the store must have for the next step
abbrev pub page_needed : Option Step → Stand → Option ℕ
page_needed st s = option_or (store_read st s) (write_of st s)

-- the check of a step's page tells how the step ends
abbrev Tells : Taken → Result (Unit {0}) StoreFault → Type 0
Tells (moved e) r = r ≡ Ok tt
Tells (off_pages p) r = r ≡ Err (fault_at p)

module _ (ar : Meaning) (pages : List ℕ) (s : Stand) where
  tells_cond : (b : Bool) (e : Stand) (p : ℕ) → Tells (cond b (moved e) (off_pages p)) (cond b (Ok tt) (Err (fault_at p)))
  tells_cond true e p = refl
  tells_cond false e p = refl

  tells_read : (a : Register) (p : ℕ) (o : Option ℕ) → Tells (take_read pages s a p o) (checked (length pages) (option_or (unless_own p o) None))
  tells_read a p (Some w) = refl
  tells_read a p None = tells_cond (ltb p (length pages)) _ p

  tells_action : (act : Action) (n : ℕ) → Tells (takes ar pages (record { action = act; operand = n }) s) (checked (length pages) (page_needed (Some (record { action = act; operand = n })) s))
  tells_action (Read a) n = tells_read a n (written s.own n)
  tells_action (ReadIndexed a b) n = let p = indexed n (holds s b) in tells_read a p (written s.own p)
  tells_action (Write a) n = tells_cond (ltb n (length pages)) _ n
  tells_action (WriteIndexed a b) n = let p = indexed n (holds s b) in tells_cond (ltb p (length pages)) _ p
  tells_action (Set a) n = refl
  tells_action (Combine op a b) n = refl
  tells_action (Skip a b) n = refl

  check_tells : (st : Step) → Tells (takes ar pages st s) (checked (length pages) (page_needed (Some st) s))
  check_tells st = tells_action st.action st.operand

-- a step that the check let through
pub passed : (ar : Meaning) (pages : List ℕ) (s : Stand) (st : Step) (r : Result (Unit {0}) StoreFault) (ok : Unit {0}) → r ≡ checked (length pages) (page_needed (Some st) s) → r ≡ Ok ok → (e : Stand) × (takes ar pages st s ≡ moved e)
passed ar pages s st r ok told was = go (takes ar pages st s) (check_tells ar pages s st)
  where
    go : (k : Taken) → Tells k (checked (length pages) (page_needed (Some st) s)) → (e : Stand) × (k ≡ moved e)
    go (moved e) h = (e, refl)
    go (off_pages p) h = let z : ◌≡◌ {A = ℕ} 0 1 = cc in absurd (omega arith)

ok_not_err : {A : Type 0} (r : Result (Unit {0}) StoreFault) (x : Unit {0}) (f : StoreFault) → r ≡ Ok x → r ≡ Err f → A
ok_not_err r x f h k = let z : ◌≡◌ {A = ℕ} 0 1 = cc in absurd (omega arith)

pub never_stops : {A : Type 0} (m x : Table) (to : Stand → Engine) (k : Taken) (r : Result (Unit {0}) StoreFault) (f : StoreFault) (e : Stand) → k ≡ moved e → Stepped m to k r x → r ≡ Err f → A
never_stops m x to k r f e same h err = let g : Stepped m to (moved e) r x = subst (λ q. Stepped m to q r x) same h in ok_not_err r tt f g.0 err

-- the leading shadow's step: m is the table b after the accounting before it
module _ (b m : Table) (t : ℕ) (st : Step) (s : Stand) (o : Option ℕ) (there : shadow (engine_of b) t t ≡ Some s) (before : engine_of m ≡ before_step (engine_of b) t o) where
  still_there : shadow (engine_of m) t t ≡ Some s
  still_there = ap (λ (e : Engine). shadow e t t) before ∙ before_keeps t (engine_of b) o ∙ there

  pub lead_there : is_some (shadow (engine_of m) t t) ≡ true
  lead_there = ap is_some still_there

  pub lead_room : Room s → Room (unwrap_or (shadow (engine_of m) t t) start)
  lead_room h = subst (λ q. Room (unwrap_or q start)) (sym still_there) h

  abbrev pub LeadStepped : Taken → Result (Unit {0}) StoreFault → Table → Type 0
  LeadStepped k r x = Stepped m (λ e. with_shadow (engine_of m) t t (Some e)) k r x

  pub lead_stepped : (ar : Meaning) (pages : List ℕ) (r : Result (Unit {0}) StoreFault) (x : Table) → LeadStepped (takes ar pages st (unwrap_or (shadow (engine_of m) t t) start)) r x → LeadStepped (takes ar pages st s) r x
  lead_stepped ar pages r x h = subst (λ q. LeadStepped (takes ar pages st (unwrap_or q start)) r x) still_there h

  pub lead_moved : (k : Taken) (r : Result (Unit {0}) StoreFault) (x y : Table) (ok : Unit {0}) (w : Option ℕ) → o ≡ store_read (Some st) s → LeadStepped k r x → r ≡ Ok ok → engine_of y ≡ after_step (engine_of x) t w → w ≡ write_of (Some st) s → Stepped b (lead_takes (engine_of b) t st s) k (Ok tt) y
  lead_moved (moved e) r x y ok w read h was after write = (
    refl,
    after ∙ ap (λ (q : Engine). after_step q t w) (h.1 ∙ ap (λ (q : Engine). with_shadow q t t (Some e)) (before ∙ ap (before_step (engine_of b) t) read))
        ∙ ap (after_step (with_shadow (before_step (engine_of b) t (store_read (Some st) s)) t t (Some e)) t) write,
  )
  lead_moved (off_pages p) r x y ok w read h was after write = ok_not_err r ok (fault_at p) was h.0
