-- Every call keeps the invariant. Assumes nothing.
use Rattle.std.proofs.Common.{◌≡◌, ℕ, zero, suc, ◌<◌, ◌≤◌, Bool, true, false, cond, eqb, leb, ◌≢◌, List, [], ◌∷◌, length, get_or, set, replicate, is_some, Some, None, Option, sym, refl, ap, ◌∙◌, subst, ⊎_elim, arith, length-set, get_or-set_other, get_or-set_same}
use Rattle.std.proofs.lemmas.Bool.{cases_Bool, cases_eq, cond-true, cond-false, eqb-true, eqb-false, ne_eqb, true≢false}
use Rattle.script.specs.Laws.{EndsAtEnd, Decodes}
use Rattle.script.proofs.Decoded.{decodes}
use Rattle.serial.specs.declared.fault.Standing.TheVariants.{AtEnd, Halted, Ready}
use Rattle.serial.specs.Machine.{Meaning, Steps, Stand, start, moved, has_read_any}
use Rattle.serial.specs.Alone.{next}
use Rattle.serial.specs.Laws.{Leads, here}
use Rattle.serial.specs.Rules.{Row, Engine, State, no_shadows, fresh, fresh_engine, script_of, is_open, row, shadow, with_shadow, own_of, lead_writes, count, waits, standing, first_open, begun, lead_moves, shadow_moves, Call, set_allowance, begin, turn, commit, abort, does, after}
use Rattle.serial.proofs.Table.{none_is_some, none_is, Sized, row_put, row_put_other, shadow_put, shadow_put_place, shadow_put_row, sized_put, count_add, nothing_at}
use Rattle.serial.proofs.Opened.{allows-opened, begins-opened, turns-opened, turn-found, commits-opened, aborts-opened}
use Rattle.serial.proofs.Kept.{no_exempt, RowInv, Inv}
use Rattle.serial.proofs.Turns.{lead_moves_inv, shadow_moves_inv}
use Rattle.serial.proofs.Commits.{committed_inv, abort_is}

-- a row with no shadow counts none
pub count_none : (cs : Row) → ((u : ℕ) → get_or cs u None ≡ None) → count cs ≡ 0
count_none [] h = refl
count_none (None ∷ cs) h = count_none cs (λ u. h (suc u))
count_none (Some s ∷ cs) h = none_is_some s (sym (h 0))

-- what a slot's begin leaves: its script and its leading shadow at the start; every other place is as it was
pub record BegunSo (e : Engine) (t : ℕ) (sc : Steps) : Type 0 where
  pub sized : Sized (begun e t sc)
  pub script_now : script_of (begun e t sc) t ≡ Some sc
  pub script_other : (v : ℕ) → v ≢ t → script_of (begun e t sc) v ≡ script_of e v
  pub lead_now : shadow (begun e t sc) t t ≡ Some start
  pub place_other : (u : ℕ) → u ≢ t → shadow (begun e t sc) t u ≡ shadow e t u
  pub shadow_other : (v u : ℕ) → v ≢ t → shadow (begun e t sc) v u ≡ shadow e v u
  pub row_now : row (begun e t sc) t ≡ set (row e t) t (Some start)
  pub row_other : (v : ℕ) → v ≢ t → row (begun e t sc) v ≡ row e v

pub begun-so : (e : Engine) → Sized e → (t : ℕ) → t < 8 → (sc : Steps) → BegunSo e t sc
begun-so e z t t_in sc =
    let entered : Engine = record { allowance = e.allowance; scripts = set e.scripts t (Some sc); shadows = e.shadows } in
    let fits : Sized entered = record { scripts = length-set e.scripts t (Some sc) ∙ z.scripts; rows = z.rows; places = z.places } in
    record {
      sized = sized_put entered fits t t t_in t_in (Some start);
      script_now = get_or-set_same e.scripts t (Some sc) None (let n = z.scripts in omega arith);
      script_other = λ v ne. get_or-set_other e.scripts t v (Some sc) None ne;
      lead_now = shadow_put entered fits t t t_in t_in (Some start);
      place_other = shadow_put_place entered fits t t t_in t_in (Some start);
      shadow_other = shadow_put_row entered fits t t t_in t_in (Some start);
      row_now = row_put entered fits t t t_in t_in (Some start);
      row_other = row_put_other entered fits t t t_in t_in (Some start);
    }

pub not_halted : (b : Bool) → cond b Halted Ready ≡ Ready → b ≡ false
not_halted true h = let z : ◌≡◌ {A = ℕ} 0 1 = cc in absurd (omega arith)
not_halted false h = refl

module _ (ar : Meaning) where
  -- the invariant of a state
  abbrev pub Good : State → Type 0
  Good s = Inv ar s.pages no_exempt s.engine

  -- a slot with no script and no shadow
  bare-row : (pages : List ℕ) (e : Engine) (v : ℕ) → script_of e v ≡ None → ((u : ℕ) → shadow e v u ≡ None) → RowInv ar pages no_exempt e v
  bare-row pages e v h bare = record {
    few = omega (arith, count_none (row e v) bare);
    bare = λ _ u. bare u;
    led = λ z k. none_is_some z (sym h ∙ k);
    ends = λ z k. none_is_some z (sym h ∙ k);
    for_open = λ u s k. none_is_some s (sym (bare u) ∙ k);
    reached = λ z u s k q. none_is_some s (sym (bare u) ∙ q);
    behind = λ u s l k q. none_is_some s (sym (bare u) ∙ k);
    apart = λ u s d k q. none_is_some s (sym (bare u) ∙ k);
    covered = λ m u l d k q c. none_is_some l (sym (bare v) ∙ k);
  }

  pub fresh_good : (pages : List ℕ) → Good (fresh pages)
  fresh_good pages = record {
    sized = record { scripts = refl; rows = refl; places = λ t l. rows_of t l };
    allowed = (omega arith, omega arith);
    rows = λ v. bare-row pages fresh_engine v (nothing_at 8 v) (λ u. blank_at 8 v u);
  }
    where
      blank_at : (n v u : ℕ) → get_or (get_or (replicate n no_shadows) v []) u None ≡ None
      blank_at zero v u = refl
      blank_at (suc n) zero u = nothing_at 8 u
      blank_at (suc n) (suc v) u = blank_at n v u

      long_at : (n t : ℕ) → t < n → length (get_or (replicate n no_shadows) t []) ≡ 8
      long_at zero t l = absurd (omega arith)
      long_at (suc n) zero l = refl
      long_at (suc n) (suc t) l = long_at n t (omega arith)

      rows_of : (t : ℕ) → t < 8 → length (row fresh_engine t) ≡ 8
      rows_of t l = long_at 8 t l

  -- set allowance
  pub none_open : (n : ℕ) (scripts : List (Option Steps)) → first_open n scripts ≡ None → (t : ℕ) → get_or scripts t None ≡ None
  none_open n [] h t = refl
  none_open n (None ∷ xs) h zero = refl
  none_open n (None ∷ xs) h (suc t) = none_open (suc n) xs h t
  none_open n (Some x ∷ xs) h t = none_is_some n (sym h)

  allowed_good : (s : State) (k : ℕ) → Good s → (1 ≤ k) × (k ≤ 8) → first_open 0 s.engine.scripts ≡ None → Good (record s { engine = record s.engine { allowance = k } })
  allowed_good s k g within h = record {
    sized = record { scripts = g.sized.scripts; rows = g.sized.rows; places = g.sized.places };
    allowed = within;
    rows = λ v. let none_there = none_open 0 s.engine.scripts h v in bare-row s.pages (record s.engine { allowance = k }) v none_there (λ u. (g.rows v).bare none_there u);
  }

  -- begin
  module _ (pages : List ℕ) (e : Engine) (i : Inv ar pages no_exempt e) (t : ℕ) (t_in : t < 8) (free : script_of e t ≡ None) (sc : Steps) (ends : EndsAtEnd sc) where
    so : BegunSo e t sc
    so = begun-so e i.sized t t_in sc

    place_now : (u : ℕ) → u ≢ t → shadow (begun e t sc) t u ≡ None
    place_now u ne = so.place_other u ne ∙ (i.rows t).bare free u

    writes_same : (u : ℕ) → lead_writes (begun e t sc) u ≡ lead_writes e u
    writes_same u =
        ⊎_elim
        (λ (q : u ≡ t). ap (lead_writes (begun e t sc)) q ∙ ap own_of so.lead_now ∙ sym (ap own_of ((i.rows t).bare free t)) ∙ ap (lead_writes e) (sym q))
        (λ (q : u ≡ t → ⊥). ap own_of (so.shadow_other u u q))
        (cases_eq u t)

    only_start : (u : ℕ) (s : Stand) → shadow (begun e t sc) t u ≡ Some s → (u ≡ t) × (start ≡ s)
    only_start u s h =
        ⊎_elim
        (λ (q : u ≡ t). (q, let m : Some start ≡ Some s = sym so.lead_now ∙ ap (shadow (begun e t sc) t) (sym q) ∙ h in cc))
        (λ (q : u ≡ t → ⊥). none_is_some s (sym (place_now u q) ∙ h))
        (cases_eq u t)

    begun-own : RowInv ar pages no_exempt (begun e t sc) t
    begun-own = record {
      few = subst (λ cs. count cs ≤ e.allowance) (sym so.row_now) (let a = count_add (row e t) t start in let b = count_none (row e t) ((i.rows t).bare free) in omega (arith, i.allowed.0));
      bare = λ h u. none_is_some sc (sym h ∙ so.script_now);
      led = λ z h. ap is_some so.lead_now;
      ends = λ z h. let same : sc ≡ z = let m : Some sc ≡ Some z = sym so.script_now ∙ h in cc in subst EndsAtEnd same ends;
      for_open = λ u s h. ap (is_open (begun e t sc)) (only_start u s h).0 ∙ ap is_some so.script_now;
      reached = λ z u s h q. subst (Leads ar z pages start) (only_start u s q).1 here;
      behind = λ u s l h q. let a = ap (λ y. y.step) (only_start u s h).1 in let b = ap (λ y. y.step) (only_start t l q).1 in omega arith;
      apart = λ u s d h q. absurd (d (only_start u s h).0);
      covered = λ m u l d h q c. absurd (true≢false (sym c ∙ ap (λ y. has_read_any y.reads (lead_writes (begun e t sc) u)) (sym (only_start t l h).1)));
    }

    begun_other : (v : ℕ) → v ≢ t → RowInv ar pages no_exempt (begun e t sc) v
    begun_other v ne =
        let r = i.rows v in
        record {
          few = subst (λ cs. count cs ≤ e.allowance) (sym (so.row_other v ne)) r.few;
          bare = λ h u. so.shadow_other v u ne ∙ r.bare (sym (so.script_other v ne) ∙ h) u;
          led = λ z h. ap is_some (so.shadow_other v v ne) ∙ r.led z (sym (so.script_other v ne) ∙ h);
          ends = λ z h. r.ends z (sym (so.script_other v ne) ∙ h);
          for_open = λ u s h. ⊎_elim (λ (q : u ≡ t). ap (is_open (begun e t sc)) q ∙ ap is_some so.script_now) (λ (q : u ≡ t → ⊥). ap is_some (so.script_other u q) ∙ r.for_open u s (sym (so.shadow_other v u ne) ∙ h)) (cases_eq u t);
          reached = λ z u s h q. r.reached z u s (sym (so.script_other v ne) ∙ h) (sym (so.shadow_other v u ne) ∙ q);
          behind = λ u s l h q. r.behind u s l (sym (so.shadow_other v u ne) ∙ h) (sym (so.shadow_other v v ne) ∙ q);
          apart = λ u s d h q. ap (has_read_any s.reads) (writes_same u) ∙ r.apart u s d (sym (so.shadow_other v u ne) ∙ h) q;
          covered = λ m u l d h q c. ap is_some (so.shadow_other v u ne) ∙ r.covered m u l d (sym (so.shadow_other v v ne) ∙ h) q (sym (ap (has_read_any l.reads) (writes_same u)) ∙ c);
        }

    pub begun_inv : Inv ar pages no_exempt (begun e t sc)
    begun_inv = record {
      sized = so.sized;
      allowed = i.allowed;
      rows = λ v. ⊎_elim (λ (q : v ≡ t). subst (RowInv ar pages no_exempt (begun e t sc)) (sym q) begun-own) (λ (q : v ≡ t → ⊥). begun_other v q) (cases_eq v t);
    }

  -- a turn that moves a shadow
  turned_good : (s : State) (t u : ℕ) (sc : Steps) (at to : Stand) → Good s → script_of s.engine t ≡ Some sc → shadow s.engine t u ≡ Some at → ((u ≡ t → ⊥) → waits s.engine t u sc at ≡ false) → next ar sc s.pages at ≡ Some (moved to) → Good (record s { engine = shadow_moves s.engine t u sc at to })
  turned_good s t u sc at to g script here_now free h =
      ⊎_elim
      (λ (q : eqb u t ≡ true).
      let same = eqb-true u t q in
      subst (Inv ar s.pages no_exempt) (sym (cond-true (eqb u t) (lead_moves s.engine t sc at to) (with_shadow s.engine t u (Some to)) q))
      (lead_moves_inv ar s.pages s.engine g t sc at to script (ap (shadow s.engine t) (sym same) ∙ here_now) h))
      (λ (q : eqb u t ≡ false).
      let ne = eqb-false u t q in
      subst (Inv ar s.pages no_exempt) (sym (cond-false (eqb u t) (lead_moves s.engine t sc at to) (with_shadow s.engine t u (Some to)) q))
      (shadow_moves_inv ar s.pages s.engine g t u sc at to ne script here_now (free ne) h))
      (cases_Bool (eqb u t))

  -- a shadow that is able to try a step does not wait
  ready_free : (e : Engine) (t u : ℕ) (sc : Steps) (at : Stand) → standing e t u sc at ≡ Ready → (u ≡ t → ⊥) → waits e t u sc at ≡ false
  ready_free e t u sc at h ne =
      not_halted (waits e t u sc at) (sym (cond-false (eqb u t) (cond (leb (length sc) at.step) AtEnd Ready) (cond (waits e t u sc at) Halted Ready) (ne_eqb u t ne)) ∙ h)

  pub does_good : (c : Call) (s : State) → Good s → Good (does ar c s).0
  does_good (set_allowance k) s g = allows-opened s (λ d. Good d.0) k (λ _. g) (λ _ _ _ _. g) (λ low high h. allowed_good s k g (low, high) h)
  does_good (begin t bytes) s g = begins-opened s (λ d. Good d.0) t bytes (λ _. g) (λ _ _. g) (λ _ _ _ _. g)
      (λ t_in free sc h. begun_inv s.pages s.engine g t t_in (none_is (script_of s.engine t) free) sc (subst (Decodes bytes) h (decodes bytes)).3)
  does_good (turn t u) s g = turns-opened s (λ d. Good d.0) ar t u (λ _. g) (λ _ _. g) (λ _ _ _. g) (λ _ _ _ _ _. g)
      (λ _ _ sc script at h. turn-found s (λ d. Good d.0) ar t u sc at (λ _. g) (λ _. g) (λ _ _. g) (λ _ _ _. g)
      (λ ready to step. turned_good s t u sc at to g script h (ready_free s.engine t u sc at ready) step))
  does_good (commit t) s g = commits-opened s (λ d. Good d.0) t (λ _. g) (λ _ _. g) (λ _ _ _ _. g) (λ _ _ _ _ _ _. g) (λ _ _ _ _ _ _ _ _. g)
      (λ t_in _ _ lead _ _ _. committed_inv ar s.pages s.engine g t t_in lead.own)
  does_good (abort t) s g = aborts-opened s (λ d. Good d.0) t (λ _. g) (λ _ _. g)
      (λ t_in _. subst (Inv ar s.pages no_exempt) (abort_is s.engine t) (committed_inv ar s.pages s.engine g t t_in []))

  pub after_good : (cs : List Call) (s : State) → Good s → Good (after ar cs s)
  after_good [] s g = g
  after_good (c ∷ cs) s g = after_good cs (does ar c s).0 (does_good c s g)
