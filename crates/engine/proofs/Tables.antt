-- The rows and scripts of a table, and turns of the loops over them. Assumes nothing.
use Rattle.std.proofs.Common.{◌≡◌, ℕ, zero, suc, ◌+◌, ◌<◌, ◌≤◌, ⊎_elim, Bool, true, false, List, [], ◌∷◌, map, length, get_or, set, is_some, Some, None, Option, sym, refl, ap, subst, ◌≢◌, ◌∙◌, add-one, arith}
use Rattle.std.specs.List.{filter, find, range_with_len}
use Rattle.std.specs.Option.{option_map}
use Rattle.std.proofs.Math.ListN.{get_or-map}
use Rattle.std.proofs.lemmas.List.{length-set, map-set, set-get_or, get_or_past, get_or-set_same, get_or-set_other}
use Rattle.std.proofs.lemmas.Bool.{cond-true, cond-false, cases_lt, cases_eq, true≢false}
use Rattle.pages.specs.declared.WriteEntry.{WriteEntry}
use Rattle.script.specs.declared.Script.{Script}
use Rattle.script.specs.View.{steps_of}
use Rattle.serial.specs.Machine.{Steps, Stand, start}
use Rattle.serial.specs.Rules.{Engine, slots, no_shadows, with_shadow, first_open, shadow, begun, closed, renewed, renew, committed}
use Rattle.serial.specs.Rules as rules
use Rattle.serial.specs.Sound.{ClosedBare, OpenLed}
use Rattle.serial.proofs.Table.{nothing_at, none_is}
use Rattle.engine.specs.SlotSet.{flags}
use Rattle.engine.specs.BySlot.{by_slot}
use Rattle.engine.proofs.Members.{put_at, puts, skip_puts, eight_places}
use Rattle.engine.proofs.Rows.{still_led}
use Rattle.engine.specs.declared.by_slot.BySlot.{BySlot}
use Rattle.engine.specs.declared.row.Row.{Row}
use Rattle.engine.specs.declared.table.Table.{Table}
use Rattle.engine.specs.Table.{row_of, scripts_of, engine_of, with_rows, without_slot, without_column}

-- what stands past the last row
abbrev pub no_row : Row
no_row = record { shadows = record { there = record { bits = 0 }; things = [] } }

pub same_engine : {a b : ℕ} {s q : List (Option Steps)} {x y : List rules.Row} → a ≡ b → s ≡ q → x ≡ y → ◌≡◌ {A = Engine} (record { allowance = a; scripts = s; shadows = x }) (record { allowance = b; scripts = q; shadows = y })
same_engine p q r = λ i. record { allowance = p i; scripts = q i; shadows = r i }

no_row_none : row_of no_row ≡ []
unfolding flags
no_row_none = refl

pub row_at : (rows : List Row) (t : ℕ) → get_or (map row_of rows) t [] ≡ row_of (get_or rows t no_row)
row_at rows t = ap (get_or (map row_of rows) t) (sym no_row_none) ∙ get_or-map row_of rows t no_row

pub same_row : (b : Table) (t : ℕ) → row_of (get_or b.rows t no_row) ≡ rules.row (engine_of b) t
same_row b t = sym (row_at b.rows t)

pub row-set : (b : Table) (t : ℕ) (x : Row) (y : List (Option Stand)) → row_of x ≡ y → engine_of (record { allowance = b.allowance; scripts = b.scripts; rows = set b.rows t x }) ≡ record { allowance = b.allowance; scripts = scripts_of b.scripts; shadows = set (map row_of b.rows) t y }
row-set b t x y e = same_engine refl refl (map-set row_of b.rows t x ∙ ap (set (map row_of b.rows) t) e)

pub opened : (b : Table) (t : ℕ) (script : Script) (q : BySlot Script) → by_slot q ≡ set (by_slot b.scripts) t (Some script) → with_shadow (engine_of (record { allowance = b.allowance; scripts = q; rows = b.rows })) t t (Some start) ≡ begun (engine_of b) t (steps_of script)
opened b t script q e =
    ap (λ qs. with_shadow (record { allowance = b.allowance; scripts = qs; shadows = map row_of b.rows }) t t (Some start))
    (ap (map (option_map steps_of)) e ∙ map-set (option_map steps_of) (by_slot b.scripts) t (Some script))

pub slot_cleared : (b : Table) (t : ℕ) (q : BySlot Script) (x : Row) → by_slot q ≡ set (by_slot b.scripts) t None → row_of x ≡ no_shadows → engine_of (record { allowance = b.allowance; scripts = q; rows = set b.rows t x }) ≡ without_slot (engine_of b) t
slot_cleared b t q x none bare =
    same_engine refl (ap (map (option_map steps_of)) none ∙ map-set (option_map steps_of) (by_slot b.scripts) t None)
    (map-set row_of b.rows t x ∙ ap (set (map row_of b.rows) t) bare)

-- a row with no shadow for t stays as it is
cleared_same : (r : rules.Row) (t : ℕ) → get_or r t None ≡ None → rules.cleared t r ≡ r
cleared_same r t h = ap (set r t) (sym h) ∙ set-get_or r t None

cleared-set : (t : ℕ) (rows : List rules.Row) → map (rules.cleared t) (set rows t no_shadows) ≡ rules.without rows t
cleared-set t rows = map-set (rules.cleared t) rows t no_shadows ∙ ap (set (map (rules.cleared t) rows) t) (cleared_same no_shadows t (nothing_at 8 t))

-- a slot closes by its own row and then the shadows for it
pub closed_by : (e : Engine) (t : ℕ) → without_column (without_slot e t) t ≡ closed e t e.shadows
closed_by e t = same_engine refl refl (cleared-set t e.shadows)

-- nothing stands where nothing was put
pub set_gone : {X : Type 0} (xs : List (Option X)) (t : ℕ) → get_or (set xs t None) t None ≡ None
set_gone [] t = refl
set_gone (x ∷ xs) zero = refl
set_gone (x ∷ xs) (suc t) = set_gone xs t

module _ (e : Engine) (t u : ℕ) where
  row_gone : shadow (without_slot e t) t u ≡ None
  row_gone =
      ⊎_elim
      (λ (l : t < length e.shadows). ap (λ r. get_or r u None) (get_or-set_same e.shadows t no_shadows [] l) ∙ nothing_at 8 u)
      (λ (l : length e.shadows ≤ t). ap (λ r. get_or r u None) (get_or_past (set e.shadows t no_shadows) t [] (simp length-set l)))
      (cases_lt t (length e.shadows))

pub bare_without : (e : Engine) (t : ℕ) → ClosedBare e → ClosedBare (without_slot e t)
bare_without e t bare v u shut =
    ⊎_elim
    (λ (q : v ≡ t). ap (λ w. is_some (shadow (without_slot e t) w u)) q ∙ ap is_some (row_gone e t u))
    (λ (q : v ≡ t → ⊥).
    ap (λ r. is_some (get_or r u None)) (get_or-set_other e.shadows t v no_shadows [] q)
    ∙ bare v u (sym (ap is_some (get_or-set_other e.scripts t v None None q)) ∙ shut))
    (cases_eq v t)

pub led_without : (e : Engine) (t : ℕ) → OpenLed e → OpenLed (without_slot e t)
led_without e t led v opens =
    ⊎_elim
    (λ (q : v ≡ t). absurd (true≢false (sym opens ∙ ap (λ w. rules.is_open (without_slot e t) w) q ∙ ap is_some (set_gone e.scripts t))))
    (λ (q : v ≡ t → ⊥).
    ap (λ r. is_some (get_or r v None)) (get_or-set_other e.shadows t v no_shadows [] q)
    ∙ led v (sym (ap is_some (get_or-set_other e.scripts t v None None q)) ∙ opens))
    (cases_eq v t)

-- what a commit leaves of each row
module _ (own : List WriteEntry) where
  -- a row with no shadow is its own renewal
  remaining_bare : (r : rules.Row) → ((u : ℕ) → is_some (get_or r u None) ≡ false) → rules.remaining own r ≡ r
  remaining_bare [] h = refl
  remaining_bare (None ∷ r) h = ap (λ q. None ∷ q) (remaining_bare r (λ u. h (suc u)))
  remaining_bare (Some s ∷ r) h = absurd (let z : true ≡ false = h 0 in cc)

  renewed_bare : (v : ℕ) (r : rules.Row) → ((u : ℕ) → is_some (get_or r u None) ≡ false) → renewed own v r ≡ r
  renewed_bare v r h = cond-false (rules.spoils own (get_or r v None)) _ _ (ap (rules.spoils own) (none_is (get_or r v None) (h v))) ∙ remaining_bare r h

  -- a row that is its own renewal may be put before the others are renewed, or after
  renew_set : (x : rules.Row) → ((w : ℕ) → renewed own w x ≡ x) → (v : ℕ) (rows : List rules.Row) (t : ℕ) → renew own v (set rows t x) ≡ set (renew own v rows) t x
  renew_set x same v [] t = refl
  renew_set x same v (r ∷ rows) zero = ap (λ q. q ∷ renew own (suc v) rows) (same v)
  renew_set x same v (r ∷ rows) (suc t) = ap (λ q. renewed own v r ∷ q) (renew_set x same (suc v) rows t)

  -- a commit: the slot's own row goes, the others are renewed, and the shadows for it go
  pub committed_by : (e : Engine) (t : ℕ) → without_column (with_rows (without_slot e t) (renew own 0 (set e.shadows t no_shadows))) t ≡ committed e t own
  committed_by e t =
      same_engine refl refl
      (ap (map (rules.cleared t)) (renew_set no_shadows (λ w. renewed_bare w no_shadows (λ u. ap is_some (nothing_at 8 u))) 0 e.shadows t)
      ∙ cleared-set t (renew own 0 e.shadows))

-- a loop that renews each row, and takes away the shadow for t
module _ (own : List WriteEntry) (t : ℕ) where
  abbrev pub after : ℕ → rules.Row → rules.Row
  after v r = rules.cleared t (renewed own v r)

  abbrev pub all_after : ℕ → List rules.Row → List rules.Row
  all_after v rows = map (rules.cleared t) (renew own v rows)

  after_bare : (v : ℕ) (r : rules.Row) → ((u : ℕ) → is_some (get_or r u None) ≡ false) → after v r ≡ r
  after_bare v r h = ap (rules.cleared t) (renewed_bare own v r h) ∙ cleared_same r t (none_is (get_or r t None) (h t))

  -- a loop over the open slots renews all
  pub renewed_at : (rows : List rules.Row) (e : Engine) → length rows ≡ 8 → ((v u : ℕ) → rules.is_open e v ≡ false → is_some (get_or (get_or rows v []) u None) ≡ false) → puts after [] rows (filter (rules.is_open e) slots) ≡ all_after 0 rows
  renewed_at rows e long bare =
      skip_puts after [] (rules.is_open e) rows slots (λ v h. after_bare v (get_or rows v []) (λ u. bare v u h))
      ∙ subst (λ rs. puts after [] rs slots ≡ all_after 0 rs) (sym (eight_places rows [] long)) refl

  -- an open slot has its leading shadow still
  pub after_led : (v : ℕ) (r : rules.Row) → v ≢ t → is_some (get_or r v None) ≡ true → is_some (get_or (after v r) v None) ≡ true
  after_led v r ne led =
      ap is_some (get_or-set_other (renewed own v r) t v None None ne) ∙ still_led own v r led

  abbrev pub Led : Engine → List rules.Row → Type 0
  Led e rows = (v : ℕ) → rules.is_open e v ≡ true → is_some (get_or (get_or rows v []) v None) ≡ true

  pub led_after : (e : Engine) → rules.is_open e t ≡ false → (u : ℕ) (rows : List rules.Row) → Led e rows → Led e (put_at after [] rows u)
  led_after e shut u rows led v opens =
      ⊎_elim
      (λ (q : v ≡ u). rw q (here (rw q at opens) (rw q at (led v opens))))
      (λ (q : v ≡ u → ⊥). ap (λ r. is_some (get_or r v None)) (get_or-set_other rows u v (after u (get_or rows u [])) [] q) ∙ led v opens)
      (cases_eq v u)
    where
      here : rules.is_open e u ≡ true → is_some (get_or (get_or rows u []) u None) ≡ true → is_some (get_or (get_or (put_at after [] rows u) u []) u None) ≡ true
      here o h =
          ap (λ r. is_some (get_or r u None)) (get_or-set_same rows u (after u (get_or rows u [])) [] low)
          ∙ after_led u (get_or rows u []) (λ q. true≢false (sym o ∙ ap (rules.is_open e) q ∙ shut)) h
        where
          low : u < length rows
          low =
              ⊎_elim (λ (l : u < length rows). l)
              (λ (l : length rows ≤ u). absurd (true≢false (sym h ∙ ap (λ r. is_some (get_or r u None)) (get_or_past rows u [] l))))
              (cases_lt u (length rows))

  pub row_after : (ys : List Row) (i : ℕ) (y : Row) → row_of y ≡ after i (row_of (get_or ys i no_row)) → map row_of (set ys i y) ≡ put_at after [] (map row_of ys) i
  row_after ys i y e =
      map-set row_of ys i y
      ∙ ap (set (map row_of ys) i) (e ∙ ap (after i) (sym (row_at ys i)))

-- the lowest open slot, found among the slots
from_here : (n m : ℕ) (xs : List (Option Steps)) (open_at : ℕ → Bool) → length xs ≡ m → ((k : ℕ) → k < m → open_at (n + k) ≡ is_some (get_or xs k None)) → find open_at (range_with_len n m) ≡ first_open n xs
from_here n zero [] open_at l h = refl
from_here n zero (x ∷ xs) open_at l h = absurd (omega arith)
from_here n (suc m) [] open_at l h = absurd (omega arith)
from_here n (suc m) (None ∷ xs) open_at l h =
    let z : n + 0 ≡ n = omega arith in
    cond-false (open_at n) (Some n) (find open_at (range_with_len (n + 1) m)) (ap open_at (sym z) ∙ h 0 (omega arith))
    ∙ from_here (n + 1) m xs open_at (omega arith) (λ k low. let e : n + 1 + k ≡ n + suc k = omega arith in ap open_at e ∙ h (suc k) (omega arith))
    ∙ ap (λ k. first_open k xs) (add-one n)
from_here n (suc m) (Some s ∷ xs) open_at l h =
    let z : n + 0 ≡ n = omega arith in
    cond-true (open_at n) (Some n) (find open_at (range_with_len (n + 1) m)) (ap open_at (sym z) ∙ h 0 (omega arith))

pub first_found : (e : Engine) → length e.scripts ≡ 8 → find (rules.is_open e) slots ≡ first_open 0 e.scripts
first_found e long = from_here 0 8 e.scripts (rules.is_open e) long (λ k l. let z : 0 + k ≡ k = omega arith in ap (rules.is_open e) z)
