-- A turn keeps the invariant. Assumes nothing.
use Rattle.std.proofs.Common.{◌≡◌, ℕ, zero, suc, ◌<◌, ◌≤◌, Bool, true, false, not, ◌&&◌, ◌||◌, eqb, leb, ◌≢◌, ◌⊎◌, List, [], ◌∷◌, get_or, is_some, Some, None, Option, sym, refl, ap, ◌∙◌, subst, inl, inr, ⊎_elim, arith}
use Rattle.std.specs.List.{slice_get}
use Rattle.std.proofs.Math.Bool.{and-false}
use Rattle.std.proofs.lemmas.List.Folds.{list_any-append}
use Rattle.std.proofs.lemmas.Bool.{cases_Bool, cases_eq, cond-true, cond-false, cond_both, and_parts, and_from, and_cases, or_cases, or_parts, or_from, not-true, not-false, not_from_false, eq-eqb, ne_eqb, eqb-false, leb-false, true≢false, both_ways}
use Rattle.serial.specs.declared.ReadEntry.{ReadEntry}
use Rattle.serial.specs.Machine.{Meaning, Steps, Stand, start, store_read, write_of, has_read, has_written, has_read_any}
use Rattle.serial.specs.Alone.{on_list}
use Rattle.serial.specs.Laws.{Next, Leads, here, more}
use Rattle.serial.specs.Rules.{Engine, slots, script_of, is_open, row, shadow, with_shadow, own_of, reads_of, place_of, lead_writes, count, has_room, account, read_conflict, account_read, account_reads, write_conflict, account_write, account_writes, before_step, after_step, lead_moves, shadow_moves, waits}
use Rattle.serial.proofs.Steps.{noted}
use Rattle.serial.proofs.Runs.{stepped, next_same, leads-rises, leads_snoc, reached_later}
use Rattle.serial.proofs.Table.{none_is_some, some_is, none_is, there-within, Sized, shadow-within, row_put, row_put_other, shadow_put, shadow_put_place, shadow_put_row, sized_put, count_set}
use Rattle.serial.proofs.Conflicts.{read_named, read_any_more, read_named_shrinks, noted_any}
use Rattle.serial.proofs.Kept.{Exempt, no_exempt, RowInv, Inv, row_like, fork_inv, accounted, account_inv, account-row, account-there, room_for_all}

-- membership in a list of slots
abbrev pub In : ℕ → List ℕ → Type 0
In u [] = ⊥
In u (x ∷ xs) = (u ≡ x) ⊎ In u xs

pub in_slots : (u : ℕ) → u < 8 → In u slots
in_slots zero l = inl refl
in_slots (suc zero) l = inr (inl refl)
in_slots (suc (suc zero)) l = inr (inr (inl refl))
in_slots (suc (suc (suc zero))) l = inr (inr (inr (inl refl)))
in_slots (suc (suc (suc (suc zero)))) l = inr (inr (inr (inr (inl refl))))
in_slots (suc (suc (suc (suc (suc zero))))) l = inr (inr (inr (inr (inr (inl refl)))))
in_slots (suc (suc (suc (suc (suc (suc zero)))))) l = inr (inr (inr (inr (inr (inr (inl refl))))))
in_slots (suc (suc (suc (suc (suc (suc (suc zero))))))) l = inr (inr (inr (inr (inr (inr (inr (inl refl)))))))
in_slots (suc (suc (suc (suc (suc (suc (suc (suc u)))))))) l = absurd (omega arith)

pub open_within : (e : Engine) → Sized e → (u : ℕ) → is_open e u ≡ true → u < 8
open_within e z u h = let o = some_is (script_of e u) h in let w = there-within e.scripts u o.0 o.1 in omega (arith, z.scripts)

pub open_kept : (e e' : Engine) (u : ℕ) → e'.scripts ≡ e.scripts → is_open e u ≡ true → is_open e' u ≡ true
open_kept e e' u same h = ap (λ xs. is_some (get_or xs u None)) same ∙ h

module _ (ar : Meaning) (pages : List ℕ) where
  -- nothing is promised of a closed slot's shadows, for it has none
  pub closed-row : (x x' : Exempt) (e : Engine) (v : ℕ) → script_of e v ≡ None → RowInv ar pages x e v → RowInv ar pages x' e v
  closed-row x x' e v h i =
      let bare : (u : ℕ) → shadow e v u ≡ None = i.bare h in
      record {
        few = i.few;
        bare = i.bare;
        led = i.led;
        ends = i.ends;
        for_open = i.for_open;
        reached = i.reached;
        behind = i.behind;
        apart = λ u s d q k. none_is_some s (sym (bare u) ∙ q);
        covered = λ m u l d q k c. none_is_some l (sym (bare v) ∙ q);
      }

  -- where nothing is exempt, anything may be
  pub weaken : (x : Exempt) (e : Engine) (v : ℕ) → RowInv ar pages no_exempt e v → RowInv ar pages x e v
  weaken x e v i = row_like ar pages no_exempt x e e v refl refl refl (λ u d. refl) (λ u rs h. refl) i

  -- what accounting before a read keeps
  pub record Before (e : Engine) (t : ℕ) (e' : Engine) : Type 0 where
    pub leads : (w : ℕ) → shadow e' w w ≡ shadow e w w
    pub scripts : e'.scripts ≡ e.scripts
    pub allowance : e'.allowance ≡ e.allowance
    pub lasts : (w y : ℕ) → is_some (shadow e w y) ≡ true → is_some (shadow e' w y) ≡ true
    pub inv : Inv ar pages no_exempt e'

  before_same : (e : Engine) (t : ℕ) → Inv ar pages no_exempt e → Before e t e
  before_same e t i = record { leads = λ w. refl; scripts = refl; allowance = refl; lasts = λ w y a. a; inv = i }

  before_then : (e e₁ e₂ : Engine) (t : ℕ) → Before e t e₁ → Before e₁ t e₂ → Before e t e₂
  before_then e e₁ e₂ t a b = record {
    leads = λ w. b.leads w ∙ a.leads w;
    scripts = b.scripts ∙ a.scripts;
    allowance = b.allowance ∙ a.allowance;
    lasts = λ w y h. b.lasts w y (a.lasts w y h);
    inv = b.inv;
  }

  conflict_facts : (e : Engine) (t p u : ℕ) → read_conflict e t p u ≡ true → (u ≢ t) × (is_open e u ≡ true)
  conflict_facts e t p u h =
      let a = and_parts (not (eqb u t)) (is_open e u && (not (is_some (shadow e t u)) && has_written (lead_writes e u) p)) h in
      let b = and_parts (is_open e u) (not (is_some (shadow e t u)) && has_written (lead_writes e u) p) a.1 in
      (eqb-false u t (not-true (eqb u t) a.0), b.0)

  account_read-kept : (e : Engine) (t p u : ℕ) → t < 8 → is_open e t ≡ true → Inv ar pages no_exempt e → Before e t (account_read e t p u)
  account_read-kept e t p u t_in t_open i =
      ⊎_elim
      (λ (h : read_conflict e t p u ≡ true).
      let f = conflict_facts e t p u h in
      let u_in = open_within e i.sized u f.1 in
      let a = accounted ar pages no_exempt e i t u f.0 t_in u_in in
      subst (Before e t) (sym (cond-true (read_conflict e t p u) (account e t u) e h)) (record {
        leads = a.leads;
        scripts = a.scripts;
        allowance = a.allowance;
        lasts = a.lasts;
        inv = account_inv ar pages no_exempt e i t u f.0 t_in u_in t_open f.1;
      }))
      (λ (h : read_conflict e t p u ≡ false). subst (Before e t) (sym (cond-false (read_conflict e t p u) (account e t u) e h)) (before_same e t i))
      (cases_Bool (read_conflict e t p u))

  -- under allowance 8, a slot in conflict gets a shadow, or has one
  account_read-there : (e : Engine) (t p u : ℕ) → t < 8 → is_open e t ≡ true → Inv ar pages no_exempt e → e.allowance ≡ 8 → u ≢ t → is_open e u ≡ true → has_written (lead_writes e u) p ≡ true → is_some (shadow (account_read e t p u) t u) ≡ true
  account_read-there e t p u t_in t_open i k ne u_open w =
      let u_in = open_within e i.sized u u_open in
      ⊎_elim
      (λ (h : is_some (shadow e t u) ≡ true). (account_read-kept e t p u t_in t_open i).lasts t u h)
      (λ (h : is_some (shadow e t u) ≡ false).
      let c : read_conflict e t p u ≡ true = and_from _ _ (not_from_false (eqb u t) (ne_eqb u t ne)) (and_from _ _ u_open (and_from _ _ (not_from_false (is_some (shadow e t u)) h) w)) in
      ap (λ z. is_some (shadow z t u)) (cond-true (read_conflict e t p u) (account e t u) e c)
      ∙ account-there ar pages no_exempt e i t u ne t_in u_in (room_for_all ar pages no_exempt e i t u ne t_in u_in k))
      (cases_Bool (is_some (shadow e t u)))

  account_reads-kept : (us : List ℕ) (e : Engine) (t p : ℕ) → t < 8 → is_open e t ≡ true → Inv ar pages no_exempt e → Before e t (account_reads e t p us)
  account_reads-kept [] e t p t_in t_open i = before_same e t i
  account_reads-kept (u ∷ us) e t p t_in t_open i =
      let a = account_read-kept e t p u t_in t_open i in
      before_then e (account_read e t p u) _ t a
      (account_reads-kept us (account_read e t p u) t p t_in (open_kept e (account_read e t p u) t a.scripts t_open) a.inv)

  account_reads-there : (us : List ℕ) (e : Engine) (t p : ℕ) → t < 8 → is_open e t ≡ true → Inv ar pages no_exempt e → e.allowance ≡ 8 → (u : ℕ) → In u us → u ≢ t → is_open e u ≡ true → has_written (lead_writes e u) p ≡ true → is_some (shadow (account_reads e t p us) t u) ≡ true
  account_reads-there [] e t p t_in t_open i k u m ne u_open w = absurd m
  account_reads-there (x ∷ us) e t p t_in t_open i k u m ne u_open w =
      let e₁ = account_read e t p x in
      let a = account_read-kept e t p x t_in t_open i in
      let t_is_open₁ = open_kept e e₁ t a.scripts t_open in
      ⊎_elim
      (λ (q : u ≡ x).
      let now_there : is_some (shadow (account_read e t p u) t u) ≡ true = account_read-there e t p u t_in t_open i k ne u_open w in
      (account_reads-kept us e₁ t p t_in t_is_open₁ a.inv).lasts t u (subst (λ y. is_some (shadow (account_read e t p y) t u) ≡ true) q now_there))
      (λ (q : In u us).
      account_reads-there us e₁ t p t_in t_is_open₁ a.inv (a.allowance ∙ k) u q ne (open_kept e e₁ u a.scripts u_open) (ap (λ o. has_written (own_of o) p) (a.leads u) ∙ w))
      m

  pub before_kept : (e : Engine) (t : ℕ) (sr : Option ℕ) → t < 8 → is_open e t ≡ true → Inv ar pages no_exempt e → Before e t (before_step e t sr)
  before_kept e t None t_in t_open i = before_same e t i
  before_kept e t (Some p) t_in t_open i = account_reads-kept slots e t p t_in t_open i

  -- a leading shadow that has written anything is of an open slot
  writes_open : (e : Engine) → Inv ar pages no_exempt e → (u p : ℕ) → has_written (lead_writes e u) p ≡ true → is_open e u ≡ true
  writes_open e i u p w = by (shadow e u u) refl w
    where
      by : (o : Option Stand) → shadow e u u ≡ o → has_written (own_of o) p ≡ true → is_open e u ≡ true
      by None q w = absurd (true≢false (sym w))
      by (Some s) q w = (i.rows u).for_open u s q

  pub before_there : (e : Engine) (t : ℕ) (sr : Option ℕ) → t < 8 → is_open e t ≡ true → Inv ar pages no_exempt e → e.allowance ≡ 8 → (u : ℕ) → u ≢ t → on_list (lead_writes e u) sr ≡ true → is_some (shadow (before_step e t sr) t u) ≡ true
  before_there e t None t_in t_open i k u ne w = absurd (true≢false (sym w))
  before_there e t (Some p) t_in t_open i k u ne w =
      let u_open = writes_open e i u p w in
      account_reads-there slots e t p t_in t_open i k u (in_slots u (open_within e i.sized u u_open)) ne u_open w

  -- halfway through a write, nothing is promised of shadows for t whose reads name the page
  abbrev pub halfway : ℕ → Option ℕ → Exempt
  halfway t wr u rs = eqb u t && read_named rs wr

  halfway_other : (t : ℕ) (wr : Option ℕ) (u : ℕ) (rs : List ReadEntry) → u ≢ t → halfway t wr u rs ≡ false
  halfway_other t wr u rs ne = ap (λ b. b && read_named rs wr) (ne_eqb u t ne)

  halfway-unread : (t : ℕ) (wr : Option ℕ) (rs : List ReadEntry) → read_named rs wr ≡ false → halfway t wr t rs ≡ false
  halfway-unread t wr rs h = ap (λ b. eqb t t && b) h ∙ and-false (eqb t t)

  unread-halfway : (t : ℕ) (wr : Option ℕ) (rs : List ReadEntry) → halfway t wr t rs ≡ false → read_named rs wr ≡ false
  unread-halfway t wr rs h = sym (ap (λ b. b && read_named rs wr) (eq-eqb t t refl)) ∙ h

  -- the leading shadow moves
  module _ (e : Engine) (i : Inv ar pages no_exempt e) (t : ℕ) (t_in : t < 8) (sc : Steps) (script : script_of e t ≡ Some sc) (l l' : Stand) (lead : shadow e t t ≡ Some l) (step : Next ar sc pages l l')
      (there : e.allowance ≡ 8 → (u : ℕ) → u ≢ t → on_list (lead_writes e u) (store_read (slice_get sc l.step) l) ≡ true → is_some (shadow e t u) ≡ true) where
    abbrev moved_on : Engine
    moved_on = with_shadow e t t (Some l')

    lead_now : shadow moved_on t t ≡ Some l'
    lead_now = shadow_put e i.sized t t t_in t_in (Some l')

    place : (w : ℕ) → w ≢ t → shadow moved_on t w ≡ shadow e t w
    place = shadow_put_place e i.sized t t t_in t_in (Some l')

    other_writes : (u : ℕ) → u ≢ t → lead_writes moved_on u ≡ lead_writes e u
    other_writes u ne = ap own_of (shadow_put_row e i.sized t t t_in t_in (Some l') u u ne)

    is_lead : (w : ℕ) (y : Stand) → w ≡ t → shadow moved_on t w ≡ Some y → l' ≡ y
    is_lead w y q h = let z : Some l' ≡ Some y = sym lead_now ∙ ap (shadow moved_on t) (sym q) ∙ h in cc

    own_row : RowInv ar pages no_exempt moved_on t
    own_row =
        let r = i.rows t in
        let x = stepped ar sc pages l l' step in
        let up : l.step < l'.step = x.move.rises in
        record {
          few = subst (λ cs. count cs ≤ e.allowance) (sym (row_put e i.sized t t t_in t_in (Some l'))) (subst (λ n. n ≤ e.allowance) (sym (count_set (row e t) t l l' lead)) r.few);
          bare = λ h w. none_is_some sc (sym h ∙ script);
          led = λ z h. ap is_some lead_now;
          ends = r.ends;
          for_open = λ w y h. ⊎_elim (λ (q : w ≡ t). ap (is_open e) q ∙ ap is_some script) (λ (q : w ≡ t → ⊥). r.for_open w y (sym (place w q) ∙ h)) (cases_eq w t);
          reached = λ z w y h k. ⊎_elim
              (λ (q : w ≡ t).
              let same : sc ≡ z = let m : Some sc ≡ Some z = sym script ∙ h in cc in
              subst (Leads ar z pages start) (is_lead w y q k) (subst (λ a. Leads ar a pages start l') same (leads_snoc ar sc pages l' (r.reached sc t l script lead) step)))
              (λ (q : w ≡ t → ⊥). r.reached z w y h (sym (place w q) ∙ k))
              (cases_eq w t);
          behind = λ w y a h k.
              let same : l' ≡ a = is_lead t a refl k in
              subst (λ b. y.step ≤ b.step) same (⊎_elim
              (λ (q : w ≡ t). let z : l'.step ≡ y.step = ap (λ b. b.step) (is_lead w y q h) in omega arith)
              (λ (q : w ≡ t → ⊥). let z = r.behind w y l (sym (place w q) ∙ h) lead in omega arith)
              (cases_eq w t));
          apart = λ w y d h k. ap (has_read_any y.reads) (other_writes w d) ∙ r.apart w y d (sym (place w d) ∙ h) refl;
          covered = λ m w a d h k c.
              let same : l' ≡ a = is_lead t a refl h in
              let o = store_read (slice_get sc l.step) l in
              let split : (has_read_any l.reads (lead_writes e w) || on_list (lead_writes e w) o) ≡ true =
              sym (ap (λ b. has_read_any b.reads (lead_writes moved_on w)) (sym same) ∙ ap (has_read_any l'.reads) (other_writes w d) ∙ ap (λ rs. has_read_any rs (lead_writes e w)) x.move.reads ∙ list_any-append (λ r. has_written (lead_writes e w) r.page) l.reads (noted l.step o) ∙ ap (λ b. has_read_any l.reads (lead_writes e w) || b) (noted_any l.step o (lead_writes e w))) ∙ c in
              ap is_some (place w d) ∙ ⊎_elim
              (λ (q : has_read_any l.reads (lead_writes e w) ≡ true). r.covered m w l d lead refl q)
              (λ (q : on_list (lead_writes e w) o ≡ true). there m w d q)
              (or_cases (has_read_any l.reads (lead_writes e w)) (on_list (lead_writes e w) o) split);
        }

    other_row : (v : ℕ) → v ≢ t → RowInv ar pages (halfway t (write_of (slice_get sc l.step) l)) moved_on v
    other_row v ne =
        let r = i.rows v in
        let wr = write_of (slice_get sc l.step) l in
        let x = stepped ar sc pages l l' step in
        let at : (w : ℕ) → shadow moved_on v w ≡ shadow e v w = λ w. shadow_put_row e i.sized t t t_in t_in (Some l') v w ne in
        let before : lead_writes e t ≡ l.own = ap own_of lead in
        let now_own : lead_writes moved_on t ≡ l'.own = ap own_of lead_now in
        let grown : (rs : List ReadEntry) → has_read_any rs (lead_writes moved_on t) ≡ (has_read_any rs (lead_writes e t) || read_named rs wr) =
        λ rs. ap (has_read_any rs) now_own ∙ read_any_more rs l.own l'.own wr x.move.own ∙ ap (λ es. has_read_any rs es || read_named rs wr) (sym before) in
        record {
          few = subst (λ cs. count cs ≤ e.allowance) (sym (row_put_other e i.sized t t t_in t_in (Some l') v ne)) r.few;
          bare = λ h w. at w ∙ r.bare h w;
          led = λ z h. ap is_some (at v) ∙ r.led z h;
          ends = r.ends;
          for_open = λ w y h. r.for_open w y (sym (at w) ∙ h);
          reached = λ z w y h k. r.reached z w y h (sym (at w) ∙ k);
          behind = λ w y a h k. r.behind w y a (sym (at w) ∙ h) (sym (at v) ∙ k);
          apart = λ w y d h k. ⊎_elim
              (λ (q : w ≡ t).
              let unread : read_named y.reads wr ≡ false = unread-halfway t wr y.reads (subst (λ m. halfway t wr m y.reads ≡ false) q k) in
              let was : has_read_any y.reads (lead_writes e t) ≡ false = subst (λ m. has_read_any y.reads (lead_writes e m) ≡ false) q (r.apart w y d (sym (at w) ∙ h) refl) in
              ap (λ m. has_read_any y.reads (lead_writes moved_on m)) q ∙ grown y.reads ∙ or_from (has_read_any y.reads (lead_writes e t)) (read_named y.reads wr) was unread)
              (λ (q : w ≡ t → ⊥). ap (has_read_any y.reads) (other_writes w q) ∙ r.apart w y d (sym (at w) ∙ h) refl)
              (cases_eq w t);
          covered = λ m w a d h k c. ap is_some (at w) ∙ ⊎_elim
              (λ (q : w ≡ t).
              let unread : read_named a.reads wr ≡ false = unread-halfway t wr a.reads (subst (λ z. halfway t wr z a.reads ≡ false) q k) in
              let split : (has_read_any a.reads (lead_writes e t) || read_named a.reads wr) ≡ true = sym (grown a.reads) ∙ ap (λ z. has_read_any a.reads (lead_writes moved_on z)) (sym q) ∙ c in
              r.covered m w a d (sym (at v) ∙ h) refl (ap (λ z. has_read_any a.reads (lead_writes e z)) q ∙ ⊎_elim (λ z. z) (λ z. absurd (both_ways (read_named a.reads wr) unread z)) (or_cases (has_read_any a.reads (lead_writes e t)) (read_named a.reads wr) split)))
              (λ (q : w ≡ t → ⊥). r.covered m w a d (sym (at v) ∙ h) refl (sym (ap (has_read_any a.reads) (other_writes w q)) ∙ c))
              (cases_eq w t);
        }

    pub moved_inv : Inv ar pages (halfway t (write_of (slice_get sc l.step) l)) moved_on
    moved_inv = record {
      sized = sized_put e i.sized t t t_in t_in (Some l');
      allowed = i.allowed;
      rows = λ v. ⊎_elim
          (λ (q : v ≡ t). subst (RowInv ar pages (halfway t (write_of (slice_get sc l.step) l)) moved_on) (sym q) (weaken (halfway t (write_of (slice_get sc l.step) l)) moved_on t own_row))
          (λ (q : v ≡ t → ⊥). other_row v q)
          (cases_eq v t);
    }

  -- what accounting after a write keeps
  pub record After (e : Engine) (e' : Engine) : Type 0 where
    pub leads : (w : ℕ) → shadow e' w w ≡ shadow e w w
    pub scripts : e'.scripts ≡ e.scripts
    pub allowance : e'.allowance ≡ e.allowance

  -- where a slot is in no conflict, nothing of its row was exempt
  module _ (t p : ℕ) (t_in : t < 8) (e : Engine) (i : Inv ar pages (halfway t (Some p)) e) (t_open : is_open e t ≡ true) where
    own_full : RowInv ar pages no_exempt e t
    own_full =
        let r = i.rows t in
        record {
          few = r.few;
          bare = r.bare;
          led = r.led;
          ends = r.ends;
          for_open = r.for_open;
          reached = r.reached;
          behind = r.behind;
          apart = λ w y d h k. r.apart w y d h (halfway_other t (Some p) w y.reads d);
          covered = λ m w a d h k c. r.covered m w a d h (halfway_other t (Some p) w a.reads d) c;
        }

    -- neither the leading shadow's reads nor those of the shadow for t are exempt
    settled : (v : ℕ) → v ≢ t → ((y : Stand) → shadow e v t ≡ Some y → has_read y.reads p ≡ false) → ((a : Stand) → shadow e v v ≡ Some a → (has_read a.reads p ≡ false) ⊎ (is_some (shadow e v t) ≡ true)) → RowInv ar pages no_exempt e v
    settled v ne shadow_ok lead_ok =
        let r = i.rows v in
        record {
          few = r.few;
          bare = r.bare;
          led = r.led;
          ends = r.ends;
          for_open = r.for_open;
          reached = r.reached;
          behind = r.behind;
          apart = λ w y d h k. ⊎_elim
              (λ (q : w ≡ t). r.apart w y d h (subst (λ m. halfway t (Some p) m y.reads ≡ false) (sym q) (halfway-unread t (Some p) y.reads (shadow_ok y (ap (shadow e v) (sym q) ∙ h)))))
              (λ (q : w ≡ t → ⊥). r.apart w y d h (halfway_other t (Some p) w y.reads q))
              (cases_eq w t);
          covered = λ m w a d h k c. ⊎_elim
              (λ (q : w ≡ t). ⊎_elim
              (λ (unread : has_read a.reads p ≡ false). r.covered m w a d h (subst (λ z. halfway t (Some p) z a.reads ≡ false) (sym q) (halfway-unread t (Some p) a.reads unread)) c)
              (λ (some : is_some (shadow e v t) ≡ true). ap (λ z. is_some (shadow e v z)) q ∙ some)
              (lead_ok a h))
              (λ (q : w ≡ t → ⊥). r.covered m w a d h (halfway_other t (Some p) w a.reads q) c)
              (cases_eq w t);
        }

    no_conflict : (v : ℕ) → write_conflict e t p v ≡ false → RowInv ar pages no_exempt e v
    no_conflict v h =
        ⊎_elim
        (λ (q : v ≡ t). subst (RowInv ar pages no_exempt e) (sym q) own_full)
        (λ (q : v ≡ t → ⊥).
        ⊎_elim
        (λ (o : is_open e v ≡ true).
        let sc = some_is (script_of e v) o in
        let lead = some_is (shadow e v v) ((i.rows v).led sc.0 sc.1) in
        let rest = past (not (eqb v t)) _ (not_from_false (eqb v t) (ne_eqb v t q)) h in
        let rest₂ = past (is_open e v) _ o rest in
        ⊎_elim
        (λ (unread : has_read (reads_of (shadow e v v)) p ≡ false).
        let lead_unread : has_read lead.0.reads p ≡ false = sym (ap (λ z. has_read (reads_of z) p) lead.1) ∙ unread in
        settled v q
        (λ y k. read_named_shrinks ar sc.0 pages (Some p)
        (reached_later ar sc.0 pages ((i.rows v).reached sc.0 t y sc.1 k) ((i.rows v).reached sc.0 v lead.0 sc.1 lead.1) ((i.rows v).behind t y lead.0 k lead.1))
        lead_unread)
        (λ a k. inl (sym (ap (λ z. has_read (reads_of z) p) k) ∙ unread)))
        (λ (none : (not (is_some (shadow e v t)) || has_read (reads_of (shadow e v t)) p) ≡ false).
        let parts = or_parts (not (is_some (shadow e v t))) (has_read (reads_of (shadow e v t)) p) none in
        settled v q
        (λ y k. sym (ap (λ z. has_read (reads_of z) p) k) ∙ parts.1)
        (λ a k. inr (not-false (is_some (shadow e v t)) parts.0)))
        (and_cases (has_read (reads_of (shadow e v v)) p) (not (is_some (shadow e v t)) || has_read (reads_of (shadow e v t)) p) rest₂))
        (λ (o : is_open e v ≡ false). closed-row (halfway t (Some p)) no_exempt e v (none_is (script_of e v) o) (i.rows v))
        (cases_Bool (is_open e v)))
        (cases_eq v t)
      where
        past : (a b : Bool) → a ≡ true → (a && b) ≡ false → b ≡ false
        past a b x y = sym (ap (λ z. z && b) x) ∙ y

    write_conflict_facts : (v : ℕ) → write_conflict e t p v ≡ true → (v ≢ t) × (is_open e v ≡ true)
    write_conflict_facts v h =
        let a = and_parts (not (eqb v t)) (is_open e v && (has_read (reads_of (shadow e v v)) p && (not (is_some (shadow e v t)) || has_read (reads_of (shadow e v t)) p))) h in
        let b = and_parts (is_open e v) (has_read (reads_of (shadow e v v)) p && (not (is_some (shadow e v t)) || has_read (reads_of (shadow e v t)) p)) a.1 in
        (eqb-false v t (not-true (eqb v t) a.0), b.0)

    -- one slot after the other: its row is exempt no more, and the others stay
    pub record Settles (v : ℕ) (e' : Engine) : Type 0 where
      pub kept : After e e'
      pub inv : Inv ar pages (halfway t (Some p)) e'
      pub full : RowInv ar pages no_exempt e' v
      pub lasts : (w : ℕ) → RowInv ar pages no_exempt e w → RowInv ar pages no_exempt e' w

    pub settles : (v : ℕ) → Settles v (account_write e t p v)
    settles v =
        ⊎_elim
        (λ (h : write_conflict e t p v ≡ true).
        let f = write_conflict_facts v h in
        let v_in = open_within e i.sized v f.1 in
        let ne : t ≢ v = λ z. f.0 (sym z) in
        let a = accounted ar pages (halfway t (Some p)) e i v t ne v_in t_in in
        let full = account-row ar pages (halfway t (Some p)) e i v t ne v_in t_in no_exempt (λ w rs d z. halfway_other t (Some p) w rs d) f.1 t_open in
        subst (Settles v) (sym (cond-true (write_conflict e t p v) (account e v t) e h)) (record {
          kept = record { leads = a.leads; scripts = a.scripts; allowance = a.allowance };
          inv = account_inv ar pages (halfway t (Some p)) e i v t ne v_in t_in f.1 t_open;
          full = full;
          lasts = λ w r. ⊎_elim
              (λ (q : w ≡ v). subst (RowInv ar pages no_exempt (account e v t)) (sym q) full)
              (λ (q : w ≡ v → ⊥). row_like ar pages no_exempt no_exempt e (account e v t) w a.allowance a.scripts (a.rows w q) (λ u d. ap own_of (a.leads u)) (λ u rs z. z) r)
              (cases_eq w v);
        }))
        (λ (h : write_conflict e t p v ≡ false).
        subst (Settles v) (sym (cond-false (write_conflict e t p v) (account e v t) e h)) (record {
          kept = record { leads = λ w. refl; scripts = refl; allowance = refl };
          inv = i;
          full = no_conflict v h;
          lasts = λ w r. r;
        }))
        (cases_Bool (write_conflict e t p v))

  module _ (t p : ℕ) (t_in : t < 8) where
    record AllSettled (e : Engine) (vs : List ℕ) (e' : Engine) : Type 0 where
      kept : After e e'
      inv : Inv ar pages (halfway t (Some p)) e'
      full : (v : ℕ) → In v vs → RowInv ar pages no_exempt e' v
      lasts : (w : ℕ) → RowInv ar pages no_exempt e w → RowInv ar pages no_exempt e' w

    all_settle : (vs : List ℕ) (e : Engine) → Inv ar pages (halfway t (Some p)) e → is_open e t ≡ true → AllSettled e vs (account_writes e t p vs)
    all_settle [] e i t_open = record { kept = record { leads = λ w. refl; scripts = refl; allowance = refl }; inv = i; full = λ v m. absurd m; lasts = λ w r. r }
    all_settle (v ∷ vs) e i t_open =
        let one = settles t p t_in e i t_open v in
        let rest = all_settle vs (account_write e t p v) one.inv (open_kept e (account_write e t p v) t one.kept.scripts t_open) in
        record {
          kept = record {
            leads = λ w. rest.kept.leads w ∙ one.kept.leads w;
            scripts = rest.kept.scripts ∙ one.kept.scripts;
            allowance = rest.kept.allowance ∙ one.kept.allowance;
          };
          inv = rest.inv;
          full = λ w m. ⊎_elim (λ (q : w ≡ v). rest.lasts w (subst (RowInv ar pages no_exempt (account_write e t p v)) (sym q) one.full)) (λ (q : In w vs). rest.full w q) m;
          lasts = λ w r. rest.lasts w (one.lasts w r);
        }

    written_inv : (e : Engine) → Inv ar pages (halfway t (Some p)) e → is_open e t ≡ true → Inv ar pages no_exempt (account_writes e t p slots)
    written_inv e i t_open =
        let a = all_settle slots e i t_open in
        record {
          sized = a.inv.sized;
          allowed = a.inv.allowed;
          rows = λ v. ⊎_elim
              (λ (o : is_open (account_writes e t p slots) v ≡ true). a.full v (in_slots v (open_within (account_writes e t p slots) a.inv.sized v o)))
              (λ (o : is_open (account_writes e t p slots) v ≡ false). closed-row (halfway t (Some p)) no_exempt (account_writes e t p slots) v (none_is (script_of (account_writes e t p slots) v) o) (a.inv.rows v))
              (cases_Bool (is_open (account_writes e t p slots) v));
        }

  after_inv : (t : ℕ) (wr : Option ℕ) (e : Engine) → t < 8 → Inv ar pages (halfway t wr) e → is_open e t ≡ true → Inv ar pages no_exempt (after_step e t wr)
  after_inv t None e t_in i t_open = record {
    sized = i.sized;
    allowed = i.allowed;
    rows = λ v. row_like ar pages (halfway t None) no_exempt e e v refl refl refl (λ u d. refl) (λ u rs h. halfway_nothing u rs) (i.rows v);
  }
    where
      halfway_nothing : (u : ℕ) (rs : List ReadEntry) → halfway t None u rs ≡ false
      halfway_nothing u rs = and-false (eqb u t)
  after_inv t (Some p) e t_in i t_open = written_inv t p t_in e i t_open

  -- a turn of a leading shadow
  pub lead_moves_inv : (e : Engine) → Inv ar pages no_exempt e → (t : ℕ) (sc : Steps) (l l' : Stand) → script_of e t ≡ Some sc → shadow e t t ≡ Some l → Next ar sc pages l l' → Inv ar pages no_exempt (lead_moves e t sc l l')
  lead_moves_inv e i t sc l l' script lead step =
      let t_open : is_open e t ≡ true = ap is_some script in
      let t_in = open_within e i.sized t t_open in
      let sr = store_read (slice_get sc l.step) l in
      let e₁ = before_step e t sr in
      let b = before_kept e t sr t_in t_open i in
      let script₁ : script_of e₁ t ≡ Some sc = ap (λ xs. get_or xs t None) b.scripts ∙ script in
      let m = moved_inv e₁ b.inv t t_in sc script₁ l l' (b.leads t ∙ lead) step
      (λ k u ne c. before_there e t sr t_in t_open i (sym b.allowance ∙ k) u ne (ap (λ o. on_list (own_of o) sr) (sym (b.leads u)) ∙ c)) in
      after_inv t (write_of (slice_get sc l.step) l) (with_shadow e₁ t t (Some l')) t_in m (ap is_some script₁)

  -- a turn of another shadow
  pub shadow_moves_inv : (e : Engine) → Inv ar pages no_exempt e → (t u : ℕ) (sc : Steps) (s s' : Stand) → u ≢ t → script_of e t ≡ Some sc → shadow e t u ≡ Some s → waits e t u sc s ≡ false → Next ar sc pages s s' → Inv ar pages no_exempt (with_shadow e t u (Some s'))
  shadow_moves_inv e i t u sc s s' ne script here_now free step =
      let r = i.rows t in
      let in_both = shadow-within e i.sized t u s here_now in
      let lead = some_is (shadow e t t) (r.led sc script) in
      let parts = or_parts (leb (place_of (shadow e t t)) s.step) (on_list (lead_writes e u) (store_read (slice_get sc s.step) s)) free in
      let below : s.step < lead.0.step = leb-false lead.0.step s.step (ap (λ o. leb (place_of o) s.step) (sym lead.1) ∙ parts.0) in
      let s_reached = r.reached sc u s script here_now in
      let ahead = reached_later ar sc pages s_reached (r.reached sc t lead.0 script lead.1) (omega arith) in
      let x = stepped ar sc pages s s' step in
      let o = store_read (slice_get sc s.step) s in
      fork_inv ar pages no_exempt e i t u ne in_both.0 in_both.1 s' (ap is_some script) (r.for_open u s here_now) (record {
        reached = λ z h. let same : sc ≡ z = let m : Some sc ≡ Some z = sym script ∙ h in cc in subst (λ a. Leads ar a pages start s') same (leads_snoc ar sc pages s' s_reached step);
        behind = λ l h. let same : lead.0 ≡ l = let m : Some lead.0 ≡ Some l = sym lead.1 ∙ h in cc in subst (λ a. s'.step ≤ a.step) same (not_past lead.0 ahead below);
        unread = ap (λ rs. has_read_any rs (lead_writes e u)) x.move.reads ∙ list_any-append (λ r. has_written (lead_writes e u) r.page) s.reads (noted s.step o) ∙ or_from (has_read_any s.reads (lead_writes e u)) (has_read_any (noted s.step o) (lead_writes e u)) (r.apart u s ne here_now refl) (noted_any s.step o (lead_writes e u) ∙ parts.1);
        room = subst (λ n. n ≤ e.allowance) (sym (count_set (row e t) u s s' here_now)) r.few;
      })
    where
      -- the next stand of one behind the leading shadow is not past it
      not_past : (l : Stand) → Leads ar sc pages s l → s.step < l.step → s'.step ≤ l.step
      not_past l here below = absurd (omega arith)
      not_past l (more {t = m} h k) below = let same : m ≡ s' = next_same ar sc pages s m s' h step in let z : m.step ≡ s'.step = ap (λ a. a.step) same in let q = leads-rises ar sc pages k in omega arith

-- accounting and moving leave scripts as they are
pub account-scripts : (e : Engine) (t u : ℕ) → (account e t u).scripts ≡ e.scripts
account-scripts e t u = cond_both (has_room e t u) _ e (λ z. z.scripts ≡ e.scripts) (λ h. refl) (λ h. refl)

account_reads-scripts : (us : List ℕ) (e : Engine) (t p : ℕ) → (account_reads e t p us).scripts ≡ e.scripts
account_reads-scripts [] e t p = refl
account_reads-scripts (u ∷ us) e t p =
    account_reads-scripts us (account_read e t p u) t p
    ∙ cond_both (read_conflict e t p u) (account e t u) e (λ z. z.scripts ≡ e.scripts) (λ h. account-scripts e t u) (λ h. refl)

account_writes-scripts : (vs : List ℕ) (e : Engine) (t p : ℕ) → (account_writes e t p vs).scripts ≡ e.scripts
account_writes-scripts [] e t p = refl
account_writes-scripts (v ∷ vs) e t p =
    account_writes-scripts vs (account_write e t p v) t p
    ∙ cond_both (write_conflict e t p v) (account e v t) e (λ z. z.scripts ≡ e.scripts) (λ h. account-scripts e v t) (λ h. refl)

before_scripts : (e : Engine) (t : ℕ) (o : Option ℕ) → (before_step e t o).scripts ≡ e.scripts
before_scripts e t None = refl
before_scripts e t (Some p) = account_reads-scripts slots e t p

after-scripts : (e : Engine) (t : ℕ) (o : Option ℕ) → (after_step e t o).scripts ≡ e.scripts
after-scripts e t None = refl
after-scripts e t (Some p) = account_writes-scripts slots e t p

pub moves-scripts : (e : Engine) (t u : ℕ) (sc : Steps) (s to : Stand) → (shadow_moves e t u sc s to).scripts ≡ e.scripts
moves-scripts e t u sc s to =
    cond_both (eqb u t) (lead_moves e t sc s to) (with_shadow e t u (Some to)) (λ z. z.scripts ≡ e.scripts)
    (λ h. after-scripts _ t (write_of (slice_get sc s.step) s) ∙ before_scripts e t (store_read (slice_get sc s.step) s))
    (λ h. refl)
