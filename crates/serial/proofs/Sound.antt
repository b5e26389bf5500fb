-- Every call keeps what holds in every engine, over any pages. Assumes nothing.
use Rattle.std.proofs.Common.{◌≡◌, ℕ, zero, suc, ◌+◌, ◌<◌, ◌≤◌, true, false, not, ◌&&◌, eqb, ltb, leb, ◌≢◌, ◌⊎◌, List, [], ◌∷◌, length, get_or, set, is_some, Some, None, Ok, Option, unwrap_or, sym, refl, ap, ◌∙◌, subst, inl, inr, ⊎_elim, arith}
use Rattle.std.specs.List.{slice_get}
use Rattle.std.proofs.lemmas.List.{length-append}
use Rattle.std.proofs.Math.ListN.{get_or-map}
use Rattle.std.proofs.lemmas.Bool.{cases_Bool, cases_eq, cond-true, cond-false, cond_both, and_parts, and_from, leb-true, le-leb, eqb-true, eq-eqb, eqb-false, not-true, true≢false}
use Rattle.pages.specs.Pages.{entry}
use Rattle.pages.specs.declared.WriteEntry.{WriteEntry}
use Rattle.script.specs.declared.Step.{Step}
use Rattle.script.specs.Laws.{leaves_out, EndsAtEnd, Decodes}
use Rattle.script.specs.Script.{decoded}
use Rattle.script.specs.declared.Register.{Register}
use Rattle.script.proofs.Decoded.{decodes, fit_facts}
use Rattle.serial.specs.Machine.{Meaning, Steps, Stand, start, has_read_any, written, write, Effect, reading, writing, setting, leaving, effect, with_register, recorded, with_write, moved, off_pages, take_read, take_effect, store_read, write_of}
use Rattle.serial.specs.Laws.{Next}
use Rattle.serial.specs.Rules.{Engine, State, Done, slots, fresh_engine, script_of, is_open, row, shadow, with_shadow, clean, furthest_of, any_shadow, count, has_room, account, read_conflict, account_read, account_reads, write_conflict, account_write, account_writes, before_step, after_step, lead_moves, shadow_moves, first_open, begun, remaining, kept, committed, Call, set_allowance, begin, turn, commit, abort, does}
use Rattle.serial.specs.Sound.{ends_within, script_fits, stands_once, shadow_fits, SoundEngine}
use Rattle.serial.specs.OneStep.{HasFour, Once, ShadowsStandSo}
use Rattle.serial.proofs.Opened.{allows-opened, begins-opened, turns-opened, turn-found, commits-opened, aborts-opened}
use Rattle.serial.proofs.Steps.{noted, off_moved}
use Rattle.serial.proofs.Runs.{stepped, next-ends}
use Rattle.serial.proofs.Table.{none_is_some, some_is, none_is, some_or_none, Sized, shadow-within, row_put, row_put_other, shadow_put, shadow_put_place, shadow_put_row, sized_put, nothing_at, count_set, count_add, kept_was, furthest_of_among}
use Rattle.serial.proofs.PageLists.{once_told, told_once}
use Rattle.serial.proofs.WriteLaws.{next-fits}
use Rattle.serial.proofs.Kept.{count_room}
use Rattle.serial.proofs.Turns.{open_within, open_kept, account-scripts}
use Rattle.serial.proofs.Commits.{none_of, none_for, others_kept, lead_stays, lead_renewed, lead_none, committed-sized, committed-count, script-there, script_other, abort_is}
use Rattle.serial.proofs.Calls.{BegunSo, begun-so, fresh_good, none_open, count_none}

-- a shadow that fits its script
abbrev pub FitsScript : Steps → Stand → Type 0
FitsScript sc s = (s.step ≤ length sc) × (length s.reads ≤ s.step) × (length s.own ≤ s.step) × HasFour s × Once s.own

-- the same, field by field
pub record Holds (e : Engine) : Type 0 where
  pub sized : Sized e
  pub allowed : (1 ≤ e.allowance) × (e.allowance ≤ 8)
  pub bare : (t u : ℕ) → is_open e t ≡ false → is_some (shadow e t u) ≡ false
  pub led : (t : ℕ) → is_open e t ≡ true → is_some (shadow e t t) ≡ true
  pub few : (t : ℕ) → count (row e t) ≤ e.allowance
  pub for_open : (t u : ℕ) → is_some (shadow e t u) ≡ true → is_open e u ≡ true
  pub scripts : (t : ℕ) (sc : Steps) → script_of e t ≡ Some sc → (length sc ≤ 16) × EndsAtEnd sc
  pub shadows : (t u : ℕ) (sc : Steps) (s : Stand) → script_of e t ≡ Some sc → shadow e t u ≡ Some s → FitsScript sc s

ends-told : (n i : ℕ) (ss : Steps) → ends_within n i ss ≡ true → (k : ℕ) (s : Step) → slice_get ss k ≡ Some s → i + k + 1 + leaves_out s ≤ n
ends-told n i [] h k s e = none_is_some s e
ends-told n i (x ∷ ss) h zero s e =
    let same : x ≡ s = cc in
    let low = leb-true (i + 1 + leaves_out x) n (and_parts (leb (i + 1 + leaves_out x) n) (ends_within n (suc i) ss) h).0 in
    let z : leaves_out x ≡ leaves_out s = ap leaves_out same in
    omega arith
ends-told n i (x ∷ ss) h (suc k) s e =
    let rest = ends-told n (suc i) ss (and_parts (leb (i + 1 + leaves_out x) n) (ends_within n (suc i) ss) h).1 k s e in
    omega arith

ends_tell : (n i : ℕ) (ss : Steps) → ((k : ℕ) (s : Step) → slice_get ss k ≡ Some s → i + k + 1 + leaves_out s ≤ n) → ends_within n i ss ≡ true
ends_tell n i [] h = refl
ends_tell n i (x ∷ ss) h =
    and_from (leb (i + 1 + leaves_out x) n) (ends_within n (suc i) ss) (le-leb (i + 1 + leaves_out x) n (let a = h 0 x refl in omega arith))
    (ends_tell n (suc i) ss (λ k s e. let a = h (suc k) s e in omega arith))

script-told : (sc : Steps) → script_fits (Some sc) ≡ true → (length sc ≤ 16) × EndsAtEnd sc
script-told sc h =
    let a = and_parts (leb (length sc) 16) (ends_within (length sc) 0 sc) h in
    (leb-true (length sc) 16 a.0, λ i s e. let b = ends-told (length sc) 0 sc a.1 i s e in omega arith)

script_tell : (o : Option Steps) → ((sc : Steps) → o ≡ Some sc → (length sc ≤ 16) × EndsAtEnd sc) → script_fits o ≡ true
script_tell None h = refl
script_tell (Some sc) h =
    let a = h sc refl in
    and_from (leb (length sc) 16) (ends_within (length sc) 0 sc) (le-leb (length sc) 16 a.0) (ends_tell (length sc) 0 sc (λ k s e. let b = a.1 k s e in omega arith))

shadow-told : (sc : Steps) (s : Stand) → shadow_fits (Some sc) (Some s) ≡ true → FitsScript sc s
shadow-told sc s h =
    let whole = eqb (length s.registers) 4 && stands_once s.own in
    let a = and_parts (leb s.step (length sc)) (leb (length s.reads) s.step && (leb (length s.own) s.step && whole)) h in
    let b = and_parts (leb (length s.reads) s.step) (leb (length s.own) s.step && whole) a.1 in
    let c = and_parts (leb (length s.own) s.step) whole b.1 in
    let d = and_parts (eqb (length s.registers) 4) (stands_once s.own) c.1 in
    (leb-true _ _ a.0, leb-true _ _ b.0, leb-true _ _ c.0, eqb-true _ _ d.0, once_told s.own d.1)

shadow_tell : (o : Option Steps) (x : Option Stand) → ((sc : Steps) (s : Stand) → o ≡ Some sc → x ≡ Some s → FitsScript sc s) → shadow_fits o x ≡ true
shadow_tell None x h = refl
shadow_tell (Some sc) None h = refl
shadow_tell (Some sc) (Some s) h =
    let a = h sc s refl refl in
    let whole = eqb (length s.registers) 4 && stands_once s.own in
    and_from (leb s.step (length sc)) (leb (length s.reads) s.step && (leb (length s.own) s.step && whole)) (le-leb _ _ a.0)
    (and_from (leb (length s.reads) s.step) (leb (length s.own) s.step && whole) (le-leb _ _ a.1)
    (and_from (leb (length s.own) s.step) whole (le-leb _ _ a.2)
    (and_from (eqb (length s.registers) 4) (stands_once s.own) (eq-eqb _ _ a.3) (told_once s.own a.4))))

pub ok_from : (e : Engine) → SoundEngine e → Holds e
ok_from e h = record {
  sized = record { scripts = h.0.0; rows = h.0.1; places = h.0.2 };
  allowed = h.1;
  bare = h.2;
  led = h.3;
  few = h.4;
  for_open = h.5;
  scripts = λ t sc q. script-told sc (sym (ap script_fits q) ∙ h.6 t);
  shadows = λ t u sc s q k. shadow-told sc s (sym (ap (shadow_fits (Some sc)) k) ∙ sym (ap (λ o. shadow_fits o (shadow e t u)) q) ∙ h.7 t u);
}

pub sound_from : (e : Engine) → Holds e → SoundEngine e
sound_from e o = (
  (o.sized.scripts, o.sized.rows, o.sized.places),
  o.allowed,
  o.bare,
  o.led,
  o.few,
  o.for_open,
  λ t. script_tell (script_of e t) (o.scripts t),
  λ t u. shadow_tell (script_of e t) (shadow e t u) (λ sc s q k. o.shadows t u sc s q k),
)

-- the own list grows by one at most
pub length-write : (es : List WriteEntry) (p w : ℕ) → length (write es p w) ≤ suc (length es)
length-write [] p w = omega arith
length-write (e ∷ es) p w =
    let rest = length-write es p w in
    cond_both (eqb e.page p) (entry p w ∷ es) (e ∷ write es p w) (λ xs. length xs ≤ suc (suc (length es))) (λ _. omega arith) (λ _. omega arith)

module _ (pages : List ℕ) (s : Stand) where
  read_own : (a : Register) (p : ℕ) (o : Option ℕ) (t : Stand) → take_read pages s a p o ≡ moved t → length t.own ≤ suc (length s.own)
  read_own a p (Some w) t e = let x : with_register s a w ≡ t = cc in subst (λ y. length y.own ≤ suc (length s.own)) x (omega arith)
  read_own a p None t e =
      ⊎_elim
      (λ (h : ltb p (length pages) ≡ true).
      let u = with_register (recorded s p) a (get_or pages p 0) in
      let x : u ≡ t = let z = sym (cond-true (ltb p (length pages)) (moved u) (off_pages p) h) ∙ e in cc in
      subst (λ y. length y.own ≤ suc (length s.own)) x (omega arith))
      (λ (h : ltb p (length pages) ≡ false). off_moved p t (sym (cond-false (ltb p (length pages)) _ (off_pages p) h) ∙ e))
      (cases_Bool (ltb p (length pages)))

  effect-own : (eff : Effect) (t : Stand) → take_effect pages s eff ≡ moved t → length t.own ≤ suc (length s.own)
  effect-own (reading a p) t e = read_own a p (written s.own p) t e
  effect-own (writing p w) t e =
      ⊎_elim
      (λ (h : ltb p (length pages) ≡ true).
      let x : with_write s p w ≡ t = let z = sym (cond-true (ltb p (length pages)) (moved (with_write s p w)) (off_pages p) h) ∙ e in cc in
      subst (λ y. length y.own ≤ suc (length s.own)) x (length-write s.own p w))
      (λ (h : ltb p (length pages) ≡ false). off_moved p t (sym (cond-false (ltb p (length pages)) _ (off_pages p) h) ∙ e))
      (cases_Bool (ltb p (length pages)))
  effect-own (setting a w) t e = let x : with_register s a w ≡ t = cc in subst (λ y. length y.own ≤ suc (length s.own)) x (omega arith)
  effect-own (leaving n) t e =
      let x : record { step = s.step + 1 + n; registers = s.registers; reads = s.reads; own = s.own } ≡ t = cc in
      subst (λ y. length y.own ≤ suc (length s.own)) x (omega arith)

noted_one : (n : ℕ) (o : Option ℕ) → length (noted n o) ≤ 1
noted_one n None = omega arith
noted_one n (Some p) = omega arith

-- a step keeps a shadow fit
pub next_fits : (ar : Meaning) (sc : Steps) (pages : List ℕ) (s t : Stand) → EndsAtEnd sc → Next ar sc pages s t → FitsScript sc s → FitsScript sc t
next_fits ar sc pages s t ends h f =
    let x = stepped ar sc pages s t h in
    let up = x.move.rises in
    let o = store_read (slice_get sc s.step) s in
    let reads : length t.reads ≤ suc (length s.reads) = omega (arith, ap length x.move.reads, length-append s.reads (noted s.step o), noted_one s.step o) in
    let own = effect-own pages s (effect ar x.step s) t (x.move.frame pages refl (λ p e. refl)) in
    let few_reads = f.1 in
    let few_own = f.2 in
    let kept = next-fits ar sc pages s t h f.3 f.4 in
    (next-ends ar sc pages s t ends h, omega arith, omega arith, kept.0, kept.1)

start_fits : (sc : Steps) → FitsScript sc start
start_fits sc = (omega arith, omega arith, omega arith, refl, λ i j x y ne a b. none_is_some x a)

-- another shadow in a place of an open slot
module _ (e : Engine) (o : Holds e) (v u : ℕ) (v_in : v < 8) (u_in : u < 8) (sc : Steps) (script : script_of e v ≡ Some sc) (u_open : is_open e u ≡ true) (s : Stand) (f : FitsScript sc s) (room : count (set (row e v) u (Some s)) ≤ e.allowance) where
  pub put_ok : Holds (with_shadow e v u (Some s))
  put_ok =
      let e' = with_shadow e v u (Some s) in
      let now_there : shadow e' v u ≡ Some s = shadow_put e o.sized v u v_in u_in (Some s) in
      let other : (w y : ℕ) → (w ≡ v → y ≡ u → ⊥) → shadow e' w y ≡ shadow e w y = λ w y d. ⊎_elim
      (λ (q : w ≡ v). subst (λ m. shadow e' m y ≡ shadow e m y) (sym q) (shadow_put_place e o.sized v u v_in u_in (Some s) y (d q)))
      (λ (q : w ≡ v → ⊥). shadow_put_row e o.sized v u v_in u_in (Some s) w y q)
      (cases_eq w v) in
      -- the place, or another one
      let here_or : (w y : ℕ) → ((w ≡ v) × (y ≡ u)) ⊎ (w ≡ v → y ≡ u → ⊥) = λ w y. ⊎_elim (λ (q : w ≡ v). ⊎_elim (λ (p : y ≡ u). inl (q, p)) (λ (p : y ≡ u → ⊥). inr (λ _ z. p z)) (cases_eq y u)) (λ (q : w ≡ v → ⊥). inr (λ z _. q z)) (cases_eq w v) in
      let at_here : (w y : ℕ) → (w ≡ v) × (y ≡ u) → shadow e' w y ≡ Some s = λ w y q. subst (λ m. shadow e' m y ≡ Some s) (sym q.0) (subst (λ m. shadow e' v m ≡ Some s) (sym q.1) now_there) in
      record {
        sized = sized_put e o.sized v u v_in u_in (Some s);
        allowed = o.allowed;
        bare = λ t w h. ⊎_elim
            (λ (q : (t ≡ v) × (w ≡ u)). absurd (true≢false (sym (ap is_some script) ∙ ap (is_open e) (sym q.0) ∙ h)))
            (λ (q : t ≡ v → w ≡ u → ⊥). ap is_some (other t w q) ∙ o.bare t w h)
            (here_or t w);
        led = λ t h. ⊎_elim (λ (q : (t ≡ v) × (t ≡ u)). ap is_some (at_here t t q)) (λ (q : t ≡ v → t ≡ u → ⊥). ap is_some (other t t q) ∙ o.led t h) (here_or t t);
        few = λ t. ⊎_elim
            (λ (q : t ≡ v). subst (λ m. count (row e' m) ≤ e.allowance) (sym q) (subst (λ cs. count cs ≤ e.allowance) (sym (row_put e o.sized v u v_in u_in (Some s))) room))
            (λ (q : t ≡ v → ⊥). subst (λ cs. count cs ≤ e.allowance) (sym (row_put_other e o.sized v u v_in u_in (Some s) t q)) (o.few t))
            (cases_eq t v);
        for_open = λ t w h. ⊎_elim (λ (q : (t ≡ v) × (w ≡ u)). ap (is_open e) q.1 ∙ u_open) (λ (q : t ≡ v → w ≡ u → ⊥). o.for_open t w (sym (ap is_some (other t w q)) ∙ h)) (here_or t w);
        scripts = o.scripts;
        shadows = λ t w z y h k. ⊎_elim
            (λ (q : (t ≡ v) × (w ≡ u)).
            let same_script : sc ≡ z = let m : Some sc ≡ Some z = sym script ∙ ap (script_of e) (sym q.0) ∙ h in cc in
            let same_stand : s ≡ y = let m : Some s ≡ Some y = sym (at_here t w q) ∙ k in cc in
            subst (λ a. FitsScript a y) same_script (subst (FitsScript sc) same_stand f))
            (λ (q : t ≡ v → w ≡ u → ⊥). o.shadows t w z y h (sym (other t w q) ∙ k))
            (here_or t w);
      }

-- accounting
account-ok : (e : Engine) → Holds e → (v u : ℕ) → is_open e v ≡ true → is_open e u ≡ true → Holds (account e v u)
account-ok e o v u v_open u_open =
    let sc = some_is (script_of e v) v_open in
    let v_in = open_within e o.sized v v_open in
    let u_in = open_within e o.sized u u_open in
    cond_both (has_room e v u) (with_shadow e v u (Some (unwrap_or (furthest_of (clean e u) v (row e v)) start))) e Holds
    (λ h. put_ok e o v u v_in u_in sc.0 sc.1 u_open _ (forked sc.0 sc.1 (furthest_of (clean e u) v (row e v)) refl) (count_room e v u (o.few v) h _))
    (λ h. o)
  where
    forked : (sc : Steps) → script_of e v ≡ Some sc → (x : Option Stand) → furthest_of (clean e u) v (row e v) ≡ x → FitsScript sc (unwrap_or x start)
    forked sc h None q = start_fits sc
    forked sc h (Some s) q = let a = furthest_of_among (clean e u) v (row e v) s q in o.shadows v a.0 sc s h a.1

-- accounting leaves leading shadows and scripts
account_lead : (e : Engine) → Holds e → (v u : ℕ) → u ≢ v → is_open e v ≡ true → is_open e u ≡ true → (w : ℕ) → shadow (account e v u) w w ≡ shadow e w w
account_lead e o v u ne v_open u_open w =
    let v_in = open_within e o.sized v v_open in
    let u_in = open_within e o.sized u u_open in
    cond_both (has_room e v u) (with_shadow e v u (Some (unwrap_or (furthest_of (clean e u) v (row e v)) start))) e (λ z. shadow z w w ≡ shadow e w w)
    (λ h. ⊎_elim
    (λ (q : w ≡ v). let apart : w ≢ u = λ z. ne (sym z ∙ q) in subst (λ m. shadow (with_shadow e v u (Some (unwrap_or (furthest_of (clean e u) v (row e v)) start))) m w ≡ shadow e m w) (sym q) (shadow_put_place e o.sized v u v_in u_in (Some (unwrap_or (furthest_of (clean e u) v (row e v)) start)) w apart))
    (λ (q : w ≡ v → ⊥). shadow_put_row e o.sized v u v_in u_in (Some (unwrap_or (furthest_of (clean e u) v (row e v)) start)) w w q)
    (cases_eq w v))
    (λ h. refl)

-- what accounting keeps, over a list of slots
pub record Stays (e e' : Engine) : Type 0 where
  pub ok : Holds e'
  pub leads : (w : ℕ) → shadow e' w w ≡ shadow e w w
  pub scripts : e'.scripts ≡ e.scripts

pub stays_same : (e : Engine) → Holds e → Stays e e
stays_same e o = record { ok = o; leads = λ w. refl; scripts = refl }

pub stays_then : (e e₁ e₂ : Engine) → Stays e e₁ → Stays e₁ e₂ → Stays e e₂
stays_then e e₁ e₂ a b = record { ok = b.ok; leads = λ w. b.leads w ∙ a.leads w; scripts = b.scripts ∙ a.scripts }

accounted_stays : (e : Engine) → Holds e → (v u : ℕ) → u ≢ v → is_open e v ≡ true → is_open e u ≡ true → Stays e (account e v u)
accounted_stays e o v u ne v_open u_open = record { ok = account-ok e o v u v_open u_open; leads = account_lead e o v u ne v_open u_open; scripts = account-scripts e v u }

pub reads_stay : (us : List ℕ) (e : Engine) (t p : ℕ) → Holds e → is_open e t ≡ true → Stays e (account_reads e t p us)
reads_stay [] e t p o t_open = stays_same e o
reads_stay (u ∷ us) e t p o t_open =
    let one : Stays e (account_read e t p u) = cond_both (read_conflict e t p u) (account e t u) e (Stays e)
    (λ h.
    let a = and_parts (not (eqb u t)) _ h in
    let b = and_parts (is_open e u) _ a.1 in
    accounted_stays e o t u (eqb-false u t (not-true (eqb u t) a.0)) t_open b.0)
    (λ h. stays_same e o) in
    stays_then e (account_read e t p u) _ one (reads_stay us (account_read e t p u) t p one.ok (open_kept e (account_read e t p u) t one.scripts t_open))

pub writes_stay : (vs : List ℕ) (e : Engine) (t p : ℕ) → Holds e → is_open e t ≡ true → Stays e (account_writes e t p vs)
writes_stay [] e t p o t_open = stays_same e o
writes_stay (v ∷ vs) e t p o t_open =
    let one : Stays e (account_write e t p v) = cond_both (write_conflict e t p v) (account e v t) e (Stays e)
    (λ h.
    let a = and_parts (not (eqb v t)) _ h in
    let b = and_parts (is_open e v) _ a.1 in
    accounted_stays e o v t (λ z. eqb-false v t (not-true (eqb v t) a.0) (sym z)) b.0 t_open)
    (λ h. stays_same e o) in
    stays_then e (account_write e t p v) _ one (writes_stay vs (account_write e t p v) t p one.ok (open_kept e (account_write e t p v) t one.scripts t_open))

pub before_stays : (e : Engine) (t : ℕ) (sr : Option ℕ) → Holds e → is_open e t ≡ true → Stays e (before_step e t sr)
before_stays e t None o t_open = stays_same e o
before_stays e t (Some p) o t_open = reads_stay slots e t p o t_open

after_stays : (e : Engine) (t : ℕ) (wr : Option ℕ) → Holds e → is_open e t ≡ true → Stays e (after_step e t wr)
after_stays e t None o t_open = stays_same e o
after_stays e t (Some p) o t_open = writes_stay slots e t p o t_open

-- a shadow of an open slot moves
moves-ok : (ar : Meaning) (pages : List ℕ) (e : Engine) → Holds e → (t u : ℕ) (sc : Steps) (s to : Stand) → script_of e t ≡ Some sc → shadow e t u ≡ Some s → Next ar sc pages s to → Holds (shadow_moves e t u sc s to)
moves-ok ar pages e o t u sc s to script h step =
    let fits = next_fits ar sc pages s to (o.scripts t sc script).1 step (o.shadows t u sc s script h) in
    let t_open : is_open e t ≡ true = ap is_some script in
    let in_both = shadow-within e o.sized t u s h in
    cond_both (eqb u t) (lead_moves e t sc s to) (with_shadow e t u (Some to)) Holds
    (λ q.
    let same : u ≡ t = eqb-true u t q in
    let sr = store_read (slice_get sc s.step) s in
    let b = before_stays e t sr o t_open in
    let e₁ = before_step e t sr in
    let script₁ : script_of e₁ t ≡ Some sc = ap (λ xs. get_or xs t None) b.scripts ∙ script in
    let lead₁ : shadow e₁ t t ≡ Some s = b.leads t ∙ ap (shadow e t) (sym same) ∙ h in
    let moved_ok = put_ok e₁ b.ok t t in_both.0 in_both.0 sc script₁ (ap is_some script₁) to fits (let few = b.ok.few t in omega (arith, count_set (row e₁ t) t s to lead₁)) in
    (after_stays (with_shadow e₁ t t (Some to)) t (write_of (slice_get sc s.step) s) moved_ok (ap is_some script₁)).ok)
    (λ q. put_ok e o t u in_both.0 in_both.1 sc script (o.for_open t u (ap is_some h)) to fits (let few = o.few t in omega (arith, count_set (row e t) u s to h)))

-- a commit of any list, over any pages
committed-ok : (e : Engine) → Holds e → (t : ℕ) → t < 8 → (own : List WriteEntry) → Holds (committed e t own)
committed-ok e o t t_in own = record {
  sized = committed-sized e z t t_in own;
  allowed = o.allowed;
  bare = λ v u h. ⊎_elim
      (λ (q : v ≡ t). ap is_some (ap (λ w. shadow e' w u) q ∙ none_of e z t t_in own u))
      (λ (q : v ≡ t → ⊥).
      let was : is_open e v ≡ false = sym (ap is_some (script_other e z t t_in own v q)) ∙ h in
      let gone : (w : ℕ) → shadow e v w ≡ None = λ w. none_is (shadow e v w) (o.bare v w was) in
      ap is_some (⊎_elim
      (λ (d : u ≡ v). ap (shadow e' v) d ∙ lead_none e z t t_in own v q (gone v))
      (λ (d : u ≡ v → ⊥). ⊎_elim (λ (w : u ≡ t). ap (shadow e' v) w ∙ none_for e z t t_in own v q) (λ (w : u ≡ t → ⊥). others_kept e z t t_in own v u q w d ∙ ap (kept own) (gone u)) (cases_eq u t))
      (cases_eq u v)))
      (cases_eq v t);
  led = λ v h. let ne = still_open v h in let l = was_led v ne h in ap is_some (new_lead v ne l.0 l.1).1.0;
  few = λ v. let a = committed-count e z t t_in own v in let b = o.few v in omega arith;
  for_open = λ v u h. let s = some_is (shadow e' v u) h in let w = was_there v u s.0 s.1 in ap is_some (script_other e z t t_in own u w.1) ∙ w.3;
  scripts = λ v sc h. o.scripts v sc (sym (script_other e z t t_in own v (still_open v (ap is_some h))) ∙ h);
  shadows = λ v u sc s h k.
      let ne = still_open v (ap is_some h) in
      let was : script_of e v ≡ Some sc = sym (script_other e z t t_in own v ne) ∙ h in
      ⊎_elim
      (λ (d : u ≡ v).
      let l = was_led v ne (ap is_some h) in
      let n = new_lead v ne l.0 l.1 in
      let same : n.0 ≡ s = let m : Some n.0 ≡ Some s = sym n.1.0 ∙ ap (shadow e' v) (sym d) ∙ k in cc in
      subst (FitsScript sc) same (n.1.1 sc was))
      (λ (d : u ≡ v → ⊥). let w = old v u s ne d k in o.shadows v u sc s was w.1)
      (cases_eq u v);
}
  where
    z : Sized e
    z = o.sized

    e' : Engine
    e' = committed e t own

    still_open : (v : ℕ) → is_open (committed e t own) v ≡ true → v ≢ t
    still_open v h q = true≢false (sym h ∙ ap (λ w. is_open (committed e t own) w) q ∙ ap is_some (script-there e o.sized t t_in own))

    was_led : (v : ℕ) → v ≢ t → is_open (committed e t own) v ≡ true → (l : Stand) × (shadow e v v ≡ Some l)
    was_led v ne h = some_is (shadow e v v) (o.led v (sym (ap is_some (script_other e o.sized t t_in own v ne)) ∙ h))

    -- the leading shadow after it is one from before, or a start
    new_lead : (v : ℕ) → v ≢ t → (l : Stand) → shadow e v v ≡ Some l → (x : Stand) × ((shadow (committed e t own) v v ≡ Some x) × ((sc : Steps) → script_of e v ≡ Some sc → FitsScript sc x))
    new_lead v ne l h =
        ⊎_elim
        (λ (read : has_read_any l.reads own ≡ true). by read (furthest_of any_shadow v (remaining own (row e v))) refl)
        (λ (unread : has_read_any l.reads own ≡ false). (l, (lead_stays e o.sized t t_in own v l ne h unread, λ sc q. o.shadows v v sc l q h)))
        (cases_Bool (has_read_any l.reads own))
      where
        by : has_read_any l.reads own ≡ true → (x : Option Stand) → furthest_of any_shadow v (remaining own (row e v)) ≡ x → (x : Stand) × ((shadow (committed e t own) v v ≡ Some x) × ((sc : Steps) → script_of e v ≡ Some sc → FitsScript sc x))
        by read None q = (start, (lead_renewed e o.sized t t_in own v l ne h read ∙ ap (λ y. Some (unwrap_or y start)) q, λ sc k. start_fits sc))
        by read (Some x) q =
            let a = furthest_of_among any_shadow v (remaining own (row e v)) x q in
            let was = kept_was own (shadow e v a.0) x (sym (get_or-map (kept own) (row e v) a.0 None) ∙ a.1) in
            (x, (lead_renewed e o.sized t t_in own v l ne h read ∙ ap (λ y. Some (unwrap_or y start)) q, λ sc k. o.shadows v a.0 sc x k was.0))

    old : (v u : ℕ) (s : Stand) → v ≢ t → u ≢ v → shadow (committed e t own) v u ≡ Some s → (u ≢ t) × (shadow e v u ≡ Some s)
    old v u s ne d h =
        ⊎_elim
        (λ (q : u ≡ t). none_is_some s (sym (none_for e o.sized t t_in own v ne) ∙ ap (shadow (committed e t own) v) (sym q) ∙ h))
        (λ (q : u ≡ t → ⊥). (q, (kept_was own (shadow e v u) s (sym (others_kept e o.sized t t_in own v u ne q d) ∙ h)).0))
        (cases_eq u t)

    was_there : (v u : ℕ) (s : Stand) → shadow (committed e t own) v u ≡ Some s → (v ≢ t) × (u ≢ t) × (is_some (shadow e v u) ≡ true) × (is_open e u ≡ true)
    was_there v u s h =
        let ne : v ≢ t = λ q. none_is_some {A = ⊥} s (sym (none_of e o.sized t t_in own u) ∙ ap (λ w. shadow (committed e t own) w u) (sym q) ∙ h) in
        ⊎_elim
        (λ (d : u ≡ v).
        let u_ne : u ≢ t = λ q. ne (sym d ∙ q) in
        ⊎_elim
        (λ (l : (x : Stand) × (shadow e v v ≡ Some x)). (ne, u_ne, ap is_some (ap (shadow e v) d ∙ l.1), ap (is_open e) d ∙ o.for_open v v (ap is_some l.1)))
        (λ (l : shadow e v v ≡ None). none_is_some s (sym (lead_none e o.sized t t_in own v ne l) ∙ ap (shadow (committed e t own) v) (sym d) ∙ h))
        (some_or_none (shadow e v v)))
        (λ (d : u ≡ v → ⊥). let w = old v u s ne d h in (ne, w.0, ap is_some w.1, o.for_open v u (ap is_some w.1)))
        (cases_eq u v)

-- begin
module _ (e : Engine) (o : Holds e) (t : ℕ) (t_in : t < 8) (free : is_open e t ≡ false) (sc : Steps) (fit : (length sc ≤ 16) × EndsAtEnd sc) where
  so : BegunSo e t sc
  so = begun-so e o.sized t t_in sc

  -- every other place is as it was
  place_then : (v u : ℕ) → (v ≡ t → u ≡ t → ⊥) → shadow (begun e t sc) v u ≡ shadow e v u
  place_then v u d =
      ⊎_elim
      (λ (q : v ≡ t). subst (λ m. shadow (begun e t sc) m u ≡ shadow e m u) (sym q) (so.place_other u (d q)))
      (λ (q : v ≡ t → ⊥). so.shadow_other v u q)
      (cases_eq v t)

  here_or : (v u : ℕ) → ((v ≡ t) × (u ≡ t)) ⊎ (v ≡ t → u ≡ t → ⊥)
  here_or v u = ⊎_elim (λ (q : v ≡ t). ⊎_elim (λ (p : u ≡ t). inl (q, p)) (λ (p : u ≡ t → ⊥). inr (λ _ z. p z)) (cases_eq u t)) (λ (q : v ≡ t → ⊥). inr (λ z _. q z)) (cases_eq v t)

  at_here : (v u : ℕ) → (v ≡ t) × (u ≡ t) → shadow (begun e t sc) v u ≡ Some start
  at_here v u q = subst (λ m. shadow (begun e t sc) m u ≡ Some start) (sym q.0) (subst (λ m. shadow (begun e t sc) t m ≡ Some start) (sym q.1) so.lead_now)

  open_then : (u : ℕ) → is_open e u ≡ true → is_open (begun e t sc) u ≡ true
  open_then u h = ⊎_elim (λ (q : u ≡ t). ap (is_open (begun e t sc)) q ∙ ap is_some so.script_now) (λ (q : u ≡ t → ⊥). ap is_some (so.script_other u q) ∙ h) (cases_eq u t)

  begun_ok : Holds (begun e t sc)
  begun_ok = record {
    sized = so.sized;
    allowed = o.allowed;
    bare = λ v u h.
        let ne : v ≢ t = λ q. true≢false (sym (ap is_some so.script_now) ∙ ap (is_open (begun e t sc)) (sym q) ∙ h) in
        ap is_some (place_then v u (λ q _. ne q)) ∙ o.bare v u (sym (ap is_some (so.script_other v ne)) ∙ h);
    led = λ v h. ⊎_elim
        (λ (q : (v ≡ t) × (v ≡ t)). ap is_some (at_here v v q))
        (λ (q : v ≡ t → v ≡ t → ⊥). let ne : v ≢ t = λ z. q z z in ap is_some (place_then v v q) ∙ o.led v (sym (ap is_some (so.script_other v ne)) ∙ h))
        (here_or v v);
    few = λ v. ⊎_elim
        (λ (q : v ≡ t). subst (λ m. count (row (begun e t sc) m) ≤ e.allowance) (sym q) (subst (λ cs. count cs ≤ e.allowance) (sym so.row_now)
        (let a = count_add (row e t) t start in let b = count_none (row e t) (λ u. none_is (shadow e t u) (o.bare t u free)) in let c = o.allowed.0 in omega arith)))
        (λ (q : v ≡ t → ⊥). subst (λ cs. count cs ≤ e.allowance) (sym (so.row_other v q)) (o.few v))
        (cases_eq v t);
    for_open = λ v u h. ⊎_elim
        (λ (q : (v ≡ t) × (u ≡ t)). ap (is_open (begun e t sc)) q.1 ∙ ap is_some so.script_now)
        (λ (q : v ≡ t → u ≡ t → ⊥). open_then u (o.for_open v u (sym (ap is_some (place_then v u q)) ∙ h)))
        (here_or v u);
    scripts = λ v z h. ⊎_elim
        (λ (q : v ≡ t). let same : sc ≡ z = let m : Some sc ≡ Some z = sym so.script_now ∙ ap (script_of (begun e t sc)) (sym q) ∙ h in cc in subst (λ a. (length a ≤ 16) × EndsAtEnd a) same fit)
        (λ (q : v ≡ t → ⊥). o.scripts v z (sym (so.script_other v q) ∙ h))
        (cases_eq v t);
    shadows = λ v u z s h k. ⊎_elim
        (λ (q : (v ≡ t) × (u ≡ t)). let same : start ≡ s = let m : Some start ≡ Some s = sym (at_here v u q) ∙ k in cc in subst (FitsScript z) same (start_fits z))
        (λ (q : v ≡ t → u ≡ t → ⊥). ⊎_elim
        (λ (w : v ≡ t). none_is_some s (sym (none_is (shadow e v u) (o.bare v u (ap (is_open e) w ∙ free))) ∙ sym (place_then v u q) ∙ k))
        (λ (w : v ≡ t → ⊥). o.shadows v u z s (sym (so.script_other v w) ∙ h) (sym (place_then v u q) ∙ k))
        (cases_eq v t))
        (here_or v u);
  }

-- every call
module _ (ar : Meaning) where
  abbrev Keeps : Done → Type 0
  Keeps d = Holds d.0.engine

  allowed_keeps : (s : State) (k : ℕ) → Holds s.engine → (1 ≤ k) × (k ≤ 8) → first_open 0 s.engine.scripts ≡ None → Holds (record s.engine { allowance = k })
  allowed_keeps s k o within h =
      let closed_all : (t : ℕ) → is_open s.engine t ≡ false = λ t. ap is_some (none_open ar 0 s.engine.scripts h t) in
      record {
        sized = record { scripts = o.sized.scripts; rows = o.sized.rows; places = o.sized.places };
        allowed = within;
        bare = o.bare;
        led = o.led;
        few = λ t. omega (arith, count_none (row s.engine t) (λ u. none_is (shadow s.engine t u) (o.bare t u (closed_all t))));
        for_open = o.for_open;
        scripts = o.scripts;
        shadows = o.shadows;
      }

  begun-keeps : (s : State) (t : ℕ) (bytes : List ℕ) → Holds s.engine → t < 8 → is_open s.engine t ≡ false → (sc : Steps) → decoded bytes ≡ Ok sc → Holds (begun s.engine t sc)
  begun-keeps s t bytes o t_in free sc h =
      let d = subst (Decodes bytes) h (decodes bytes) in
      let few = (fit_facts bytes d.0).few in
      let long : length sc ≡ _ = d.1 in
      begun_ok s.engine o t t_in free sc (omega arith, d.3)

  does-holds : (c : Call) (s : State) → Holds s.engine → Keeps (does ar c s)
  does-holds (set_allowance k) s o = allows-opened s Keeps k (λ _. o) (λ _ _ _ _. o) (λ low high h. allowed_keeps s k o (low, high) h)
  does-holds (begin t bytes) s o = begins-opened s Keeps t bytes (λ _. o) (λ _ _. o) (λ _ _ _ _. o) (λ t_in free sc h. begun-keeps s t bytes o t_in free sc h)
  does-holds (turn t u) s o = turns-opened s Keeps ar t u (λ _. o) (λ _ _. o) (λ _ _ _. o) (λ _ _ _ _ _. o)
      (λ _ _ sc script at h. turn-found s Keeps ar t u sc at (λ _. o) (λ _. o) (λ _ _. o) (λ _ _ _. o) (λ _ to step. moves-ok ar s.pages s.engine o t u sc at to script h step))
  does-holds (commit t) s o = commits-opened s Keeps t (λ _. o) (λ _ _. o) (λ _ _ _ _. o) (λ _ _ _ _ _ _. o) (λ _ _ _ _ _ _ _ _. o) (λ t_in _ _ lead _ _ _. committed-ok s.engine o t t_in lead.own)
  does-holds (abort t) s o = aborts-opened s Keeps t (λ _. o) (λ _ _. o) (λ t_in _. subst Holds (abort_is s.engine t) (committed-ok s.engine o t t_in []))

  pub does-sound : (c : Call) (s : State) → SoundEngine s.engine → SoundEngine (does ar c s).0.engine
  does-sound c s h = sound_from (does ar c s).0.engine (does-holds c s (ok_from s.engine h))

-- a fresh engine
fresh_holds : Holds fresh_engine
fresh_holds =
    let g = fresh_good (λ op a b. 0) [] in
    let script : (t : ℕ) → script_of fresh_engine t ≡ None = λ t. nothing_at 8 t in
    record {
      sized = g.sized;
      allowed = g.allowed;
      bare = λ t u h. ap is_some ((g.rows t).bare (script t) u);
      led = λ t h. absurd (true≢false (sym h ∙ ap is_some (script t)));
      few = λ t. (g.rows t).few;
      for_open = λ t u h. absurd (true≢false (sym h ∙ ap is_some ((g.rows t).bare (script t) u)));
      scripts = λ t sc h. none_is_some sc (sym (script t) ∙ h);
      shadows = λ t u sc s h k. none_is_some sc (sym (script t) ∙ h);
    }

pub fresh-sound : SoundEngine fresh_engine
fresh-sound = sound_from fresh_engine fresh_holds

-- every shadow stands so that the words of a step fix it
pub shadows_stand_so : ShadowsStandSo
shadows_stand_so e t u s sound h =
    let o = ok_from e sound in
    ⊎_elim
    (λ (q : is_open e t ≡ true). let sc = some_is (script_of e t) q in let f = o.shadows t u sc.0 s sc.1 h in (f.3, f.4))
    (λ (q : is_open e t ≡ false). none_is_some s (sym (none_is (shadow e t u) (o.bare t u q)) ∙ h))
    (cases_Bool (is_open e t))
