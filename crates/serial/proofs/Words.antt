-- The rules do what is said of them in words. Assumes nothing.
use Rattle.std.proofs.Common.{◌≡◌, ℕ, zero, suc, ◌<◌, true, not, ◌||◌, eqb, ltb, ◌≢◌, ◌⊎◌, List, [], ◌∷◌, length, get_or, is_some, Some, None, Ok, Err, Option, unwrap_or, sym, refl, ap, ◌∙◌, subst, inl, inr, ⊎_elim, arith}
use Rattle.std.specs.List.{slice_get}
use Rattle.std.proofs.lemmas.Bool.{cases_eq, cond-true, cond-false, cond_both, and_parts, or_cases, or_left, or_right, lt-ltb, or_from, le-ltb, eqb-true, eqb-false, not-true, not-false, not_from_false, false_from_ne_true}
use Rattle.pages.specs.declared.WriteEntry.{WriteEntry}
use Rattle.script.specs.declared.Register.TheVariants.{R0}
use Rattle.serial.specs.declared.fault.CallFault.{CallFault}
use Rattle.serial.specs.declared.fault.Turned.TheVariants.{Moved, Ended, Waiting}
use Rattle.serial.specs.declared.fault.Accepted.{Accepted}
use Rattle.serial.specs.declared.fault.Accepted.TheVariants.{Allowed, Begun, Took, Committed, Aborted}
use Rattle.serial.specs.Machine.{Meaning, Steps, Stand, start, holds, moved, store_read, write_of, has_read, has_written, has_read_any}
use Rattle.serial.specs.Alone.{next}
use Rattle.serial.specs.Rules.{Engine, State, Done, slots, script_of, is_open, row, shadow, with_shadow, reads_of, own_of, lead_writes, furthest_of, any_shadow, clean, count, has_room, account, read_conflict, account_read, account_reads, write_conflict, account_write, account_writes, before_step, after_step, lead_moves, shadow_moves, begun, kept, remaining, closed, committed, Call, set_allowance, begin, turn, commit, abort, does}
use Rattle.serial.specs.Words.{Furthest, FurthestOrStart, SetsShadow, AccountsFor, SlotBySlot, DueBeforeRead, DueAfterWrite, LeadMoves, ShadowMoves, Closes, unread, Commits, Aborts, Opens, AccountsInWords, AccountedFor, TurnsChangeOnly, DeclinedChangesNothing}
use Rattle.serial.proofs.Opened.{allows-opened, begins-opened, turns-opened, turn-found, commits-opened, aborts-opened}
use Rattle.serial.proofs.Table.{none_is, some_or_none, Sized, shadow-within, shadow_put, shadow_put_place, shadow_put_row, sized_put, count_set, kept_was, kept-unread}
use Rattle.serial.proofs.Turns.{open_within, open_kept}
use Rattle.serial.proofs.Commits.{none_of, none_for, others_kept, lead_stays, lead_renewed, lead_none, committed-sized, script-there, script_other, kept_nil, abort_is}
use Rattle.serial.proofs.Conflicts.{read_any_nil}
use Rattle.serial.proofs.Calls.{begun-so}
use Rattle.serial.proofs.Sound.{ok_from, Holds, Stays, stays_same, stays_then, reads_stay, writes_stay, before_stays, put_ok, next_fits}
use Rattle.serial.proofs.Furthest.{picks_furthest, remaining-furthest, copied}
use Rattle.serial.proofs.Relations.{read_due, due_read, write_due, due_write, no_read_due, no_write_due}

-- a shadow put in its place
places : (e : Engine) → Sized e → (t u : ℕ) → t < 8 → u < 8 → (s : Stand) → SetsShadow e t u s (with_shadow e t u (Some s))
places e z t u t_in u_in s =
    let after = sized_put e z t u t_in u_in (Some s) in
    record {
      named = shadow_put e z t u t_in u_in (Some s);
      besides = λ v w d. ⊎_elim
          (λ (q : v ≡ t). subst (λ m. shadow (with_shadow e t u (Some s)) m w ≡ shadow e m w) (sym q) (shadow_put_place e z t u t_in u_in (Some s) w (d q)))
          (λ (q : v ≡ t → ⊥). shadow_put_row e z t u t_in u_in (Some s) v w q)
          (cases_eq v t);
      scripts = refl;
      allowance = refl;
      eight = (after.scripts, after.rows, after.places);
    }

-- accounting
accounts : (e : Engine) → Holds e → (t u : ℕ) → is_open e t ≡ true → is_open e u ≡ true → AccountsFor e t u (account e t u)
accounts e o t u t_open u_open =
    let copy = unwrap_or (furthest_of (clean e u) t (row e t)) start in
    record {
      room = λ h.
          let fits : has_room e t u ≡ true = ⊎_elim
          (λ (a : is_some (shadow e t u) ≡ true). or_left (is_some (shadow e t u)) (ltb (count (row e t)) e.allowance) a)
          (λ (a : count (row e t) < e.allowance). or_right (is_some (shadow e t u)) (ltb (count (row e t)) e.allowance) (lt-ltb (count (row e t)) e.allowance a))
          h in (
            copy,
            copied (clean e u) t (row e t),
            subst (SetsShadow e t u copy) (sym (cond-true (has_room e t u) (with_shadow e t u (Some copy)) e fits)) (places e o.sized t u (open_within e o.sized t t_open) (open_within e o.sized u u_open) copy),
          );
      no_room = λ lacks full. cond-false (has_room e t u) (with_shadow e t u (Some copy)) e (or_from (is_some (shadow e t u)) (ltb (count (row e t)) e.allowance) (ap is_some lacks) (le-ltb (count (row e t)) e.allowance full));
    }

pub accounts_in_words : AccountsInWords
accounts_in_words e t u sound t_open u_open = accounts e (ok_from e sound) t u t_open u_open

-- accounting before a read, slot by slot: what the rule has made of the first n slots
module _ (t p : ℕ) where
  abbrev read_stage : Engine → ℕ → Engine
  read_stage e zero = e
  read_stage e (suc n) = account_read (read_stage e n) t p n

  read_stays : (e : Engine) → Holds e → is_open e t ≡ true → (n : ℕ) → Stays e (read_stage e n)
  read_stays e o t_open zero = stays_same e o
  read_stays e o t_open (suc n) =
      let x = read_stays e o t_open n in
      stays_then e (read_stage e n) _ x (reads_stay (n ∷ []) (read_stage e n) t p x.ok (open_kept e (read_stage e n) t x.scripts t_open))

  slots_read : (e : Engine) → Holds e → is_open e t ≡ true → SlotBySlot (DueBeforeRead t (Some p)) (λ a u b. AccountsFor a t u b) e (account_reads e t p slots)
  slots_read e o t_open = record {
    stage = read_stage e;
    first = refl;
    last = refl;
    due = λ u l d.
        let x = read_stays e o t_open u in
        let now = read_stage e u in
        subst (AccountsFor now t u) (sym (cond-true (read_conflict now t p u) (account now t u) now (due_read now t p u d))) (accounts now x.ok t u (open_kept e now t x.scripts t_open) d.opened);
    spared = λ u l n.
        let now = read_stage e u in
        cond-false (read_conflict now t p u) (account now t u) now (false_from_ne_true (read_conflict now t p u) (λ h. n (read_due now t p u h)));
  }

  -- and after a write
  abbrev write_stage : Engine → ℕ → Engine
  write_stage e zero = e
  write_stage e (suc n) = account_write (write_stage e n) t p n

  write_stays : (e : Engine) → Holds e → is_open e t ≡ true → (n : ℕ) → Stays e (write_stage e n)
  write_stays e o t_open zero = stays_same e o
  write_stays e o t_open (suc n) =
      let x = write_stays e o t_open n in
      stays_then e (write_stage e n) _ x (writes_stay (n ∷ []) (write_stage e n) t p x.ok (open_kept e (write_stage e n) t x.scripts t_open))

  slots_written : (e : Engine) → Holds e → is_open e t ≡ true → SlotBySlot (DueAfterWrite t (Some p)) (λ a v b. AccountsFor a v t b) e (account_writes e t p slots)
  slots_written e o t_open = record {
    stage = write_stage e;
    first = refl;
    last = refl;
    due = λ v l d.
        let x = write_stays e o t_open v in
        let now = write_stage e v in
        subst (AccountsFor now v t) (sym (cond-true (write_conflict now t p v) (account now v t) now (due_write now t p v d))) (accounts now x.ok v t d.opened (open_kept e now t x.scripts t_open));
    spared = λ v l n.
        let now = write_stage e v in
        cond-false (write_conflict now t p v) (account now v t) now (false_from_ne_true (write_conflict now t p v) (λ h. n (write_due now t p v h)));
  }

before_slots : (e : Engine) (t : ℕ) (read : Option ℕ) → Holds e → is_open e t ≡ true → SlotBySlot (DueBeforeRead t read) (λ a u b. AccountsFor a t u b) e (before_step e t read)
before_slots e t None o t_open = record { stage = λ n. e; first = refl; last = refl; due = λ u l d. absurd (no_read_due t e u d); spared = λ u l n. refl }
before_slots e t (Some p) o t_open = slots_read t p e o t_open

after_slots : (e : Engine) (t : ℕ) (write : Option ℕ) → Holds e → is_open e t ≡ true → SlotBySlot (DueAfterWrite t write) (λ a v b. AccountsFor a v t b) e (after_step e t write)
after_slots e t None o t_open = record { stage = λ n. e; first = refl; last = refl; due = λ v l d. absurd (no_write_due t e v d); spared = λ v l n. refl }
after_slots e t (Some p) o t_open = slots_written t p e o t_open

-- the engine in which a leading shadow has taken its step and no slot has accounted for it yet
module _ (ar : Meaning) (st : State) (o : Holds st.engine) (t : ℕ) (sc : Steps) (s to : Stand) (script : script_of st.engine t ≡ Some sc) (lead : shadow st.engine t t ≡ Some s) (step : next ar sc st.pages s ≡ Some (moved to)) where
  abbrev read_before : Option ℕ
  read_before = store_read (slice_get sc s.step) s

  abbrev written_then : Option ℕ
  written_then = write_of (slice_get sc s.step) s

  abbrev ready : Engine
  ready = before_step st.engine t read_before

  abbrev stepped : Engine
  stepped = with_shadow ready t t (Some to)

  lead_open : is_open st.engine t ≡ true
  lead_open = ap is_some script

  lead_in : t < 8
  lead_in = open_within st.engine o.sized t lead_open

  ready_stays : Stays st.engine ready
  ready_stays = before_stays st.engine t read_before o lead_open

  script_then : script_of ready t ≡ Some sc
  script_then = ap (λ xs. get_or xs t None) ready_stays.scripts ∙ script

  stepped_ok : Holds stepped
  stepped_ok =
      let b = ready_stays in
      let fits = next_fits ar sc st.pages s to (o.scripts t sc script).1 step (o.shadows t t sc s script lead) in
      put_ok ready b.ok t t lead_in lead_in sc script_then (ap is_some script_then) to fits (let few = b.ok.few t in omega (arith, count_set (row ready t) t s to (b.leads t ∙ lead)))

  pub lead_so : LeadMoves st.engine t read_before written_then to (lead_moves st.engine t sc s to)
  lead_so = record {
    accounted = ready;
    stepped = stepped;
    before = before_slots st.engine t read_before o lead_open;
    step = places ready ready_stays.ok.sized t t lead_in lead_in to;
    after = after_slots stepped t written_then stepped_ok (ap is_some script_then);
  }

pub moves_so : (ar : Meaning) (st : State) → Holds st.engine → (t u : ℕ) (sc : Steps) (s to : Stand) → script_of st.engine t ≡ Some sc → shadow st.engine t u ≡ Some s → next ar sc st.pages s ≡ Some (moved to) → ShadowMoves st.engine t u sc s to (shadow_moves st.engine t u sc s to)
moves_so ar st o t u sc s to script h step =
    cond_both (eqb u t) (lead_moves st.engine t sc s to) (with_shadow st.engine t u (Some to)) (ShadowMoves st.engine t u sc s to)
    (λ q. let same = eqb-true u t q in record { leading = λ z. lead_so ar st o t sc s to script (ap (shadow st.engine t) (sym same) ∙ h) step; other = λ z. absurd (z same) })
    (λ q. let in_both = shadow-within st.engine o.sized t u s h in record { leading = λ z. absurd (eqb-false u t q z); other = λ z. places st.engine o.sized t u in_both.0 in_both.1 to })

-- a commit of any list
closes_so : (e : Engine) → Holds e → (t : ℕ) → t < 8 → (own : List WriteEntry) → Closes e t (committed e t own)
closes_so e o t t_in own =
    let after = committed-sized e o.sized t t_in own in
    record {
      script = script-there e o.sized t t_in own;
      scripts = script_other e o.sized t t_in own;
      bare = none_of e o.sized t t_in own;
      none_for = λ v. ⊎_elim (λ (q : v ≡ t). ap (λ m. shadow (committed e t own) m t) q ∙ none_of e o.sized t t_in own t) (λ (q : v ≡ t → ⊥). none_for e o.sized t t_in own v q) (cases_eq v t);
      allowance = refl;
      eight = (after.scripts, after.rows, after.places);
    }

pub commits_so : (e : Engine) → Holds e → (t : ℕ) → t < 8 → (own : List WriteEntry) → Commits e t own (committed e t own)
commits_so e o t t_in own = record {
  closes = closes_so e o t t_in own;
  others = λ v u s a b d. (
    λ h. let w = kept_was own (shadow e v u) s (sym (others_kept e o.sized t t_in own v u a b d) ∙ h) in (w.0, not_from_false (has_read_any s.reads own) w.1),
    λ h. others_kept e o.sized t t_in own v u a b d ∙ ap (kept own) h.0 ∙ kept-unread own s (not-true (has_read_any s.reads own) h.1),
  );
  stays = λ v l a h r. lead_stays e o.sized t t_in own v l a h (not-true (has_read_any l.reads own) r);
  spoiled = λ v l a h r.
      leads_from v (furthest_of any_shadow v (remaining own (row e v)))
      (remaining-furthest own v (row e v) (furthest_of any_shadow v (remaining own (row e v))) (picks_furthest any_shadow v (remaining own (row e v))))
      (lead_renewed e o.sized t t_in own v l a h (not-false (has_read_any l.reads own) r));
  unled = λ v h. ⊎_elim (λ (q : v ≡ t). ap (λ m. shadow (committed e t own) m v) q ∙ none_of e o.sized t t_in own v) (λ (q : v ≡ t → ⊥). lead_none e o.sized t t_in own v q h) (cases_eq v t);
}
  where
    leads_from : (v : ℕ) (x : Option Stand) → Furthest (unread own) v (row e v) x → shadow (committed e t own) v v ≡ Some (unwrap_or x start) → (s : Stand) × FurthestOrStart (unread own) v (row e v) s × (shadow (committed e t own) v v ≡ Some s)
    leads_from v None f h = (start, inr (refl, f), h)
    leads_from v (Some s) f h = (s, inl f, h)

-- an abort is a commit of nothing
pub aborts_so : (e : Engine) → Holds e → (t : ℕ) → t < 8 → Aborts e t (closed e t e.shadows)
aborts_so e o t t_in = subst (Aborts e t) (abort_is e t) (record { closes = closes_so e o t t_in []; others = others })
  where
    others : (v u : ℕ) → v ≢ t → u ≢ t → shadow (committed e t []) v u ≡ shadow e v u
    others v u a b =
        ⊎_elim
        (λ (q : u ≡ v). subst (λ m. shadow (committed e t []) v m ≡ shadow e v m) (sym q) (⊎_elim
        (λ (l : (x : Stand) × (shadow e v v ≡ Some x)). lead_stays e o.sized t t_in [] v l.0 a l.1 (read_any_nil l.0.reads) ∙ sym l.1)
        (λ (l : shadow e v v ≡ None). lead_none e o.sized t t_in [] v a l ∙ sym l)
        (some_or_none (shadow e v v))))
        (λ (q : u ≡ v → ⊥). others_kept e o.sized t t_in [] v u a b q ∙ kept_nil (shadow e v u))
        (cases_eq u v)

pub opens_so : (e : Engine) → Holds e → (t : ℕ) → t < 8 → (sc : Steps) → Opens e t sc (begun e t sc)
opens_so e o t t_in sc =
    let so = begun-so e o.sized t t_in sc in
    record {
      runs = so.script_now;
      scripts = so.script_other;
      lead = so.lead_now;
      besides = λ v w d. ⊎_elim
          (λ (q : v ≡ t). subst (λ m. shadow (begun e t sc) m w ≡ shadow e m w) (sym q) (so.place_other w (d q)))
          (λ (q : v ≡ t → ⊥). so.shadow_other v w q)
          (cases_eq v t);
      allowance = refl;
      eight = (so.sized.scripts, so.sized.rows, so.sized.places);
    }

-- accounting changes one place at most
account_other : (e : Engine) → Holds e → (t u : ℕ) → is_open e t ≡ true → is_open e u ≡ true → (v w : ℕ) → (v ≡ t → w ≡ u → ⊥) → shadow (account e t u) v w ≡ shadow e v w
account_other e o t u t_open u_open v w d =
    let t_in = open_within e o.sized t t_open in
    let u_in = open_within e o.sized u u_open in
    let x = Some (unwrap_or (furthest_of (clean e u) t (row e t)) start) in
    cond_both (has_room e t u) (with_shadow e t u x) e (λ z. shadow z v w ≡ shadow e v w)
    (λ h. ⊎_elim
    (λ (q : v ≡ t). subst (λ m. shadow (with_shadow e t u x) m w ≡ shadow e m w) (sym q) (shadow_put_place e o.sized t u t_in u_in x w (d q)))
    (λ (q : v ≡ t → ⊥). shadow_put_row e o.sized t u t_in u_in x v w q)
    (cases_eq v t))
    (λ h. refl)

-- what accounting before a read changes
reads-besides : (us : List ℕ) (e : Engine) (t p : ℕ) → Holds e → is_open e t ≡ true → (v w : ℕ)
    → ((v ≡ t) → (w ≢ t) → is_open e w ≡ true → shadow e t w ≡ None → has_written (lead_writes e w) p ≡ true → ⊥) → shadow (account_reads e t p us) v w ≡ shadow e v w
reads-besides [] e t p o t_open v w d = refl
reads-besides (u ∷ us) e t p o t_open v w d =
    let one = reads_stay (u ∷ []) e t p o t_open in
    let e₁ = account_read e t p u in
    let same : shadow e₁ v w ≡ shadow e v w = cond_both (read_conflict e t p u) (account e t u) e (λ z. shadow z v w ≡ shadow e v w)
    (λ h.
    let a = and_parts (not (eqb u t)) _ h in
    let b = and_parts (is_open e u) _ a.1 in
    let c = and_parts (not (is_some (shadow e t u))) (has_written (lead_writes e u) p) b.1 in
    account_other e o t u t_open b.0 v w (λ q r.
    let ne : w ≢ t = λ z. eqb-false u t (not-true (eqb u t) a.0) (sym r ∙ z) in
    d q ne (ap (is_open e) r ∙ b.0) (ap (shadow e t) r ∙ none_is (shadow e t u) (not-true (is_some (shadow e t u)) c.0)) (ap (λ m. has_written (lead_writes e m) p) r ∙ c.1)))
    (λ h. refl) in
    reads-besides us e₁ t p one.ok (open_kept e e₁ t one.scripts t_open) v w
    (λ q ne w_open gone wrote. d q ne (open_kept e₁ e w (sym one.scripts) w_open) (subst (λ m. shadow e m w ≡ None) q (sym same ∙ subst (λ m. shadow e₁ m w ≡ None) (sym q) gone)) (ap (λ z. has_written (own_of z) p) (sym (one.leads w)) ∙ wrote))
    ∙ same

-- a slot's shadow for t is not there, or has read the page
abbrev Due : Engine → ℕ → ℕ → ℕ → Type 0
Due e t p v = (shadow e v t ≡ None) ⊎ (has_read (reads_of (shadow e v t)) p ≡ true)

writes_besides : (vs : List ℕ) (e : Engine) (t p : ℕ) → Holds e → is_open e t ≡ true → (v w : ℕ)
    → ((w ≡ t) → (v ≢ t) → is_open e v ≡ true → has_read (reads_of (shadow e v v)) p ≡ true → Due e t p v → ⊥) → shadow (account_writes e t p vs) v w ≡ shadow e v w
writes_besides [] e t p o t_open v w d = refl
writes_besides (x ∷ vs) e t p o t_open v w d =
    let one = writes_stay (x ∷ []) e t p o t_open in
    let e₁ = account_write e t p x in
    let same : shadow e₁ v w ≡ shadow e v w = cond_both (write_conflict e t p x) (account e x t) e (λ z. shadow z v w ≡ shadow e v w)
    (λ h.
    let a = and_parts (not (eqb x t)) _ h in
    let b = and_parts (is_open e x) _ a.1 in
    let c = and_parts (has_read (reads_of (shadow e x x)) p) (not (is_some (shadow e x t)) || has_read (reads_of (shadow e x t)) p) b.1 in
    let due : Due e t p x = ⊎_elim (λ (z : not (is_some (shadow e x t)) ≡ true). inl (none_is (shadow e x t) (not-true (is_some (shadow e x t)) z))) (λ (z : has_read (reads_of (shadow e x t)) p ≡ true). inr z) (or_cases (not (is_some (shadow e x t))) (has_read (reads_of (shadow e x t)) p) c.1) in
    account_other e o x t b.0 t_open v w (λ q r.
    d r (λ z. eqb-false x t (not-true (eqb x t) a.0) (sym q ∙ z)) (ap (is_open e) q ∙ b.0) (ap (λ m. has_read (reads_of (shadow e m m)) p) q ∙ c.0) (subst (Due e t p) (sym q) due)))
    (λ h. refl) in
    writes_besides vs e₁ t p one.ok (open_kept e e₁ t one.scripts t_open) v w
    (λ q ne v_open read due.
    let same_t : shadow e₁ v t ≡ shadow e v t = subst (λ m. shadow e₁ v m ≡ shadow e v m) q same in
    d q ne (open_kept e₁ e v (sym one.scripts) v_open) (ap (λ z. has_read (reads_of z) p) (sym (one.leads v)) ∙ read)
    (⊎_elim (λ (z : shadow e₁ v t ≡ None). inl (sym same_t ∙ z)) (λ (z : has_read (reads_of (shadow e₁ v t)) p ≡ true). inr (ap (λ y. has_read (reads_of y) p) (sym same_t) ∙ z)) due))
    ∙ same

before_besides : (e : Engine) (t : ℕ) (sr : Option ℕ) → Holds e → is_open e t ≡ true → (v w : ℕ)
    → ((v ≡ t) → (w ≢ t) → is_open e w ≡ true → shadow e t w ≡ None → ((p : ℕ) × (sr ≡ Some p) × (has_written (lead_writes e w) p ≡ true)) → ⊥) → shadow (before_step e t sr) v w ≡ shadow e v w
before_besides e t None o t_open v w d = refl
before_besides e t (Some p) o t_open v w d = reads-besides slots e t p o t_open v w (λ q ne w_open gone wrote. d q ne w_open gone (p, refl, wrote))

after-besides : (e : Engine) (t : ℕ) (wr : Option ℕ) → Holds e → is_open e t ≡ true → (v w : ℕ)
    → ((w ≡ t) → (v ≢ t) → is_open e v ≡ true → ((p : ℕ) × (wr ≡ Some p) × (has_read (reads_of (shadow e v v)) p ≡ true) × Due e t p v) → ⊥) → shadow (after_step e t wr) v w ≡ shadow e v w
after-besides e t None o t_open v w d = refl
after-besides e t (Some p) o t_open v w d = writes_besides slots e t p o t_open v w (λ q ne v_open read due. d q ne v_open (p, refl, read, due))

-- a turn of a leading shadow changes only places that are accounted for
leads_change : (ar : Meaning) (st : State) → Holds st.engine → (t : ℕ) (sc : Steps) (s to : Stand) → script_of st.engine t ≡ Some sc → shadow st.engine t t ≡ Some s → next ar sc st.pages s ≡ Some (moved to)
    → (v w : ℕ) → (v ≡ t → w ≢ t) → (AccountedFor st.engine t sc s v w → ⊥) → shadow (lead_moves st.engine t sc s to) v w ≡ shadow st.engine v w
leads_change ar st o t sc s to script lead step v w d free =
    let e = st.engine in
    let e₁ = ready ar st o t sc s to script lead step in
    let e₂ = stepped ar st o t sc s to script lead step in
    let b = ready_stays ar st o t sc s to script lead step in
    let put = places e₁ b.ok.sized t t (lead_in ar st o t sc s to script lead step) (lead_in ar st o t sc s to script lead step) to in
    let t_is_open = lead_open ar st o t sc s to script lead step in
    let sr = store_read (slice_get sc s.step) s in
    -- rows other than t's are as they were before the move
    let rest : (x y : ℕ) → x ≢ t → shadow e₂ x y ≡ shadow e x y = λ x y c. put.besides x y (λ q _. c q) ∙ before_besides e t sr o t_is_open x y (λ q _ _ _ _. c q) in
    after-besides e₂ t (write_of (slice_get sc s.step) s) (stepped_ok ar st o t sc s to script lead step) (ap is_some (script_then ar st o t sc s to script lead step)) v w
    (λ q ne v_open x. free (inr (
      q,
      record {
        other = ne;
        opened = open_kept e₁ e v (sym b.scripts) v_open;
        page = x.0;
        is_written = x.1;
        lead_read = ap (λ z. has_read (reads_of z) x.0) (sym (rest v v ne)) ∙ x.2;
        lacks_or_read = ⊎_elim
            (λ (z : shadow e₂ v t ≡ None). inl (sym (rest v t ne) ∙ z))
            (λ (z : has_read (reads_of (shadow e₂ v t)) x.0 ≡ true). inr (ap (λ y. has_read (reads_of y) x.0) (sym (rest v t ne)) ∙ z))
            x.3;
      },
    )))
    ∙ put.besides v w d
    ∙ before_besides e t sr o t_is_open v w (λ q ne w_open gone x. free (inl (q, record { other = ne; opened = w_open; lacks = gone; page = x.0; is_read = x.1; wrote = x.2 })))

pub turns_change_only : TurnsChangeOnly
turns_change_only ar s t u sc at sound script h v w d free =
    let o = ok_from s.engine sound in
    turns-opened s Same ar t u (λ _. refl) (λ _ _. refl) (λ _ _ _. refl) (λ _ _ _ _ _. refl)
    (λ _ _ sc' script' at' h'. turn-found s Same ar t u sc' at' (λ _. refl) (λ _. refl) (λ _ _. refl) (λ _ _ _. refl)
    (λ _ to step. went o sc' at' to script' h' step))
  where
    Same : Done → Type 0
    Same x = shadow x.0.engine v w ≡ shadow s.engine v w

    went : Holds s.engine → (sc' : Steps) (at' to : Stand) → script_of s.engine t ≡ Some sc' → shadow s.engine t u ≡ Some at' → next ar sc' s.pages at' ≡ Some (moved to) → shadow (shadow_moves s.engine t u sc' at' to) v w ≡ shadow s.engine v w
    went o sc' at' to script' h' step =
        let scripts : Some sc ≡ Some sc' = sym script ∙ script' in
        let ats : Some at ≡ Some at' = sym h ∙ h' in
        let same_script : sc ≡ sc' = cc in
        let same_at : at ≡ at' = cc in
        cond_both (eqb u t) (lead_moves s.engine t sc' at' to) (with_shadow s.engine t u (Some to)) (λ z. shadow z v w ≡ shadow s.engine v w)
        (λ k.
        let same = eqb-true u t k in
        leads_change ar s o t sc' at' to script' (ap (shadow s.engine t) (sym same) ∙ h') step v w (λ a b. d a (b ∙ sym same))
        (subst (λ z. AccountedFor s.engine t sc' z v w → ⊥) same_at (subst (λ z. AccountedFor s.engine t z at v w → ⊥) same_script (free same))))
        (λ k. let in_both = shadow-within s.engine o.sized t u at' h' in (places s.engine o.sized t u in_both.0 in_both.1 to).besides v w d)

-- a declined call changes nothing
module _ (ar : Meaning) (s : State) (f : CallFault) where
  abbrev Unchanged : Done → Type 0
  Unchanged d = d.1 ≡ Err f → d.0 ≡ s

  refused : (g : CallFault) → Unchanged (s, Err g)
  refused g e = refl

  accepted : (x : State) (how : Accepted) → Unchanged (x, Ok how)
  accepted x how e = let z : ◌≡◌ {A = ℕ} 0 1 = cc in absurd (omega arith)

  unchanged : (c : Call) → Unchanged (does ar c s)
  unchanged (set_allowance k) = allows-opened s Unchanged k (λ _. refused _) (λ _ _ _ _. refused _) (λ _ _ _. accepted _ Allowed)
  unchanged (begin t bytes) = begins-opened s Unchanged t bytes (λ _. refused _) (λ _ _. refused _) (λ _ _ _ _. refused _) (λ _ _ _ _. accepted _ Begun)
  unchanged (turn t u) = turns-opened s Unchanged ar t u (λ _. refused _) (λ _ _. refused _) (λ _ _ _. refused _) (λ _ _ _ _ _. refused _)
      (λ _ _ sc _ at _. turn-found s Unchanged ar t u sc at (λ _. accepted _ (Took Ended)) (λ _. accepted _ (Took Waiting)) (λ _ _. accepted _ (Took Ended)) (λ _ _ _. refused _) (λ _ to _. accepted _ (Took Moved)))
  unchanged (commit t) = commits-opened s Unchanged t (λ _. refused _) (λ _ _. refused _) (λ _ _ _ _. refused _) (λ _ _ _ _ _ _. refused _) (λ _ _ _ _ _ _ _ _. refused _) (λ _ _ _ lead _ _ _. accepted _ (Committed (holds lead R0) (length lead.own)))
  unchanged (abort t) = aborts-opened s Unchanged t (λ _. refused _) (λ _ _. refused _) (λ _ _. accepted _ Aborted)

pub declined_changes_nothing : DeclinedChangesNothing
declined_changes_nothing ar c s f h = unchanged ar s f c h
