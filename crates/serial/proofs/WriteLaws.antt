-- Laws of writes: a run's own list is told by the run's writes. Assumes nothing.
use Rattle.std.proofs.Common.{◌≡◌, ℕ, zero, suc, ◌+◌, ◌<◌, Bool, true, false, cond, eqb, ltb, ◌≢◌, ◌⊎◌, List, [], ◌∷◌, length, get_or, set, Some, None, Option, sym, refl, ap, ◌∙◌, subst, inl, inr, ⊎_elim, arith, length-set}
use Rattle.std.specs.List.{slice_get}
use Rattle.std.proofs.lemmas.Bool.{cases_Bool, cases_eq, cond-true, cond-false, or_cases, or_right, eqb-true, eqb-false, eq-eqb, true≢false}
use Rattle.std.proofs.lemmas.Option.{same_Some, slice_get_within, slice_get-get_or}
use Rattle.pages.specs.Pages.{entry}
use Rattle.pages.specs.declared.WriteEntry.{WriteEntry}
use Rattle.script.specs.Script.{index}
use Rattle.script.specs.declared.Register.{Register}
use Rattle.script.specs.declared.Step.{Step}
use Rattle.serial.specs.Machine.{Meaning, Steps, Stand, start, written, write, has_written, Effect, reading, writing, setting, leaving, effect, with_register, recorded, with_write, moved, off_pages, take_read, take_effect, takes}
use Rattle.serial.specs.Alone.{try_step}
use Rattle.serial.specs.Laws.{Next, Leads, here, more}
use Rattle.serial.specs.OneStep.{Once, HasFour, FourRegisters}
use Rattle.serial.specs.WriteLaws.{WritesNext, Wrote, no_step, a_write, no_write, WritesTold, IsLast, StandsOnce, StaysWritten, LastWritten, InOrder, ReadsOwnWord}
use Rattle.serial.proofs.Table.{none_is_some, some_or_none}
use Rattle.serial.proofs.Steps.{written_more, off_moved}
use Rattle.serial.proofs.Runs.{stepped, reached_later}
use Rattle.serial.proofs.Conflicts.{own_grows}
use Rattle.serial.proofs.PageLists.{stands_found, has_found, stands_told, told_stands, once_write, written-write}
use Rattle.serial.proofs.OneStep.{writes-effect, comes_to, Kind, kind, reads, writes, sets, leaves, reads-effect, sets-effect, leaves-effect}

-- the own list after an effect
abbrev own_after : List WriteEntry → Effect → List WriteEntry
own_after own (reading a p) = own
own_after own (writing p w) = write own p w
own_after own (setting a w) = own
own_after own (leaving n) = own

-- what an effect leaves: as many registers, and that list
record Left (s : Stand) (eff : Effect) (t : Stand) : Type 0 where
  as_many : length t.registers ≡ length s.registers
  own : t.own ≡ own_after s.own eff

module _ (pages : List ℕ) (s t : Stand) where
  set-left : (eff : Effect) (a : Register) (w : ℕ) (m : Stand) → own_after s.own eff ≡ s.own → m.registers ≡ set s.registers (index a) w → m.own ≡ s.own → moved m ≡ moved t → Left s eff t
  set-left eff a w m stays rs own e =
      let same : m ≡ t = cc in
      subst (Left s eff) same (record { as_many = ap length rs ∙ length-set s.registers (index a) w; own = own ∙ sym stays })

  read-left : (a : Register) (p : ℕ) (o : Option ℕ) → take_read pages s a p o ≡ moved t → Left s (reading a p) t
  read-left a p (Some w) e = set-left (reading a p) a w (with_register s a w) refl refl refl e
  read-left a p None e =
      ⊎_elim
      (λ (h : ltb p (length pages) ≡ true). set-left (reading a p) a (get_or pages p 0) (with_register (recorded s p) a (get_or pages p 0)) refl refl refl (sym (cond-true (ltb p (length pages)) _ (off_pages p) h) ∙ e))
      (λ (h : ltb p (length pages) ≡ false). off_moved p t (sym (cond-false (ltb p (length pages)) _ (off_pages p) h) ∙ e))
      (cases_Bool (ltb p (length pages)))

  left : (eff : Effect) → take_effect pages s eff ≡ moved t → Left s eff t
  left (reading a p) e = read-left a p (written s.own p) e
  left (writing p w) e =
      ⊎_elim
      (λ (h : ltb p (length pages) ≡ true).
      let same : with_write s p w ≡ t = let z = sym (cond-true (ltb p (length pages)) (moved (with_write s p w)) (off_pages p) h) ∙ e in cc in
      subst (Left s (writing p w)) same (record { as_many = refl; own = refl }))
      (λ (h : ltb p (length pages) ≡ false). off_moved p t (sym (cond-false (ltb p (length pages)) (moved (with_write s p w)) (off_pages p) h) ∙ e))
      (cases_Bool (ltb p (length pages)))
  left (setting a w) e = set-left (setting a w) a w (with_register s a w) refl refl refl e
  left (leaving n) e =
      let same : record { step = s.step + 1 + n; registers = s.registers; reads = s.reads; own = s.own } ≡ t = cc in
      subst (Left s (leaving n)) same (record { as_many = refl; own = refl })

module _ (ar : Meaning) (script : Steps) (pages : List ℕ) where
  taken_at : (s t : Stand) (st : Step) → slice_get script s.step ≡ Some st → Next ar script pages s t → takes ar pages st s ≡ moved t
  taken_at s t st at h = let e : Some (takes ar pages st s) ≡ Some (moved t) = sym (ap (try_step ar pages s) at) ∙ h in cc

  -- a step that writes
  write-next : (s t : Stand) (p w : ℕ) → Next ar script pages s t → WritesNext script s p w → t.own ≡ write s.own p w
  write-next s t p w h wn =
      let e = writes-effect ar wn.0 s p w wn.2 in
      let l = left pages s t (effect ar wn.0 s) (taken_at s t wn.0 wn.1 h) in
      l.own ∙ ap (own_after s.own) e

  -- a step that is taken writes a word, or leaves the list as it is
  record Written (s t : Stand) : Type 0 where
    page : ℕ
    word : ℕ
    next : WritesNext script s page word

  record Unwritten (s t : Stand) : Type 0 where
    none : (p w : ℕ) → WritesNext script s p w → ⊥
    own : t.own ≡ s.own

  unwritten : (s t : Stand) (st : Step) (x : Effect) → slice_get script s.step ≡ Some st → Next ar script pages s t → effect ar st s ≡ x → own_after s.own x ≡ s.own → ((p w : ℕ) → writing p w ≡ x → ⊥) → Unwritten s t
  unwritten s t st x at h e stays never = record {
    none = λ p w wn.
        let same : wn.0 ≡ st = let z : Some wn.0 ≡ Some st = sym wn.1 ∙ at in cc in
        never p w (sym (writes-effect ar wn.0 s p w wn.2) ∙ ap (λ y. effect ar y s) same ∙ e);
    own = (left pages s t (effect ar st s) (taken_at s t st at h)).own ∙ ap (own_after s.own) e ∙ stays;
  }

  writes_or_not : (s t : Stand) → Next ar script pages s t → Written s t ⊎ Unwritten s t
  writes_or_not s t h = let x = stepped ar script pages s t h in by x.step x.at (kind ar x.step s)
    where
      by : (st : Step) → slice_get script s.step ≡ Some st → Kind ar st s → Written s t ⊎ Unwritten s t
      by st at (reads a p k) = inr (unwritten s t st (reading a p) at h (reads-effect ar st s a p k) refl (λ q w z. let n : ◌≡◌ {A = ℕ} 0 1 = cc in omega arith))
      by st at (writes p w k) = inl (record { page = p; word = w; next = (st, at, k) })
      by st at (sets a w k) = inr (unwritten s t st (setting a w) at h (sets-effect ar st s a w k) refl (λ q v z. let n : ◌≡◌ {A = ℕ} 0 1 = cc in omega arith))
      by st at (leaves m k) = inr (unwritten s t st (leaving m) at h (leaves-effect ar st s m k) refl (λ q v z. let n : ◌≡◌ {A = ℕ} 0 1 = cc in omega arith))

  -- four registers and a list on which a page stands once
  pub next-fits : (s t : Stand) → Next ar script pages s t → HasFour s → Once s.own → HasFour t × Once t.own
  next-fits s t h four once =
      let x = stepped ar script pages s t h in
      let l = left pages s t (effect ar x.step s) (taken_at s t x.step x.at h) in (
        l.as_many ∙ four,
        ⊎_elim
            (λ (wr : Written s t). subst Once (sym (write-next s t wr.page wr.word h wr.next)) (once_write s.own wr.page wr.word once))
            (λ (un : Unwritten s t). subst Once (sym un.own) once)
            (writes_or_not s t h),
      )

  leads-fits : {s t : Stand} → Leads ar script pages s t → HasFour s → Once s.own → HasFour t × Once t.own
  leads-fits here four once = (four, once)
  leads-fits {s} {t} (more {t = m} h l) four once = let x = next-fits s m h four once in leads-fits l x.0 x.1

  pub run-fits : (s : Stand) → Leads ar script pages start s → HasFour s × Once s.own
  run-fits s l = leads-fits l refl (λ i j x y ne a b. none_is_some x a)

  -- every run has its writes
  pub wrote : {s t : Stand} → Leads ar script pages s t → (ws : List WriteEntry) × Wrote ar script pages s t ws
  wrote here = ([], no_step)
  wrote {s} {t} (more {t = m} h l) =
      let rest = wrote l in
      ⊎_elim
      (λ (wr : Written s m). (entry wr.page wr.word ∷ rest.0, a_write wr.page wr.word h wr.next rest.1))
      (λ (un : Unwritten s m). (rest.0, no_write h un.none rest.1))
      (writes_or_not s m h)

  pub wrote-leads : {s t : Stand} {ws : List WriteEntry} → Wrote ar script pages s t ws → Leads ar script pages s t
  wrote-leads no_step = here
  wrote-leads (a_write p w h wn rest) = more h (wrote-leads rest)
  wrote-leads (no_write h none rest) = more h (wrote-leads rest)

-- the last word for a page among writes, where there is one
abbrev or_else : Option ℕ → Option ℕ → Option ℕ
or_else None y = y
or_else (Some x) y = Some x

abbrev last_word : List WriteEntry → ℕ → Option ℕ
last_word [] p = None
last_word (e ∷ es) p = or_else (last_word es p) (cond (eqb e.page p) (Some e.word) None)

or_else_cond : (a z : Option ℕ) (b : Bool) (w : ℕ) → or_else a (cond b (Some w) z) ≡ or_else (or_else a (cond b (Some w) None)) z
or_else_cond None z true w = refl
or_else_cond None z false w = refl
or_else_cond (Some x) z b w = refl

or_else_none : (a : Option ℕ) → or_else a None ≡ a
or_else_none None = refl
or_else_none (Some x) = refl

-- a list after writes, in order of time
abbrev written_all : List WriteEntry → List WriteEntry → List WriteEntry
written_all own [] = own
written_all own (e ∷ ws) = written_all (write own e.page e.word) ws

wrote-own : (ar : Meaning) (script : Steps) (pages : List ℕ) {s t : Stand} {ws : List WriteEntry} → Wrote ar script pages s t ws → t.own ≡ written_all s.own ws
wrote-own ar script pages no_step = refl
wrote-own ar script pages {s} (a_write {t = m} {ws = ws} p w h wn rest) =
    wrote-own ar script pages rest ∙ ap (λ own. written_all own ws) (write-next ar script pages s m p w h wn)
wrote-own ar script pages {s} (no_write {t = m} {ws = ws} h none rest) =
    wrote-own ar script pages rest
    ∙ ap (λ own. written_all own ws) (⊎_elim
    (λ (wr : Written ar script pages s m). absurd (none wr.page wr.word wr.next))
    (λ (un : Unwritten ar script pages s m). un.own)
    (writes_or_not ar script pages s m h))

-- it has the last word written, else what it had
written-written_all : (ws own : List WriteEntry) (p : ℕ) → written (written_all own ws) p ≡ or_else (last_word ws p) (written own p)
written-written_all [] own p = refl
written-written_all (e ∷ ws) own p =
    written-written_all ws (write own e.page e.word) p
    ∙ ap (or_else (last_word ws p)) (written-write own e.page e.word p)
    ∙ or_else_cond (last_word ws p) (written own p) (eqb e.page p) e.word

-- a page on it stays in its place
abbrev PlaceHas : List WriteEntry → ℕ → ℕ → Type 0
PlaceHas own i p = (x : WriteEntry) × (slice_get own i ≡ Some x) × (x.page ≡ p)

write_place : (own : List WriteEntry) (q w i p : ℕ) → PlaceHas own i p → PlaceHas (write own q w) i p
write_place [] q w i p h = none_is_some h.0 h.1
write_place (e ∷ es) q w i p h =
    ⊎_elim
    (λ (y : eqb e.page q ≡ true). subst (λ xs. PlaceHas xs i p) (sym (cond-true (eqb e.page q) (entry q w ∷ es) (e ∷ write es q w) y)) (replaced i h (eqb-true e.page q y)))
    (λ (y : eqb e.page q ≡ false). subst (λ xs. PlaceHas xs i p) (sym (cond-false (eqb e.page q) (entry q w ∷ es) (e ∷ write es q w) y)) (kept i h (λ k z. write_place es q w k p z)))
    (cases_Bool (eqb e.page q))
  where
    replaced : (i : ℕ) → PlaceHas (e ∷ es) i p → e.page ≡ q → PlaceHas (entry q w ∷ es) i p
    replaced zero h same = let x : e ≡ h.0 = let z : Some e ≡ Some h.0 = h.1 in cc in (entry q w, refl, sym same ∙ ap (λ v. v.page) x ∙ h.2)
    replaced (suc i) h same = h

    kept : (i : ℕ) → PlaceHas (e ∷ es) i p → ((k : ℕ) → PlaceHas es k p → PlaceHas (write es q w) k p) → PlaceHas (e ∷ write es q w) i p
    kept zero h rest = h
    kept (suc i) h rest = rest i h

place_stays : (ws own : List WriteEntry) (i p : ℕ) → PlaceHas own i p → PlaceHas (written_all own ws) i p
place_stays [] own i p h = h
place_stays (e ∷ ws) own i p h = place_stays ws (write own e.page e.word) i p (write_place own e.page e.word i p h)

once_written : (ws own : List WriteEntry) → Once own → Once (written_all own ws)
once_written [] own once = once
once_written (e ∷ ws) own once = once_written ws (write own e.page e.word) (once_write own e.page e.word once)

-- of two places on it, the page of the earlier was on the list before, or was written before each write of the other's
record Earlier (ws : List WriteEntry) (k p : ℕ) : Type 0 where
  place : ℕ
  below : place < k
  has : PlaceHas ws place p

written_or : (own : List WriteEntry) (p w q : ℕ) → has_written (write own p w) q ≡ true → (has_written own q ≡ true) ⊎ (p ≡ q)
written_or own p w q h =
    ⊎_elim (λ (a : has_written own q ≡ true). inl a) (λ (a : eqb p q ≡ true). inr (eqb-true p q a)) (or_cases (has_written own q) (eqb p q) (sym (written_more own p w q) ∙ h))

-- where the first write is of the other's page, the earlier was there before it
module _ (own : List WriteEntry) (p w : ℕ) (ws : List WriteEntry) (once : Once own) (i j : ℕ) (x y : WriteEntry) (l : i < j) (a : slice_get (written_all (write own p w) ws) i ≡ Some x) (b : slice_get (written_all (write own p w) ws) j ≡ Some y) (page : p ≡ y.page) where
  all_once : Once (written_all (write own p w) ws)
  all_once = once_written ws (write own p w) (once_write own p w once)

  -- the page stands at once where it stands in the end
  stands_at_once : j < length (write own p w)
  stands_at_once =
      let now = has_found (write own p w) y.page (written_more own p w y.page ∙ or_right (has_written own y.page) (eqb p y.page) (eq-eqb p y.page page)) in
      let stayed = place_stays ws (write own p w) now.stands.0 y.page (entry y.page now.word, now.stands.1, refl) in
      let inside : now.stands.0 < length (write own p w) = slice_get_within (write own p w) now.stands.0 (entry y.page now.word) now.stands.1 in
      ⊎_elim
      (λ (q : now.stands.0 ≡ j). subst (λ n. n < length (write own p w)) q inside)
      (λ (q : now.stands.0 ≡ j → ⊥). absurd (all_once now.stands.0 j stayed.0 y q stayed.1 b stayed.2))
      (cases_eq now.stands.0 j)

  earlier_before : has_written own x.page ≡ true
  earlier_before =
      let z = get_or (write own p w) i (entry p w) in
      let there : slice_get (write own p w) i ≡ Some z = slice_get-get_or (write own p w) i (entry p w) (let k = stands_at_once in omega arith) in
      let stayed = place_stays ws (write own p w) i z.page (z, there, refl) in
      let is_x : z.page ≡ x.page = sym stayed.2 ∙ ap (λ v. v.page) (same_Some stayed.0 x (sym stayed.1 ∙ a)) in
      let now = stands_found (write own p w) x.page z.word (i, there ∙ ap (λ q. Some (entry q z.word)) is_x) in
      ⊎_elim
      (λ (g : has_written own x.page ≡ true). g)
      (λ (g : p ≡ x.page). absurd (all_once i j x y (λ q. omega arith) a b (sym g ∙ page)))
      (written_or own p w x.page now.has)

earlier_first : (ws own : List WriteEntry) → Once own → (i j : ℕ) (x y : WriteEntry) → i < j → slice_get (written_all own ws) i ≡ Some x → slice_get (written_all own ws) j ≡ Some y
    → (k : ℕ) → PlaceHas ws k y.page → Earlier ws k x.page ⊎ (has_written own x.page ≡ true)
earlier_first [] own once i j x y l a b k h = none_is_some h.0 h.1
earlier_first (e ∷ ws) own once i j x y l a b zero h =
    inr (earlier_before own e.page e.word ws once i j x y l a b (ap (λ v. v.page) (same_Some e h.0 h.1) ∙ h.2))
earlier_first (e ∷ ws) own once i j x y l a b (suc k) h =
    ⊎_elim
    (λ (f : Earlier ws k x.page). inl (record { place = suc f.place; below = let n = f.below in omega arith; has = f.has }))
    (λ (f : has_written (write own e.page e.word) x.page ≡ true).
    ⊎_elim
    (λ (g : has_written own x.page ≡ true). inr g)
    (λ (g : e.page ≡ x.page). inl (record { place = 0; below = omega arith; has = (e, refl, g) }))
    (written_or own e.page e.word x.page f))
    (earlier_first ws (write own e.page e.word) (once_write own e.page e.word once) i j x y l a b k h)

-- the last word is that of the last entry that names the page
none_parts : (o : Option ℕ) (b : Bool) (v : ℕ) → or_else o (cond b (Some v) None) ≡ None → (o ≡ None) × (b ≡ false)
none_parts None true v h = none_is_some v (sym h)
none_parts None false v h = (refl, refl)
none_parts (Some x) b v h = none_is_some x (sym h)

some_parts : (o : Option ℕ) (b : Bool) (v w : ℕ) → or_else o (cond b (Some v) None) ≡ Some w → (o ≡ Some w) ⊎ ((o ≡ None) × (b ≡ true) × (v ≡ w))
some_parts None true v w h = inr (refl, refl, cc)
some_parts None false v w h = none_is_some w h
some_parts (Some x) b v w h = inl h

-- no entry after place i names the page
abbrev NoneAfter : List WriteEntry → ℕ → ℕ → Type 0
NoneAfter ws p i = (j : ℕ) (x : WriteEntry) → i < j → slice_get ws j ≡ Some x → x.page ≢ p

no_last : (ws : List WriteEntry) (p : ℕ) → last_word ws p ≡ None → (j : ℕ) (x : WriteEntry) → slice_get ws j ≡ Some x → x.page ≢ p
no_last [] p none j x h = none_is_some x h
no_last (e ∷ es) p none zero x h =
    let same : e ≡ x = cc in
    λ z. eqb-false e.page p (none_parts (last_word es p) (eqb e.page p) e.word none).1 (ap (λ v. v.page) same ∙ z)
no_last (e ∷ es) p none (suc j) x h = no_last es p (none_parts (last_word es p) (eqb e.page p) e.word none).0 j x h

after_later : (e : WriteEntry) (es : List WriteEntry) (p i : ℕ) → NoneAfter es p i → NoneAfter (e ∷ es) p (suc i)
after_later e es p i f zero x l k = absurd (omega arith)
after_later e es p i f (suc j) x l k = f j x (omega arith) k

after_here : (e : WriteEntry) (es : List WriteEntry) (p : ℕ) → last_word es p ≡ None → NoneAfter (e ∷ es) p 0
after_here e es p none zero x l k = absurd (omega arith)
after_here e es p none (suc j) x l k = no_last es p none j x k

last_is : (ws : List WriteEntry) (p w : ℕ) → last_word ws p ≡ Some w → IsLast ws p w
last_is [] p w h = none_is_some w h
last_is (e ∷ es) p w h =
    ⊎_elim
    (λ (q : last_word es p ≡ Some w). let k = last_is es p w q in (suc k.0, k.1, after_later e es p k.0 k.2))
    (λ (q : (last_word es p ≡ None) × (eqb e.page p ≡ true) × (e.word ≡ w)). (0, ap (λ x. Some (entry x e.word)) (eqb-true e.page p q.1) ∙ ap (λ x. Some (entry p x)) q.2, after_here e es p q.0))
    (some_parts (last_word es p) (eqb e.page p) e.word w h)

is_last : (ws : List WriteEntry) (p w i : ℕ) → slice_get ws i ≡ Some (entry p w) → NoneAfter ws p i → last_word ws p ≡ Some w
is_last [] p w i h after = none_is_some (entry p w) h
is_last (e ∷ es) p w zero h after =
    ⊎_elim
    (λ (q : (v : ℕ) × (last_word es p ≡ Some v)). let k = last_is es p q.0 q.1 in absurd (after (suc k.0) (entry p q.0) (omega arith) k.1 refl))
    (λ (q : last_word es p ≡ None).
    let same : e ≡ entry p w = cc in
    ap (λ o. or_else o (cond (eqb e.page p) (Some e.word) None)) q
    ∙ cond-true (eqb e.page p) (Some e.word) None (eq-eqb e.page p (ap (λ x. x.page) same))
    ∙ ap (λ x. Some x.word) same)
    (some_or_none (last_word es p))
is_last (e ∷ es) p w (suc i) h after =
    ap (λ o. or_else o (cond (eqb e.page p) (Some e.word) None)) (is_last es p w i h (λ j x l k. after (suc j) x (omega arith) k))

pub four_registers : FourRegisters
four_registers ar script pages s l = (run-fits ar script pages s l).0

pub writes_told : WritesTold
writes_told ar script pages s t = (λ l. wrote ar script pages l, λ x. wrote-leads ar script pages x.1)

pub stands_once : StandsOnce
stands_once ar script pages s l = (run-fits ar script pages s l).1

pub stays_written : StaysWritten
stays_written ar script pages s t p w l k le on =
    let f = has_found t.own p (own_grows ar script pages (reached_later ar script pages l k le) p (stands_found s.own p w on).has) in
    (f.word, f.stands)

pub last_written : LastWritten
last_written ar script pages s ws p w x =
    let told : written s.own p ≡ last_word ws p = ap (λ own. written own p) (wrote-own ar script pages x) ∙ written-written_all ws [] p ∙ or_else_none (last_word ws p) in
    let once = (run-fits ar script pages s (wrote-leads ar script pages x)).1 in (
      λ on. last_is ws p w (sym told ∙ stands_told s.own once p w on),
      λ last. told_stands s.own p w (told ∙ is_last ws p w last.0 last.1 last.2),
    )

pub reads_own_word : ReadsOwnWord
reads_own_word ar script pages s st a p w l at rd on =
    let fit = run-fits ar script pages s l in
    let m = (comes_to ar pages st s fit.0 fit.1).own_read a p w rd on in
    (m.0, ap (try_step ar pages s) at ∙ ap Some m.1, m.3.taken, m.4)

pub in_order : InOrder
in_order ar script pages s ws i j x y k later wr l a b c d =
    let own = wrote-own ar script pages wr in
    ⊎_elim
    (λ (f : Earlier ws k x.page). (f.place, f.has.0, f.below, f.has.1, f.has.2))
    (λ (f : has_written [] x.page ≡ true). absurd (true≢false (sym f)))
    (earlier_first ws [] (λ i j x y ne a b. none_is_some x a) i j x y l (sym (ap (λ o. slice_get o i) own) ∙ a) (sym (ap (λ o. slice_get o j) own) ∙ b) k (later, c, d))
