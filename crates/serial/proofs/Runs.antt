-- Laws of a run alone. Assumes nothing.
use Rattle.std.proofs.Common.{◌≡◌, ℕ, zero, suc, ◌+◌, ◌<◌, ◌≤◌, Bool, true, false, ◌||◌, eqb, ◌⊎◌, List, [], ◌∷◌, ◌++◌, length, get_or, set, Some, None, Option, sym, refl, ap, ◌∙◌, subst, inl, inr, ⊎_elim, arith, length-set, get_or-set_other}
use Rattle.std.specs.List.{slice_get}
use Rattle.std.proofs.lemmas.List.{append-nil, append_assoc}
use Rattle.std.proofs.lemmas.List.Folds.{list_any-append}
use Rattle.std.proofs.lemmas.Bool.{cases_Bool, cond-true, cond-false, eq-eqb, eqb-true, ne_eqb, both_ways, or_parts, or_left, or_right, true≢false}
use Rattle.pages.specs.declared.WriteEntry.{WriteEntry}
use Rattle.script.specs.declared.Step.{Step}
use Rattle.script.specs.Laws.{leaves_out, EndsAtEnd}
use Rattle.serial.specs.declared.ReadEntry.{ReadEntry}
use Rattle.serial.specs.Machine.{Meaning, Steps, Stand, start, effect, Taken, moved, off_pages, takes, store_read, write_of, has_written, has_read_any}
use Rattle.serial.specs.Laws.{Next, Leads, here, more, StepsRise, RunsDetermined, ReadsGrow, UnreadReached, StandFound}
use Rattle.serial.specs.Alone.{Reached, there, fault, try_step, next, go_on, first_stand, is_at, stand_at, on_list, before_read_of, put_all}
use Rattle.serial.proofs.Steps.{noted, Moves, step-moves}

-- puts keep the size, and every page that is not on the list
pub length-put_all : (es : List WriteEntry) (pages : List ℕ) → length (put_all es pages) ≡ length pages
length-put_all [] pages = refl
length-put_all (e ∷ es) pages = length-put_all es (set pages e.page e.word) ∙ length-set pages e.page e.word

pub put_all_other : (es : List WriteEntry) (pages : List ℕ) (p : ℕ) → has_written es p ≡ false → get_or (put_all es pages) p 0 ≡ get_or pages p 0
put_all_other [] pages p h = refl
put_all_other (e ∷ es) pages p h =
    let parts = or_parts (eqb e.page p) (has_written es p) h in
    put_all_other es (set pages e.page e.word) p parts.1
    ∙ get_or-set_other pages e.page p e.word 0 (λ z. both_ways (eqb e.page p) parts.0 (eq-eqb e.page p (sym z)))

module _ (ar : Meaning) (script : Steps) where
  module _ (pages : List ℕ) where
    -- a step that is taken, with what it comes to
    pub record Stepped (s t : Stand) : Type 0 where
      pub step : Step
      pub at : slice_get script s.step ≡ Some step
      pub move : Moves pages s (effect ar step s) (store_read (slice_get script s.step) s) (write_of (slice_get script s.step) s) (leaves_out step) t

    stepped_at : (s t : Stand) (o : Option Step) → slice_get script s.step ≡ o → try_step ar pages s o ≡ Some (moved t) → Stepped s t
    stepped_at s t None e h = let z : ◌≡◌ {A = ℕ} 0 1 = cc in absurd (omega arith)
    stepped_at s t (Some st) e h =
        let k : takes ar pages st s ≡ moved t = cc in
        record {
          step = st;
          at = e;
          move = subst (λ o. Moves pages s (effect ar st s) (store_read o s) (write_of o s) (leaves_out st) t) (sym e) (step-moves ar pages st s t k);
        }

    pub stepped : (s t : Stand) → Next ar script pages s t → Stepped s t
    stepped s t h = stepped_at s t (slice_get script s.step) refl h

    pub next-rises : (s t : Stand) → Next ar script pages s t → s.step < t.step
    next-rises s t h = (stepped s t h).move.rises

    pub next_same : (s t u : Stand) → Next ar script pages s t → Next ar script pages s u → t ≡ u
    next_same s t u h k = cc

    pub next-ends : (s t : Stand) → EndsAtEnd script → Next ar script pages s t → t.step ≤ length script
    next-ends s t ends h =
        let x = stepped s t h in
        let far = ends s.step x.step x.at in
        omega (arith, x.move.near)

    pub leads-rises : {s t : Stand} → Leads ar script pages s t → s.step ≤ t.step
    leads-rises here = omega arith
    leads-rises {s} {t} (more {t = m} h k) = let a = next-rises s m h in let b = leads-rises k in omega arith

    pub leads_same : {s t : Stand} → Leads ar script pages s t → s.step ≡ t.step → s ≡ t
    leads_same here e = refl
    leads_same {s} {t} (more {t = m} h k) e = let a = next-rises s m h in let b = leads-rises k in absurd (omega arith)

    pub leads_snoc : {s t : Stand} (u : Stand) → Leads ar script pages s t → Next ar script pages t u → Leads ar script pages s u
    leads_snoc u here k = more k here
    leads_snoc u (more h l) k = more h (leads_snoc u l k)

    -- of two stands reached from one, one is reached from the other
    pub leads_compare : {s t u : Stand} → Leads ar script pages s t → Leads ar script pages s u → Leads ar script pages t u ⊎ Leads ar script pages u t
    leads_compare here l = inl l
    leads_compare (more h k) here = inr (more h k)
    leads_compare {s} {t} {u} (more {t = m} h k) (more {t = n} h' k') =
        let e : n ≡ m = next_same s n m h' h in
        leads_compare k (subst (λ x. Leads ar script pages x u) e k')

    -- two stands reached at one step are equal
    pub reached_same : {s t u : Stand} → Leads ar script pages s t → Leads ar script pages s u → t.step ≡ u.step → t ≡ u
    reached_same l k e = ⊎_elim (λ x. leads_same x e) (λ x. sym (leads_same x (sym e))) (leads_compare l k)

    -- the later of two is reached from the earlier
    pub reached_later : {s t u : Stand} → Leads ar script pages s t → Leads ar script pages s u → t.step ≤ u.step → Leads ar script pages t u
    reached_later {s} {t} {u} l k e =
        ⊎_elim (λ x. x) (λ x. let r = leads-rises x in let same : u ≡ t = leads_same x (omega arith) in subst (λ y. Leads ar script pages y u) same here) (leads_compare l k)

    -- the reads of an earlier stand are the first reads of a later one
    pub reads_grow : {s t : Stand} → Leads ar script pages s t → (rs : List ReadEntry) × (t.reads ≡ s.reads ++ rs)
    reads_grow {s} here = ([], sym (append-nil s.reads))
    reads_grow {s} {t} (more {t = m} h k) =
        let rest = reads_grow k in
        let one = (stepped s m h).move.reads in (
          noted s.step (store_read (slice_get script s.step) s) ++ rest.0,
          rest.1 ∙ ap (λ xs. xs ++ rest.0) one ∙ append_assoc s.reads _ rest.0,
        )

    -- what an earlier stand has read of a list, a later one has
    pub read_lasts : {s t : Stand} (es : List WriteEntry) → Leads ar script pages s t → has_read_any s.reads es ≡ true → has_read_any t.reads es ≡ true
    read_lasts {s} {t} es l h =
        let g = reads_grow l in
        ap (λ xs. has_read_any xs es) g.1 ∙ list_any-append (λ r. has_written es r.page) s.reads g.0 ∙ ap (λ b. b || has_read_any g.0 es) h

    pub unread_before : {s t : Stand} (es : List WriteEntry) → Leads ar script pages s t → has_read_any t.reads es ≡ false → has_read_any s.reads es ≡ false
    unread_before {s} {t} es l h =
        ⊎_elim (λ (e : has_read_any s.reads es ≡ true). absurd (both_ways (has_read_any t.reads es) h (read_lasts es l e))) (λ e. e) (cases_Bool (has_read_any s.reads es))

    noted-on_list : (n : ℕ) (o : Option ℕ) (es : List WriteEntry) → on_list es o ≡ true → has_read_any (noted n o) es ≡ true
    noted-on_list n None es h = absurd (true≢false (sym h))
    noted-on_list n (Some p) es h = or_left (has_written es p) false h

    -- a stand past a store read of a page on the list has read one
    pub past_read : {s t : Stand} (es : List WriteEntry) → Leads ar script pages s t → before_read_of es script s ≡ true → s.step < t.step → has_read_any t.reads es ≡ true
    past_read es here b l = absurd (omega arith)
    past_read {s} {t} es (more {t = m} h k) b l =
        let one = (stepped s m h).move.reads in
        let o = store_read (slice_get script s.step) s in
        read_lasts es k
        (ap (λ xs. has_read_any xs es) one ∙ list_any-append (λ r. has_written es r.page) s.reads (noted s.step o) ∙ or_right (has_read_any s.reads es) (has_read_any (noted s.step o) es) (noted-on_list s.step o es b))

    -- the first stand that passes a test: it is reached, passes, and none before it passes
    pub record First (test : Stand → Bool) (s t : Stand) : Type 0 where
      pub leads : Leads ar script pages s t
      pub passes : test t ≡ true
      pub before : (u : Stand) → Leads ar script pages s u → u.step < t.step → test u ≡ false

    there-moved : (n : ℕ) (o : Option Taken) (f : Stand → Reached) (t : Stand) → go_on n o f ≡ there t → (m : Stand) × (o ≡ Some (moved m)) × (f m ≡ there t)
    there-moved n None f t h = let z : ◌≡◌ {A = ℕ} 0 1 = cc in absurd (omega arith)
    there-moved n (Some (moved m)) f t h = (m, refl, h)
    there-moved n (Some (off_pages p)) f t h = let z : ◌≡◌ {A = ℕ} 0 1 = cc in absurd (omega arith)

    pub first_reached : (fuel : ℕ) (test : Stand → Bool) (s t : Stand) → first_stand fuel ar script pages test s ≡ there t → First test s t
    first_reached zero test s t h = let z : ◌≡◌ {A = ℕ} 0 1 = cc in absurd (omega arith)
    first_reached (suc fuel) test s t h =
        let rest = go_on s.step (next ar script pages s) (first_stand fuel ar script pages test) in
        ⊎_elim
        (λ (e : test s ≡ true).
        let same : s ≡ t = let z = sym (cond-true (test s) (there s) rest e) ∙ h in cc in
        subst (First test s) same (record { leads = here; passes = e; before = λ u l k. let r = leads-rises l in absurd (omega arith) }))
        (λ (e : test s ≡ false).
        let m = there-moved s.step (next ar script pages s) (first_stand fuel ar script pages test) t (sym (cond-false (test s) (there s) rest e) ∙ h) in
        let f = first_reached fuel test m.0 t m.2 in
        record {
          leads = more m.1 f.leads;
          passes = f.passes;
          before = λ u l k. unless_here s m.0 u t m.1 test e f l k;
        })
        (cases_Bool (test s))
      where
        unless_here : (s m u t : Stand) → Next ar script pages s m → (test : Stand → Bool) → test s ≡ false → First test m t → Leads ar script pages s u → u.step < t.step → test u ≡ false
        unless_here s m u t h test e f here k = e
        unless_here s m u t h test e f (more {t = n} h' l) k = f.before u (subst (λ x. Leads ar script pages x u) (next_same s n m h' h) l) k

    -- a run comes to each stand that is reached, on asking for its step
    pub comes_to : (fuel : ℕ) {s t : Stand} → Leads ar script pages s t → t.step < s.step + fuel → first_stand fuel ar script pages (is_at t.step) s ≡ there t
    comes_to zero l k = let r = leads-rises l in absurd (omega arith)
    comes_to (suc fuel) {s} here k = cond-true (is_at s.step s) (there s) _ (eq-eqb s.step s.step refl)
    comes_to (suc fuel) {s} {t} (more {t = m} h l) k =
        let a = next-rises s m h in
        let b = leads-rises l in
        cond-false (is_at t.step s) (there s) _ (ne_eqb s.step t.step (λ e. omega arith))
        ∙ ap (λ o. go_on s.step o (first_stand fuel ar script pages (is_at t.step))) h
        ∙ comes_to fuel l (omega arith)

    -- the stand on reaching a step is the reached stand of that step
    pub stand_reached : (n : ℕ) (t : Stand) → stand_at ar script pages n ≡ there t → Leads ar script pages start t × (t.step ≡ n)
    stand_reached n t h = let f = first_reached (suc (length script)) (is_at n) start t h in (f.leads, eqb-true t.step n f.passes)

    pub reached_stand : (t : Stand) → Leads ar script pages start t → t.step ≤ length script → stand_at ar script pages t.step ≡ there t
    reached_stand t l k = comes_to (suc (length script)) l (omega arith)

    -- a run stops at the step that is for no page of the store
    pub stops_at : (fuel : ℕ) (test : Stand → Bool) {s t : Stand} (p : ℕ) → Leads ar script pages s t → next ar script pages t ≡ Some (off_pages p) → t.step < s.step + fuel → ((u : Stand) → Leads ar script pages s u → u.step ≤ t.step → test u ≡ false) → first_stand fuel ar script pages test s ≡ fault t.step p
    stops_at zero test p l h k fails = let r = leads-rises l in absurd (omega arith)
    stops_at (suc fuel) test {s} p here h k fails =
        cond-false (test s) (there s) _ (fails s here (omega arith)) ∙ ap (λ o. go_on s.step o (first_stand fuel ar script pages test)) h
    stops_at (suc fuel) test {s} {t} p (more {t = m} a l) h k fails =
        let r = next-rises s m a in
        let b = leads-rises l in
        cond-false (test s) (there s) _ (fails s here (omega arith))
        ∙ ap (λ o. go_on s.step o (first_stand fuel ar script pages test)) a
        ∙ stops_at fuel test p l h (omega arith) (λ u x y. fails u (more a x) y)

  -- over pages of the same size that differ only on the list, a stand that has read nothing on it is reached too
  module _ (pages pages' : List ℕ) (es : List WriteEntry) (long : length pages' ≡ length pages) (alike : (p : ℕ) → has_written es p ≡ false → get_or pages' p 0 ≡ get_or pages p 0) where
    noted-unread : (n : ℕ) (o : Option ℕ) (p : ℕ) → has_read_any (noted n o) es ≡ false → o ≡ Some p → has_written es p ≡ false
    noted-unread n None p h e = let z : ◌≡◌ {A = ℕ} 0 1 = cc in absurd (omega arith)
    noted-unread n (Some q) p h e = let x : q ≡ p = cc in subst (λ y. has_written es y ≡ false) x (or_parts (has_written es q) false h).0

    next-frame : (s t : Stand) → Next ar script pages s t → has_read_any t.reads es ≡ false → Next ar script pages' s t
    next-frame s t h unread =
        let x = stepped pages s t h in
        let o = store_read (slice_get script s.step) s in
        let split = sym (ap (λ rs. has_read_any rs es) x.move.reads ∙ list_any-append (λ r. has_written es r.page) s.reads (noted s.step o)) ∙ unread in
        let fresh = (or_parts (has_read_any s.reads es) (has_read_any (noted s.step o) es) split).1 in
        ap (try_step ar pages' s) x.at
        ∙ ap Some (x.move.frame pages' long (λ p e. alike p (noted-unread s.step o p fresh e)))

    pub leads-frame : {s t : Stand} → Leads ar script pages s t → has_read_any t.reads es ≡ false → Leads ar script pages' s t
    leads-frame here unread = here
    leads-frame {s} {t} (more {t = m} h k) unread = more (next-frame s m h (unread_before pages es k unread)) (leads-frame k unread)

-- no reached stand is past the end
pub leads-ends : (ar : Meaning) (script : Steps) (pages : List ℕ) {s t : Stand} → EndsAtEnd script → s.step ≤ length script → Leads ar script pages s t → t.step ≤ length script
leads-ends ar script pages ends l here = l
leads-ends ar script pages {s} {t} ends l (more {t = m} h k) = leads-ends ar script pages ends (next-ends ar script pages s m ends h) k

pub steps_rise : StepsRise
steps_rise ar script pages s t h = next-rises ar script pages s t h

pub runs_determined : RunsDetermined
runs_determined ar script pages s t l k e = reached_same ar script pages l k e

pub later_reads : ReadsGrow
later_reads ar script pages s t l k e = reads_grow ar script pages (reached_later ar script pages l k e)

pub unread_reached : UnreadReached
unread_reached ar script pages pages' es s long alike unread l = leads-frame ar script pages pages' es long alike l unread

pub stand_found : StandFound
stand_found ar script pages n s ends = (
  λ h. stand_reached ar script pages n s h,
  λ l e.
      let k : s.step ≤ length script = leads-ends ar script pages ends (omega arith) l in
      ap (stand_at ar script pages) (sym e) ∙ reached_stand ar script pages s l k,
)
