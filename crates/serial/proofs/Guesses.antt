-- What shadows are for, and that recorded reads tell what a commit spoils. Assumes nothing.
use Rattle.std.proofs.Common.{◌≡◌, ℕ, zero, suc, ◌+◌, ◌<◌, ◌≤◌, true, false, eqb, List, [], ◌∷◌, length, is_some, Some, None, Option, sym, refl, ap, ◌∙◌, ⊎_elim, arith}
use Rattle.std.specs.List.{slice_get, filter}
use Rattle.std.proofs.lemmas.List.Folds.{list_any-append}
use Rattle.std.proofs.lemmas.Bool.{cases_Bool, cond-true, cond-false, or_cases, or_left, or_right, or_from, eqb-true, eq-eqb, true≢false, not-true, not_from_false, false_from_ne_true, both_ways}
use Rattle.std.proofs.lemmas.Option.{same_Some}
use Rattle.pages.specs.declared.WriteEntry.{WriteEntry}
use Rattle.script.specs.declared.Register.{Register}
use Rattle.script.specs.declared.Step.{Step}
use Rattle.serial.specs.declared.ReadEntry.{ReadEntry}
use Rattle.serial.specs.Machine.{Meaning, Steps, Stand, start, store_read, has_read, has_written, has_read_any}
use Rattle.serial.specs.Alone.{there, next, go_on, first_stand, on_list, before_read_of}
use Rattle.serial.specs.Laws.{Leads, here, more}
use Rattle.serial.specs.Rules.{Row, State, fresh, shadow, own_of, lead_writes, count, after}
use Rattle.serial.specs.OneStep.{OnList, NotOnList, Reads}
use Rattle.serial.specs.Guesses.{HasRead, HasWritten, Guesses, ShadowsGuess, TestsInWords, SpoilsExactly, SpoiledByReads}
use Rattle.serial.proofs.Table.{none_is_some, some_is}
use Rattle.serial.proofs.Steps.{noted}
use Rattle.serial.proofs.Runs.{stepped, leads-rises, leads-ends, reached_later, past_read, first_reached}
use Rattle.serial.proofs.Conflicts.{noted_any}
use Rattle.serial.proofs.Calls.{Good, fresh_good, after_good}
use Rattle.serial.proofs.PageLists.{stands_found, has_found}
use Rattle.serial.proofs.OneStep.{store_reads_in_words}

-- the entry of a read
abbrev read_at : ℕ → ℕ → Option ReadEntry
read_at step p = Some (record { step = step; page = p })

-- reads that name a page of a list, by the test
any_read : (rs : List ReadEntry) (es : List WriteEntry) (i step p w : ℕ) → slice_get rs i ≡ Some (record { step = step; page = p }) → OnList es p w → has_read_any rs es ≡ true
any_read [] es i step p w h on = let z : ◌≡◌ {A = ℕ} 0 1 = cc in absurd (omega arith)
any_read (r ∷ rs) es zero step p w h on =
    let named : ReadEntry = record { step = step; page = p } in
    let same : r ≡ named = cc in
    let page : r.page ≡ p = ap (λ x. x.page) same in
    or_left (has_written es r.page) (has_read_any rs es) (ap (has_written es) page ∙ (stands_found es p w on).has)
any_read (r ∷ rs) es (suc i) step p w h on = or_right (has_written es r.page) (has_read_any rs es) (any_read rs es i step p w h on)

-- a read that a shadow's reads and a leading shadow's list share
shared : (s lead : Stand) (p : ℕ) → HasRead s p → HasWritten lead p → has_read_any s.reads lead.own ≡ true
shared s lead p r w = any_read s.reads lead.own r.0 r.1 p w.0 r.2 w.1

-- the tests in words
read_told : (rs : List ReadEntry) (p : ℕ) → has_read rs p ≡ true → (i : ℕ) × (step : ℕ) × (slice_get rs i ≡ Some (record { step = step; page = p }))
read_told [] p h = absurd (true≢false (sym h))
read_told (r ∷ rs) p h =
    ⊎_elim
    (λ (a : eqb r.page p ≡ true). (0, r.step, ap (read_at r.step) (eqb-true r.page p a)))
    (λ (a : has_read rs p ≡ true). let k = read_told rs p a in (suc k.0, k.1, k.2))
    (or_cases (eqb r.page p) (has_read rs p) h)

told_read : (rs : List ReadEntry) (p i step : ℕ) → slice_get rs i ≡ read_at step p → has_read rs p ≡ true
told_read [] p i step h = none_is_some (record { step = step; page = p }) h
told_read (r ∷ rs) p zero step h =
    or_left (eqb r.page p) (has_read rs p) (eq-eqb r.page p (ap (λ x. x.page) (same_Some r (record { step = step; page = p }) h)))
told_read (r ∷ rs) p (suc i) step h = or_right (eqb r.page p) (has_read rs p) (told_read rs p i step h)

any_told : (rs : List ReadEntry) (es : List WriteEntry) → has_read_any rs es ≡ true → (p : ℕ) × ((i : ℕ) × (step : ℕ) × (slice_get rs i ≡ Some (record { step = step; page = p }))) × ((w : ℕ) × OnList es p w)
any_told [] es h = absurd (true≢false (sym h))
any_told (r ∷ rs) es h =
    ⊎_elim
    (λ (a : has_written es r.page ≡ true). let f = has_found es r.page a in (r.page, (0, r.step, refl), (f.word, f.stands)))
    (λ (a : has_read_any rs es ≡ true). let k = any_told rs es a in (k.0, (suc k.1.0, k.1.1, k.1.2), k.2))
    (or_cases (has_written es r.page) (has_read_any rs es) h)

module _ (lead : Stand) (script : Steps) (s : Stand) where
  abbrev BeforeRead : Type 0
  BeforeRead = (st : Step) × (a : Register) × (p : ℕ) × (slice_get script s.step ≡ Some st) × Reads st s a p × NotOnList s.own p × HasWritten lead p

  before_told : (o : Option ℕ) → store_read (slice_get script s.step) s ≡ o → on_list lead.own o ≡ true → BeforeRead
  before_told None q h = absurd (true≢false (sym h))
  before_told (Some p) q h =
      let r = (store_reads_in_words (slice_get script s.step) s p).0 q in
      let f = has_found lead.own p h in (r.0, r.1, p, r.2, r.3, r.4, (f.word, f.stands))

  told_before : BeforeRead → before_read_of lead.own script s ≡ true
  told_before x =
      ap (on_list lead.own) ((store_reads_in_words (slice_get script s.step) s x.2).1 (x.0, x.1, x.3, x.4, x.5)) ∙ (stands_found lead.own x.2 x.6.0 x.6.1).has

counted : (cs : Row) → count cs ≡ length (filter (λ s. is_some s) cs)
counted [] = refl
counted (None ∷ cs) = counted cs
counted (Some s ∷ cs) = ap suc (counted cs)

pub tests_in_words : TestsInWords
tests_in_words = record {
  read = λ s p. (λ h. read_told s.reads p h, λ x. told_read s.reads p x.0 x.1 x.2);
  written = λ s p. (λ h. let f = has_found s.own p h in (f.word, f.stands), λ x. (stands_found s.own p x.0 x.1).has);
  read_any = λ s lead. (λ h. any_told s.reads lead.own h, λ x. shared s lead x.0 x.1 x.2);
  clean = λ e u s lead h.
      let reads : has_read_any s.reads (lead_writes e u) ≡ has_read_any s.reads lead.own = ap (λ o. has_read_any s.reads (own_of o)) h in (
        λ c p r w. both_ways (has_read_any s.reads (lead_writes e u)) (not-true (has_read_any s.reads (lead_writes e u)) c) (reads ∙ shared s lead p r w),
        λ none. not_from_false (has_read_any s.reads (lead_writes e u)) (false_from_ne_true (has_read_any s.reads (lead_writes e u)) (λ k. let x = any_told s.reads lead.own (sym reads ∙ k) in none x.0 x.1 x.2)),
      );
  counted = counted;
  before_read = λ lead script s. (λ h. before_told lead script s (store_read (slice_get script s.step) s) refl h, λ x. told_before lead script s x);
}

pub good_guesses : (ar : Meaning) (s : State) → Good ar s → Guesses s.engine
good_guesses ar s g = record {
  guess = λ t u p x lead ne h k w r.
      both_ways (has_read_any x.reads lead.own) (ap (has_read_any x.reads) (sym (ap own_of k)) ∙ (g.rows t).apart u x ne h refl) (shared x lead p r w);
  behind = λ t u x lead h k. (g.rows t).behind u x lead h k;
  covered = λ full t u p lead other ne h k r w.
      some_is (shadow s.engine t u) ((g.rows t).covered full u lead ne h refl (ap (has_read_any lead.reads) (ap own_of k) ∙ shared lead other p r w));
}

pub shadows_guess : ShadowsGuess
shadows_guess ar pages calls = good_guesses ar (after ar calls (fresh pages)) (after_good ar calls (fresh pages) (fresh_good ar pages))

-- a run that has read a page of the list by t stood before its first such read, before t
module _ (ar : Meaning) (script : Steps) (pages : List ℕ) (es : List WriteEntry) where
  first_read : (fuel : ℕ) {s t : Stand} → Leads ar script pages s t → has_read_any s.reads es ≡ false → has_read_any t.reads es ≡ true → t.step < s.step + fuel
      → (first : Stand) × (first_stand fuel ar script pages (before_read_of es script) s ≡ there first) × (first.step < t.step)
  first_read zero l fresh read k = let r = leads-rises ar script pages l in absurd (omega arith)
  first_read (suc fuel) {s} here fresh read k = absurd (both_ways (has_read_any s.reads es) fresh read)
  first_read (suc fuel) {s} {t} (more {t = m} h l) fresh read k =
      let x = stepped ar script pages s m h in
      let up = x.move.rises in
      let high = leads-rises ar script pages l in
      let rest = go_on s.step (next ar script pages s) (first_stand fuel ar script pages (before_read_of es script)) in
      ⊎_elim
      (λ (e : before_read_of es script s ≡ true). (s, cond-true (before_read_of es script s) (there s) rest e, omega arith))
      (λ (e : before_read_of es script s ≡ false).
      let o = store_read (slice_get script s.step) s in
      let still : has_read_any m.reads es ≡ false =
      ap (λ rs. has_read_any rs es) x.move.reads
      ∙ list_any-append (λ r. has_written es r.page) s.reads (noted s.step o)
      ∙ or_from (has_read_any s.reads es) (has_read_any (noted s.step o) es) fresh (noted_any s.step o es ∙ e) in
      let f = first_read fuel l still read (omega arith) in (
        f.0,
        cond-false (before_read_of es script s) (there s) rest e ∙ ap (λ o. go_on s.step o (first_stand fuel ar script pages (before_read_of es script))) h ∙ f.1,
        f.2,
      ))
      (cases_Bool (before_read_of es script s))

pub spoils_exactly : (ar : Meaning) (s : State) → Good ar s → (t : ℕ) (put : List WriteEntry) → SpoilsExactly ar s t put
spoils_exactly ar s g t put v script lead ne has leads =
    let l = (g.rows v).reached script v lead has leads in
    let near : lead.step ≤ length script = leads-ends ar script s.pages ((g.rows v).ends script has) (omega arith) l in (
      λ read. first_read ar script s.pages put (suc (length script)) l refl read (omega arith),
      λ x.
          let f = first_reached ar script s.pages (suc (length script)) (before_read_of put script) start x.0 x.1 in
          past_read ar script s.pages put (reached_later ar script s.pages f.leads l (let k = x.2 in omega arith)) f.passes x.2,
    )

pub spoiled_by_reads : SpoiledByReads
spoiled_by_reads ar pages before t r n last accepted lead =
    spoils_exactly ar (after ar before (fresh pages)) (after_good ar before (fresh pages) (fresh_good ar pages)) t last.own
