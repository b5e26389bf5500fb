-- The rule that picks a shadow picks the furthest, and there is one. Assumes nothing.
use Rattle.std.proofs.Common.{◌≡◌, ℕ, zero, suc, ◌+◌, ◌<◌, ◌≤◌, Bool, true, false, ◌&&◌, ◌≢◌, ◌⊎◌, List, [], ◌∷◌, length, get_or, Some, None, Option, unwrap_or, sym, refl, ap, ◌∙◌, subst, inl, inr, ⊎_elim, arith}
use Rattle.std.proofs.Math.Bool.{and-false}
use Rattle.std.proofs.Math.ListN.{get_or-map}
use Rattle.std.proofs.lemmas.Bool.{cases_Bool, cases_eq, cases_lt, cond-true, cond-false, and_from, ltb-true, ltb-false, not-true, not_from_true, not_from_false, true≢false, both_ways}
use Rattle.pages.specs.declared.WriteEntry.{WriteEntry}
use Rattle.serial.specs.Machine.{Stand, start, has_read_any}
use Rattle.serial.specs.Rules.{Row, ahead, better, furthest, furthest_of, any_shadow, kept, remaining}
use Rattle.serial.specs.Words.{Furthest, PicksFurthest, FurthestOrStart, unread}
use Rattle.serial.proofs.Table.{none_is_some, there-within, kept_was, kept-unread}

-- places in the order in which they count: the leading one is looked at first, then all in slot order
module _ (test : Stand → Bool) where
  -- the best so far of some candidates: `pos` is where it was found, and candidates from `from` on are still to come
  record Best (all : Row) (k : ℕ) (pos : ℕ) (s : Stand) : Type 0 where
    at : get_or all pos None ≡ Some s
    passes : test s ≡ true
    seen : pos < k
    beats : (w : ℕ) (y : Stand) → w < k → get_or all w None ≡ Some y → test y ≡ true → (y.step < s.step) ⊎ ((y.step ≡ s.step) × (pos ≤ w))

  abbrev SoFar : Row → ℕ → Option Stand → Type 0
  SoFar all k None = (w : ℕ) (y : Stand) → w < k → get_or all w None ≡ Some y → test y ≡ false
  SoFar all k (Some s) = (pos : ℕ) × Best all k pos s

  -- one candidate more
  more : (all : Row) (k : ℕ) (best : Option Stand) → SoFar all k best → SoFar all (suc k) (better test best (get_or all k None))
  more all k best so = by (get_or all k None) refl
    where
      last_or : (w : ℕ) → w < suc k → (w ≡ k) ⊎ (w < k)
      last_or w l = ⊎_elim (λ e. inl e) (λ (n : w ≡ k → ⊥). inr (omega arith)) (cases_eq w k)

      keeps_none : get_or all k None ≡ None → (b : Option Stand) → SoFar all k b → SoFar all (suc k) b
      keeps_none q None h = λ w y l e. ⊎_elim (λ (z : w ≡ k). none_is_some y (sym q ∙ ap (λ m. get_or all m None) (sym z) ∙ e)) (λ (z : w < k). h w y z e) (last_or w l)
      keeps_none q (Some s) h = (
        h.0,
        record {
          at = h.1.at;
          passes = h.1.passes;
          seen = let l = h.1.seen in omega arith;
          beats = λ w y l e t. ⊎_elim (λ (z : w ≡ k). none_is_some y (sym q ∙ ap (λ m. get_or all m None) (sym z) ∙ e)) (λ (z : w < k). h.1.beats w y z e t) (last_or w l);
        },
      )

      fails : (x : Stand) → get_or all k None ≡ Some x → test x ≡ false → (b : Option Stand) → SoFar all k b → SoFar all (suc k) b
      fails x q f None h = λ w y l e. ⊎_elim (λ (z : w ≡ k). let same : x ≡ y = let m : Some x ≡ Some y = sym q ∙ ap (λ m. get_or all m None) (sym z) ∙ e in cc in ap test (sym same) ∙ f) (λ (z : w < k). h w y z e) (last_or w l)
      fails x q f (Some s) h = (
        h.0,
        record {
          at = h.1.at;
          passes = h.1.passes;
          seen = let l = h.1.seen in omega arith;
          beats = λ w y l e t. ⊎_elim (λ (z : w ≡ k). let same : x ≡ y = let m : Some x ≡ Some y = sym q ∙ ap (λ m. get_or all m None) (sym z) ∙ e in cc in absurd (both_ways (test x) f (ap test same ∙ t))) (λ (z : w < k). h.1.beats w y z e t) (last_or w l);
        },
      )

      takes_it : (x : Stand) → get_or all k None ≡ Some x → test x ≡ true → (b : Option Stand) → ahead x b ≡ true → SoFar all k b → SoFar all (suc k) (Some x)
      takes_it x q t None a h = (
        k,
        record {
          at = q;
          passes = t;
          seen = omega arith;
          beats = λ w y l e p. ⊎_elim (λ (z : w ≡ k). let same : x ≡ y = let m : Some x ≡ Some y = sym q ∙ ap (λ m. get_or all m None) (sym z) ∙ e in cc in inr (ap (λ v. v.step) (sym same), omega arith)) (λ (z : w < k). absurd (both_ways (test y) (h w y z e) p)) (last_or w l);
        },
      )
      takes_it x q t (Some s) a h =
          let up : s.step < x.step = ltb-true s.step x.step a in (
            k,
            record {
              at = q;
              passes = t;
              seen = omega arith;
              beats = λ w y l e p. ⊎_elim
                  (λ (z : w ≡ k). let same : x ≡ y = let m : Some x ≡ Some y = sym q ∙ ap (λ m. get_or all m None) (sym z) ∙ e in cc in inr (ap (λ v. v.step) (sym same), omega arith))
                  (λ (z : w < k). ⊎_elim (λ (c : y.step < s.step). inl (omega arith)) (λ (c : (y.step ≡ s.step) × (h.0 ≤ w)). let d = c.0 in inl (omega arith)) (h.1.beats w y z e p))
                  (last_or w l);
            },
          )

      stays_it : (x : Stand) → get_or all k None ≡ Some x → (b : Option Stand) → ahead x b ≡ false → SoFar all k b → SoFar all (suc k) b
      stays_it x q None a h = absurd (true≢false a)
      stays_it x q (Some s) a h =
          let low : x.step ≤ s.step = ltb-false s.step x.step a in
          let seen = h.1.seen in (
            h.0,
            record {
              at = h.1.at;
              passes = h.1.passes;
              seen = omega arith;
              beats = λ w y l e p. ⊎_elim
                  (λ (z : w ≡ k).
                  let same : x ≡ y = let m : Some x ≡ Some y = sym q ∙ ap (λ m. get_or all m None) (sym z) ∙ e in cc in
                  let level : x.step ≡ y.step = ap (λ v. v.step) same in
                  ⊎_elim (λ (c : y.step < s.step). inl c) (λ (c : s.step ≤ y.step). inr (omega arith, omega arith)) (cases_lt y.step s.step))
                  (λ (z : w < k). h.1.beats w y z e p)
                  (last_or w l);
            },
          )

      by : (c : Option Stand) → get_or all k None ≡ c → SoFar all (suc k) (better test best c)
      by None q = keeps_none q best so
      by (Some x) q =
          ⊎_elim
          (λ (t : test x ≡ true).
          ⊎_elim
          (λ (a : ahead x best ≡ true). subst (SoFar all (suc k)) (sym (cond-true (test x && ahead x best) (Some x) best (and_from (test x) (ahead x best) t a))) (takes_it x q t best a so))
          (λ (a : ahead x best ≡ false). subst (SoFar all (suc k)) (sym (cond-false (test x && ahead x best) (Some x) best (ap (λ b. test x && b) a ∙ and-false (test x)))) (stays_it x q best a so))
          (cases_Bool (ahead x best)))
          (λ (t : test x ≡ false). subst (SoFar all (suc k)) (sym (cond-false (test x && ahead x best) (Some x) best (ap (λ b. b && ahead x best) t))) (fails x q t best so))
          (cases_Bool (test x))

  -- all candidates: cs are those from k on
  all_seen : (all cs : Row) (k : ℕ) (best : Option Stand) → ((i : ℕ) → get_or cs i None ≡ get_or all (k + i) None) → SoFar all k best → SoFar all (k + length cs) (furthest test best cs)
  all_seen all [] k best at so = subst (λ n. SoFar all n best) (let e : k ≡ k + 0 = omega arith in e) so
  all_seen all (c ∷ cs) k best at so =
      let first : c ≡ get_or all k None = at 0 ∙ ap (λ n. get_or all n None) (let e : k + 0 ≡ k = omega arith in e) in
      let next_so = subst (λ o. SoFar all (suc k) (better test best o)) (sym first) (more all k best so) in
      let e : suc k + length cs ≡ k + suc (length cs) = omega arith in
      subst (λ n. SoFar all n (furthest test (better test best c) cs)) e
      (all_seen all cs (suc k) (better test best c) (λ i. at (suc i) ∙ ap (λ n. get_or all n None) (let z : k + suc i ≡ suc k + i = omega arith in z)) next_so)

  pub furthest_so : (t : ℕ) (cs : Row) → Furthest test t cs (furthest_of test t cs)
  furthest_so t cs = told (furthest_of test t cs) (all_seen (get_or cs t None ∷ cs) (get_or cs t None ∷ cs) 0 None (λ i. ap (λ n. get_or (get_or cs t None ∷ cs) n None) (let e : i ≡ 0 + i = omega arith in e)) (λ w y l e. absurd (omega arith)))
    where
      within : (w : ℕ) (y : Stand) → get_or cs w None ≡ Some y → suc w < 0 + length (get_or cs t None ∷ cs)
      within w y h = let l = there-within cs w y h in omega arith

      told : (o : Option Stand) → SoFar (get_or cs t None ∷ cs) (0 + length (get_or cs t None ∷ cs)) o → Furthest test t cs o
      told None so = λ w y h. so (suc w) y (within w y h) h
      told (Some s) so = by so.0 so.1
        where
          by : (pos : ℕ) → Best (get_or cs t None ∷ cs) (0 + length (get_or cs t None ∷ cs)) pos s → Furthest test t cs (Some s)
          by zero b = (t, b.at, b.passes, λ w y h p. ⊎_elim (λ c. inl c) (λ (c : (y.step ≡ s.step) × (0 ≤ suc w)). inr (c.0, inl refl)) (b.beats (suc w) y (within w y h) h p))
          by (suc u) b = (
            u,
            b.at,
            b.passes,
            λ w y h p.
                ⊎_elim
                (λ (q : w ≡ t).
                ⊎_elim
                (λ c. inl c)
                (λ (c : (y.step ≡ s.step) × (suc u ≤ 0)). let z = c.1 in absurd (omega arith))
                (b.beats 0 y (omega arith) (ap (λ m. get_or cs m None) (sym q) ∙ h) p))
                (λ (q : w ≡ t → ⊥). ⊎_elim (λ c. inl c) (λ (c : (y.step ≡ s.step) × (suc u ≤ suc w)). let z = c.1 in inr (c.0, inr (q, omega arith))) (b.beats (suc w) y (within w y h) h p))
                (cases_eq w t),
          )

pub picks_furthest : PicksFurthest
picks_furthest test t shadows = furthest_so test t shadows

-- the furthest of what remains is the furthest that has read nothing on the list
pub remaining-furthest : (own : List WriteEntry) (v : ℕ) (cs : Row) (o : Option Stand) → Furthest any_shadow v (remaining own cs) o → Furthest (unread own) v cs o
remaining-furthest own v cs None h = λ w y e.
    ⊎_elim
    (λ (r : has_read_any y.reads own ≡ true). not_from_true (has_read_any y.reads own) r)
    (λ (r : has_read_any y.reads own ≡ false). absurd (true≢false (h w y (get_or-map (kept own) cs w None ∙ ap (kept own) e ∙ kept-unread own y r))))
    (cases_Bool (has_read_any y.reads own))
remaining-furthest own v cs (Some s) h =
    let was = kept_was own (get_or cs h.0 None) s (sym (get_or-map (kept own) cs h.0 None) ∙ h.1) in
    (h.0, was.0, not_from_false (has_read_any s.reads own) was.1, λ w y e p. h.3 w y (get_or-map (kept own) cs w None ∙ ap (kept own) e ∙ kept-unread own y (not-true (has_read_any y.reads own) p)) refl)

-- what is copied where none passes: a start
pub copied : (test : Stand → Bool) (t : ℕ) (cs : Row) → FurthestOrStart test t cs (unwrap_or (furthest_of test t cs) start)
copied test t cs = by (furthest_of test t cs) (picks_furthest test t cs)
  where
    by : (o : Option Stand) → Furthest test t cs o → FurthestOrStart test t cs (unwrap_or o start)
    by None f = inr (refl, f)
    by (Some s) f = inl f

-- of two places that do not count after each other, both are one
tie : (t u w : ℕ) → (w ≡ t) ⊎ ((u ≢ t) × (w ≤ u)) → (u ≡ t) ⊎ ((w ≢ t) × (u ≤ w)) → u ≡ w
tie t u w a b =
    ⊎_elim
    (λ (q : w ≡ t). ⊎_elim (λ (p : u ≡ t). p ∙ sym q) (λ (p : (w ≢ t) × (u ≤ w)). absurd (p.0 q)) b)
    (λ (q : (u ≢ t) × (w ≤ u)). ⊎_elim (λ (p : u ≡ t). absurd (q.0 p)) (λ (p : (w ≢ t) × (u ≤ w)). let l = q.1 in let k = p.1 in omega arith) b)
    a

furthest-one : (test : Stand → Bool) (t : ℕ) (cs : Row) (s s' : Stand) → Furthest test t cs (Some s) → Furthest test t cs (Some s') → s ≡ s'
furthest-one test t cs s s' f g =
    let same : f.0 ≡ g.0 = by (g.3 f.0 s f.1 f.2) (f.3 g.0 s' g.1 g.2) in
    let m : Some s ≡ Some s' = sym f.1 ∙ ap (λ u. get_or cs u None) same ∙ g.1 in
    cc
  where
    by : (s.step < s'.step) ⊎ ((s.step ≡ s'.step) × ((g.0 ≡ t) ⊎ ((f.0 ≢ t) × (g.0 ≤ f.0)))) → (s'.step < s.step) ⊎ ((s'.step ≡ s.step) × ((f.0 ≡ t) ⊎ ((g.0 ≢ t) × (f.0 ≤ g.0)))) → f.0 ≡ g.0
    by a b =
        ⊎_elim
        (λ (x : s.step < s'.step). ⊎_elim (λ (y : s'.step < s.step). absurd (omega arith)) (λ (y : (s'.step ≡ s.step) × ((f.0 ≡ t) ⊎ ((g.0 ≢ t) × (f.0 ≤ g.0)))). let z = y.0 in absurd (omega arith)) b)
        (λ (x : (s.step ≡ s'.step) × ((g.0 ≡ t) ⊎ ((f.0 ≢ t) × (g.0 ≤ f.0)))).
        ⊎_elim (λ (y : s'.step < s.step). let z = x.0 in absurd (omega arith)) (λ (y : (s'.step ≡ s.step) × ((f.0 ≡ t) ⊎ ((g.0 ≢ t) × (f.0 ≤ g.0)))). tie t f.0 g.0 x.1 y.1) b)
        a

-- there is one furthest, or a start
pub furthest_or_start-one : (test : Stand → Bool) (t : ℕ) (cs : Row) (s s' : Stand) → FurthestOrStart test t cs s → FurthestOrStart test t cs s' → s ≡ s'
furthest_or_start-one test t cs s s' a b =
    ⊎_elim
    (λ (f : Furthest test t cs (Some s)). ⊎_elim
    (λ (g : Furthest test t cs (Some s')). furthest-one test t cs s s' f g)
    (λ (g : (s' ≡ start) × Furthest test t cs None). absurd (both_ways (test s) (g.1 f.0 s f.1) f.2))
    b)
    (λ (f : (s ≡ start) × Furthest test t cs None). ⊎_elim
    (λ (g : Furthest test t cs (Some s')). absurd (both_ways (test s') (f.1 g.0 s' g.1) g.2))
    (λ (g : (s' ≡ start) × Furthest test t cs None). f.0 ∙ sym g.0)
    b)
    a
