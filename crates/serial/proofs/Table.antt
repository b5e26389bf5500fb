-- Laws of the table of shadows: places, counts and the furthest. Assumes nothing.
use Rattle.std.proofs.Common.{◌≡◌, ℕ, zero, suc, ◌<◌, ◌≤◌, Bool, true, false, ◌&&◌, ltb, ◌≢◌, ◌⊎◌, List, [], ◌∷◌, length, replicate, get_or, set, is_some, Some, None, Option, sym, refl, ap, ◌∙◌, subst, inl, inr, ⊎_elim, arith, length-set, get_or-set_other, get_or-set_same}
use Rattle.std.proofs.lemmas.List.{get_or_past}
use Rattle.std.proofs.lemmas.Bool.{cases_Bool, cases_eq, cases_lt, cond-true, cond-false, and_parts, ltb-true, ltb-false, true≢false}
use Rattle.pages.specs.declared.WriteEntry.{WriteEntry}
use Rattle.serial.specs.Machine.{Stand, has_read_any}
use Rattle.serial.specs.Rules.{Row, Engine, row, shadow, with_shadow, ahead, better, furthest, furthest_of, count, kept, remaining}

pub none_is_some : {X A : Type 0} (x : X) → ◌≡◌ {A = Option X} None (Some x) → A
none_is_some x e = let z : ◌≡◌ {A = ℕ} 0 1 = cc in absurd (omega arith)

pub some_is : {X : Type 0} (o : Option X) → is_some o ≡ true → (x : X) × (o ≡ Some x)
some_is None h = absurd (true≢false (sym h))
some_is (Some x) h = (x, refl)

pub none_is : {X : Type 0} (o : Option X) → is_some o ≡ false → o ≡ None
none_is None h = refl
none_is (Some x) h = absurd (true≢false h)

-- an option that is there or not, with its equation
pub some_or_none : {X : Type 0} (o : Option X) → ((x : X) × (o ≡ Some x)) ⊎ (o ≡ None)
some_or_none None = inr refl
some_or_none (Some x) = inl (x, refl)

-- a place of the table, or another one
pub here_or_not : (v w t u : ℕ) → ((v ≡ t) × (w ≡ u)) ⊎ (v ≡ t → w ≡ u → ⊥)
here_or_not v w t u =
    ⊎_elim
    (λ (q : v ≡ t). ⊎_elim (λ (p : w ≡ u). inl (q, p)) (λ (p : w ≡ u → ⊥). inr (λ _ z. p z)) (cases_eq w u))
    (λ (q : v ≡ t → ⊥). inr (λ z _. q z))
    (cases_eq v t)

-- where nothing stands at any place
pub nothing_at : {X : Type 0} (n u : ℕ) → get_or {A = Option X} (replicate n None) u None ≡ None
nothing_at zero u = refl
nothing_at (suc n) zero = refl
nothing_at (suc n) (suc u) = nothing_at n u

-- what stands at a place is within the list
pub there-within : {X : Type 0} (xs : List (Option X)) (i : ℕ) (x : X) → get_or xs i None ≡ Some x → i < length xs
there-within xs i x e = ⊎_elim (λ (l : i < length xs). l) (λ (l : length xs ≤ i). none_is_some x (sym (get_or_past xs i None l) ∙ e)) (cases_lt i (length xs))

-- eight scripts, and eight rows of eight places
pub record Sized (e : Engine) : Type 0 where
  pub scripts : length e.scripts ≡ 8
  pub rows : length e.shadows ≡ 8
  pub places : (t : ℕ) → t < 8 → length (row e t) ≡ 8

module _ (e : Engine) (z : Sized e) where
  row_past : (t : ℕ) → 8 ≤ t → row e t ≡ []
  row_past t l = get_or_past e.shadows t [] (let r = z.rows in omega arith)

  pub shadow-within : (t u : ℕ) (s : Stand) → shadow e t u ≡ Some s → (t < 8) × (u < 8)
  shadow-within t u s h =
      ⊎_elim
      (λ (l : t < 8). (l, let w = there-within (row e t) u s h in omega (arith, z.places t l)))
      (λ (l : 8 ≤ t). none_is_some s (sym (ap (λ xs. get_or xs u None) (row_past t l)) ∙ h))
      (cases_lt t 8)

  module _ (t u : ℕ) (t_in : t < 8) (u_in : u < 8) (x : Option Stand) where
    t_row : t < length e.shadows
    t_row = let r = z.rows in omega arith

    pub row_put : row (with_shadow e t u x) t ≡ set (row e t) u x
    row_put = get_or-set_same e.shadows t (set (row e t) u x) [] t_row

    pub row_put_other : (v : ℕ) → v ≢ t → row (with_shadow e t u x) v ≡ row e v
    row_put_other v ne = get_or-set_other e.shadows t v (set (row e t) u x) [] ne

    pub shadow_put : shadow (with_shadow e t u x) t u ≡ x
    shadow_put = ap (λ xs. get_or xs u None) row_put ∙ get_or-set_same (row e t) u x None (let p = z.places t t_in in omega arith)

    pub shadow_put_place : (w : ℕ) → w ≢ u → shadow (with_shadow e t u x) t w ≡ shadow e t w
    shadow_put_place w ne = ap (λ xs. get_or xs w None) row_put ∙ get_or-set_other (row e t) u w x None ne

    pub shadow_put_row : (v w : ℕ) → v ≢ t → shadow (with_shadow e t u x) v w ≡ shadow e v w
    shadow_put_row v w ne = ap (λ xs. get_or xs w None) (row_put_other v ne)

    pub sized_put : Sized (with_shadow e t u x)
    sized_put = record {
      scripts = z.scripts;
      rows = length-set e.shadows t (set (row e t) u x) ∙ z.rows;
      places = λ v l.
          ⊎_elim
          (λ (q : v ≡ t). ap (λ k. length (row (with_shadow e t u x) k)) q ∙ ap length row_put ∙ length-set (row e t) u x ∙ z.places t t_in)
          (λ (q : v ≡ t → ⊥). ap length (row_put_other v q) ∙ z.places v l)
          (cases_eq v t);
    }

-- counting
pub count_set : (cs : Row) (u : ℕ) (s x : Stand) → get_or cs u None ≡ Some s → count (set cs u (Some x)) ≡ count cs
count_set [] u s x h = none_is_some s h
count_set (None ∷ cs) zero s x h = none_is_some s h
count_set (Some y ∷ cs) zero s x h = refl
count_set (None ∷ cs) (suc u) s x h = count_set cs u s x h
count_set (Some y ∷ cs) (suc u) s x h = ap suc (count_set cs u s x h)

pub count_add : (cs : Row) (u : ℕ) (x : Stand) → count (set cs u (Some x)) ≤ suc (count cs)
count_add [] u x = omega arith
count_add (None ∷ cs) zero x = omega arith
count_add (Some y ∷ cs) zero x = omega arith
count_add (None ∷ cs) (suc u) x = count_add cs u x
count_add (Some y ∷ cs) (suc u) x = let r = count_add cs u x in omega arith

pub count-length : (cs : Row) → count cs ≤ length cs
count-length [] = omega arith
count-length (None ∷ cs) = let r = count-length cs in omega arith
count-length (Some y ∷ cs) = let r = count-length cs in omega arith

-- a free place leaves room for one more
pub count_free : (cs : Row) (u : ℕ) → u < length cs → get_or cs u None ≡ None → count cs < length cs
count_free [] u l h = absurd (omega arith)
count_free (None ∷ cs) zero l h = let r = count-length cs in omega arith
count_free (Some y ∷ cs) zero l h = none_is_some y (sym h)
count_free (None ∷ cs) (suc u) l h = let r = count_free cs u (omega arith) h in omega arith
count_free (Some y ∷ cs) (suc u) l h = let r = count_free cs u (omega arith) h in omega arith

pub count_clear : (cs : Row) (u : ℕ) → count (set cs u None) ≤ count cs
count_clear [] u = omega arith
count_clear (None ∷ cs) zero = omega arith
count_clear (Some y ∷ cs) zero = omega arith
count_clear (None ∷ cs) (suc u) = count_clear cs u
count_clear (Some y ∷ cs) (suc u) = let r = count_clear cs u in omega arith

count_one : (own : List WriteEntry) (s : Stand) (cs : Row) → count (kept own (Some s) ∷ cs) ≤ suc (count cs)
count_one own s cs =
    ⊎_elim
    (λ (h : has_read_any s.reads own ≡ true). subst (λ o. count (o ∷ cs) ≤ suc (count cs)) (sym (cond-true (has_read_any s.reads own) None (Some s) h)) (omega arith))
    (λ (h : has_read_any s.reads own ≡ false). subst (λ o. count (o ∷ cs) ≤ suc (count cs)) (sym (cond-false (has_read_any s.reads own) None (Some s) h)) (omega arith))
    (cases_Bool (has_read_any s.reads own))

pub count-remaining : (own : List WriteEntry) (cs : Row) → count (remaining own cs) ≤ count cs
count-remaining own [] = omega arith
count-remaining own (None ∷ cs) = count-remaining own cs
count-remaining own (Some s ∷ cs) = let a = count_one own s (remaining own cs) in let b = count-remaining own cs in omega arith

-- a dropped shadow leaves one fewer
pub count_dropped : (own : List WriteEntry) (cs : Row) (u : ℕ) (s : Stand) → get_or cs u None ≡ Some s → has_read_any s.reads own ≡ true → count (remaining own cs) < count cs
count_dropped own [] u s h d = none_is_some s h
count_dropped own (None ∷ cs) zero s h d = none_is_some s h
count_dropped own (Some y ∷ cs) zero s h d =
    let same : y ≡ s = cc in
    let gone : kept own (Some y) ≡ None = cond-true (has_read_any y.reads own) None (Some y) (ap (λ q. has_read_any q.reads own) same ∙ d) in
    let b = count-remaining own cs in
    subst (λ o. count (o ∷ remaining own cs) < suc (count cs)) (sym gone) (omega arith)
count_dropped own (None ∷ cs) (suc u) s h d = count_dropped own cs u s h d
count_dropped own (Some y ∷ cs) (suc u) s h d = let a = count_one own y (remaining own cs) in let b = count_dropped own cs u s h d in omega arith

-- a shadow that remains was there and has read nothing on the list
pub kept_was : (own : List WriteEntry) (o : Option Stand) (s : Stand) → kept own o ≡ Some s → (o ≡ Some s) × (has_read_any s.reads own ≡ false)
kept_was own None s h = none_is_some s h
kept_was own (Some x) s h =
    ⊎_elim
    (λ (d : has_read_any x.reads own ≡ true). none_is_some s (sym (cond-true (has_read_any x.reads own) None (Some x) d) ∙ h))
    (λ (d : has_read_any x.reads own ≡ false).
    let same : x ≡ s = let k = sym (cond-false (has_read_any x.reads own) None (Some x) d) ∙ h in cc in
    (ap Some same, ap (λ q. has_read_any q.reads own) (sym same) ∙ d))
    (cases_Bool (has_read_any x.reads own))

pub kept-unread : (own : List WriteEntry) (s : Stand) → has_read_any s.reads own ≡ false → kept own (Some s) ≡ Some s
kept-unread own s d = cond-false (has_read_any s.reads own) None (Some s) d

-- the furthest of some shadows
module _ (test : Stand → Bool) where
  -- one of them that passes, or the best before
  better_among : (best c : Option Stand) (s : Stand) → better test best c ≡ Some s → (best ≡ Some s) ⊎ ((c ≡ Some s) × (test s ≡ true))
  better_among best None s h = inl h
  better_among best (Some x) s h =
      ⊎_elim
      (λ (t : (test x && ahead x best) ≡ true).
      let same : x ≡ s = let k = sym (cond-true (test x && ahead x best) (Some x) best t) ∙ h in cc in
      inr (ap Some same, ap test (sym same) ∙ (and_parts (test x) (ahead x best) t).0))
      (λ (t : (test x && ahead x best) ≡ false). inl (sym (cond-false (test x && ahead x best) (Some x) best t) ∙ h))
      (cases_Bool (test x && ahead x best))

  pub furthest_among : (best : Option Stand) (cs : Row) (s : Stand) → furthest test best cs ≡ Some s → (best ≡ Some s) ⊎ ((u : ℕ) × (get_or cs u None ≡ Some s) × (test s ≡ true))
  furthest_among best [] s h = inl h
  furthest_among best (c ∷ cs) s h =
      ⊎_elim
      (λ (b : better test best c ≡ Some s). ⊎_elim (λ x. inl x) (λ (y : (c ≡ Some s) × (test s ≡ true)). inr (0, y.0, y.1)) (better_among best c s b))
      (λ (r : (u : ℕ) × (get_or cs u None ≡ Some s) × (test s ≡ true)). inr (suc r.0, r.1, r.2))
      (furthest_among (better test best c) cs s h)

  -- at a step no lower than another
  abbrev NoLower : Option Stand → ℕ → Type 0
  NoLower o n = (b : Stand) × (o ≡ Some b) × (n ≤ b.step)

  better_best : (b : Stand) (c : Option Stand) → NoLower (better test (Some b) c) b.step
  better_best b None = (b, refl, omega arith)
  better_best b (Some x) =
      ⊎_elim
      (λ (t : (test x && ltb b.step x.step) ≡ true).
      let l = ltb-true b.step x.step (and_parts (test x) (ltb b.step x.step) t).1 in
      (x, cond-true (test x && ltb b.step x.step) (Some x) (Some b) t, omega arith))
      (λ (t : (test x && ltb b.step x.step) ≡ false). (b, cond-false (test x && ltb b.step x.step) (Some x) (Some b) t, omega arith))
      (cases_Bool (test x && ltb b.step x.step))

  better_this : (best : Option Stand) (s : Stand) → test s ≡ true → NoLower (better test best (Some s)) s.step
  better_this None s t = (s, cond-true (test s && true) (Some s) None (ap (λ b. b && true) t), omega arith)
  better_this (Some b) s t =
      ⊎_elim
      (λ (l : ltb b.step s.step ≡ true). (s, cond-true (test s && ltb b.step s.step) (Some s) (Some b) (ap (λ x. x && ltb b.step s.step) t ∙ l), omega arith))
      (λ (l : ltb b.step s.step ≡ false).
      let k = ltb-false b.step s.step l in
      (b, cond-false (test s && ltb b.step s.step) (Some s) (Some b) (ap (λ x. x && ltb b.step s.step) t ∙ l), k))
      (cases_Bool (ltb b.step s.step))

  furthest_best : (b : Stand) (cs : Row) → NoLower (furthest test (Some b) cs) b.step
  furthest_best b [] = (b, refl, omega arith)
  furthest_best b (c ∷ cs) =
      let n = better_best b c in
      let r = furthest_best n.0 cs in
      let low : b.step ≤ n.0.step = n.2 in
      let low' : n.0.step ≤ r.0.step = r.2 in
      (r.0, ap (λ o. furthest test o cs) n.1 ∙ r.1, omega arith)

  pub furthest_most : (best : Option Stand) (cs : Row) (u : ℕ) (s : Stand) → get_or cs u None ≡ Some s → test s ≡ true → NoLower (furthest test best cs) s.step
  furthest_most best [] u s h t = none_is_some s h
  furthest_most best (c ∷ cs) zero s h t =
      let n = better_this best s t in
      let r = furthest_best n.0 cs in
      let low : s.step ≤ n.0.step = n.2 in
      let low' : n.0.step ≤ r.0.step = r.2 in
      (r.0, ap (λ o. furthest test (better test best o) cs) h ∙ ap (λ o. furthest test o cs) n.1 ∙ r.1, omega arith)
  furthest_most best (c ∷ cs) (suc u) s h t = furthest_most (better test best c) cs u s h t

  pub furthest_of_among : (t : ℕ) (cs : Row) (s : Stand) → furthest_of test t cs ≡ Some s → (u : ℕ) × (get_or cs u None ≡ Some s) × (test s ≡ true)
  furthest_of_among t cs s h =
      ⊎_elim
      (λ (b : None ≡ Some s). none_is_some s b)
      (λ (r : (u : ℕ) × (get_or (get_or cs t None ∷ cs) u None ≡ Some s) × (test s ≡ true)). placed r.0 r.1 r.2)
      (furthest_among None (get_or cs t None ∷ cs) s h)
    where
      placed : (u : ℕ) → get_or (get_or cs t None ∷ cs) u None ≡ Some s → test s ≡ true → (u : ℕ) × (get_or cs u None ≡ Some s) × (test s ≡ true)
      placed zero e k = (t, e, k)
      placed (suc u) e k = (u, e, k)

  pub furthest_of_most : (t : ℕ) (cs : Row) (u : ℕ) (s : Stand) → get_or cs u None ≡ Some s → test s ≡ true → (b : Stand) × (furthest_of test t cs ≡ Some b) × (s.step ≤ b.step)
  furthest_of_most t cs u s h k = furthest_most None (get_or cs t None ∷ cs) (suc u) s h k
