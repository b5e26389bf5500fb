-- Pages on a list of writes: where they stand, with which word, and what a write and puts do. Assumes nothing.
use Rattle.std.proofs.Common.{◌≡◌, ℕ, zero, suc, ◌<◌, Bool, true, false, cond, eqb, ◌≢◌, ◌⊎◌, List, [], ◌∷◌, ◌++◌, length, get_or, set, Some, None, Option, sym, refl, ap, ◌∙◌, subst, inl, inr, ⊎_elim, arith, length-set, get_or-set_same, not}
use Rattle.std.specs.List.{slice_get}
use Rattle.std.proofs.lemmas.Bool.{cases_Bool, cases_eq, cond-true, cond-false, or_left, or_right, or_from, eqb-true, eqb-false, ne_eqb, both_ways, and_parts, and_from, not-true, not_from_false, false_from_ne_true}
use Rattle.pages.specs.Pages.{entry}
use Rattle.pages.specs.declared.WriteEntry.{WriteEntry}
use Rattle.serial.specs.Machine.{written, write, has_written}
use Rattle.serial.specs.Alone.{put_all}
use Rattle.serial.specs.Sound.{stands_once}
use Rattle.serial.specs.OneStep.{OnList, NotOnList, Once, ListTakes}
use Rattle.serial.specs.WriteLaws.{PutsInWords}
use Rattle.serial.proofs.Table.{none_is_some}
use Rattle.serial.proofs.Steps.{written_more}
use Rattle.serial.proofs.Runs.{length-put_all, put_all_other}

-- a page is on a list, with the word that the list tells first, or off it
pub record Found (own : List WriteEntry) (p : ℕ) : Type 0 where
  pub word : ℕ
  pub stands : OnList own p word
  pub told : written own p ≡ Some word
  pub has : has_written own p ≡ true

pub record Missing (own : List WriteEntry) (p : ℕ) : Type 0 where
  pub off : NotOnList own p
  pub told : written own p ≡ None
  pub has : has_written own p ≡ false

pub off-tail : (e : WriteEntry) (es : List WriteEntry) (p : ℕ) → NotOnList (e ∷ es) p → NotOnList es p
off-tail e es p off w h = off w (suc h.0, h.1)

pub off-head : (e : WriteEntry) (es : List WriteEntry) (p : ℕ) → NotOnList (e ∷ es) p → e.page ≢ p
off-head e es p off same = off e.word (0, ap (λ q. Some (entry q e.word)) same)

pub off-cons : (e : WriteEntry) (es : List WriteEntry) (p : ℕ) → e.page ≢ p → NotOnList es p → NotOnList (e ∷ es) p
off-cons e es p ne off w h = at h.0 h.1
  where
    at : (i : ℕ) → slice_get (e ∷ es) i ≡ Some (entry p w) → ⊥
    at zero q = let same : e ≡ entry p w = cc in ne (ap (λ x. x.page) same)
    at (suc i) q = off w (i, q)

pub looked : (own : List WriteEntry) (p : ℕ) → Found own p ⊎ Missing own p
looked [] p = inr (record { off = λ w h. none_is_some (entry p w) h.1; told = refl; has = refl })
looked (e ∷ es) p =
    ⊎_elim
    (λ (h : eqb e.page p ≡ true).
    inl (record {
      word = e.word;
      stands = (0, ap (λ q. Some (entry q e.word)) (eqb-true e.page p h));
      told = cond-true (eqb e.page p) (Some e.word) (written es p) h;
      has = or_left (eqb e.page p) (has_written es p) h;
    }))
    (λ (h : eqb e.page p ≡ false).
    let here : written (e ∷ es) p ≡ written es p = cond-false (eqb e.page p) (Some e.word) (written es p) h in
    ⊎_elim
    (λ (f : Found es p). inl (record { word = f.word; stands = (suc f.stands.0, f.stands.1); told = here ∙ f.told; has = or_right (eqb e.page p) (has_written es p) f.has }))
    (λ (m : Missing es p). inr (record { off = off-cons e es p (eqb-false e.page p h) m.off; told = here ∙ m.told; has = or_from (eqb e.page p) (has_written es p) h m.has }))
    (looked es p))
    (cases_Bool (eqb e.page p))

pub off_told : (own : List WriteEntry) (p : ℕ) → NotOnList own p → Missing own p
off_told own p off = ⊎_elim (λ (f : Found own p). absurd (off f.word f.stands)) (λ (m : Missing own p). m) (looked own p)

pub stands_found : (own : List WriteEntry) (p w : ℕ) → OnList own p w → Found own p
stands_found own p w h = ⊎_elim (λ (f : Found own p). f) (λ (m : Missing own p). absurd (m.off w h)) (looked own p)

pub has_found : (own : List WriteEntry) (p : ℕ) → has_written own p ≡ true → Found own p
has_found own p h = ⊎_elim (λ (f : Found own p). f) (λ (m : Missing own p). absurd (both_ways (has_written own p) m.has h)) (looked own p)

pub has_off : (own : List WriteEntry) (p : ℕ) → has_written own p ≡ false → NotOnList own p
has_off own p h = ⊎_elim (λ (f : Found own p). absurd (both_ways (has_written own p) h f.has)) (λ (m : Missing own p). m.off) (looked own p)

-- a page that stands once has one word
pub one_word : (own : List WriteEntry) → Once own → (p v w : ℕ) → OnList own p v → OnList own p w → v ≡ w
one_word own once p v w a b =
    ⊎_elim
    (λ (q : a.0 ≡ b.0).
    let same : Some (entry p v) ≡ Some (entry p w) = sym a.1 ∙ ap (slice_get own) q ∙ b.1 in
    let e : entry p v ≡ entry p w = cc in
    ap (λ x. x.word) e)
    (λ (q : a.0 ≡ b.0 → ⊥). absurd (once a.0 b.0 (entry p v) (entry p w) q a.1 b.1 refl))
    (cases_eq a.0 b.0)

pub stands_told : (own : List WriteEntry) → Once own → (p w : ℕ) → OnList own p w → written own p ≡ Some w
stands_told own once p w h = let f = stands_found own p w h in f.told ∙ ap Some (one_word own once p f.word w f.stands h)

pub told_stands : (own : List WriteEntry) (p w : ℕ) → written own p ≡ Some w → OnList own p w
told_stands own p w h =
    ⊎_elim
    (λ (f : Found own p). let e : f.word ≡ w = let z : Some f.word ≡ Some w = sym f.told ∙ h in cc in subst (OnList own p) e f.stands)
    (λ (m : Missing own p). none_is_some w (sym m.told ∙ h))
    (looked own p)

-- a page stands once on a list just if the first entry's page is off the rest, on which one stands once
pub once-tail : (e : WriteEntry) (es : List WriteEntry) → Once (e ∷ es) → Once es
once-tail e es once i j x y ne a b = once (suc i) (suc j) x y (λ q. ne (omega arith)) a b

pub once-off : (e : WriteEntry) (es : List WriteEntry) → Once (e ∷ es) → NotOnList es e.page
once-off e es once w h = once 0 (suc h.0) e (entry e.page w) (λ q. omega arith) refl h.1 refl

pub once-cons : (e : WriteEntry) (es : List WriteEntry) → Once es → NotOnList es e.page → Once (e ∷ es)
once-cons e es once off zero zero x y ne a b = absurd (ne refl)
once-cons e es once off zero (suc j) x y ne a b = λ q.
    let same : e ≡ x = cc in
    off y.word (j, b ∙ ap (λ p. Some (entry p y.word)) (sym q ∙ ap (λ z. z.page) (sym same)))
once-cons e es once off (suc i) zero x y ne a b = λ q.
    let same : e ≡ y = cc in
    off x.word (i, a ∙ ap (λ p. Some (entry p x.word)) (q ∙ ap (λ z. z.page) (sym same)))
once-cons e es once off (suc i) (suc j) x y ne a b = once i j x y (λ q. ne (ap suc q)) a b

-- a write of another page leaves a page off the list
off_write : (own : List WriteEntry) (p w q : ℕ) → NotOnList own q → p ≢ q → NotOnList (write own p w) q
off_write own p w q off ne =
    has_off (write own p w) q (written_more own p w q ∙ or_from (has_written own q) (eqb p q) (off_told own q off).has (ne_eqb p q ne))

pub once_write : (own : List WriteEntry) (p w : ℕ) → Once own → Once (write own p w)
once_write [] p w once = once-cons (entry p w) [] once (λ v h. none_is_some (entry p v) h.1)
once_write (e ∷ es) p w once =
    ⊎_elim
    (λ (h : eqb e.page p ≡ true).
    subst Once (sym (cond-true (eqb e.page p) (entry p w ∷ es) (e ∷ write es p w) h))
    (once-cons (entry p w) es (once-tail e es once) (subst (NotOnList es) (eqb-true e.page p h) (once-off e es once))))
    (λ (h : eqb e.page p ≡ false).
    subst Once (sym (cond-false (eqb e.page p) (entry p w ∷ es) (e ∷ write es p w) h))
    (once-cons e (write es p w) (once_write es p w (once-tail e es once)) (off_write es p w e.page (once-off e es once) (λ q. eqb-false e.page p h (sym q)))))
    (cases_Bool (eqb e.page p))

-- the word of a page after a write
pub written-write : (own : List WriteEntry) (p w q : ℕ) → written (write own p w) q ≡ cond (eqb p q) (Some w) (written own q)
written-write [] p w q = refl
written-write (e ∷ es) p w q =
    ⊎_elim
    (λ (h : eqb e.page p ≡ true).
    let same : e.page ≡ p = eqb-true e.page p h in
    ap (λ xs. written xs q) (cond-true (eqb e.page p) (entry p w ∷ es) (e ∷ write es p w) h)
    ∙ hidden (eqb p q) (Some w) (Some e.word) (written es q)
    ∙ ap (λ x. cond (eqb p q) (Some w) (cond (eqb x q) (Some e.word) (written es q))) (sym same))
    (λ (h : eqb e.page p ≡ false).
    ap (λ xs. written xs q) (cond-false (eqb e.page p) (entry p w ∷ es) (e ∷ write es p w) h)
    ∙ ap (cond (eqb e.page q) (Some e.word)) (written-write es p w q)
    ∙ apart (eqb e.page q) (eqb p q) (Some e.word) (Some w) (written es q) (λ a b. eqb-false e.page p h (eqb-true e.page q a ∙ sym (eqb-true p q b))))
    (cases_Bool (eqb e.page p))
  where
    hidden : (b : Bool) (x y z : Option ℕ) → cond b x z ≡ cond b x (cond b y z)
    hidden true x y z = refl
    hidden false x y z = refl

    apart : (a b : Bool) (x y z : Option ℕ) → (a ≡ true → b ≡ true → ⊥) → cond a x (cond b y z) ≡ cond b y (cond a x z)
    apart true true x y z never = absurd (never refl refl)
    apart true false x y z never = refl
    apart false true x y z never = refl
    apart false false x y z never = refl

-- a write does to the list what is said of it
module _ (p w : ℕ) where
  abbrev InPlace : List WriteEntry → List WriteEntry → ℕ → Type 0
  InPlace own own' i = (slice_get own' i ≡ Some (entry p w)) × ((j : ℕ) → j ≢ i → slice_get own' j ≡ slice_get own j)

  first_place : (e : WriteEntry) (es : List WriteEntry) (i before : ℕ) → Once (e ∷ es) → e.page ≡ p → slice_get (e ∷ es) i ≡ Some (entry p before) → InPlace (e ∷ es) (entry p w ∷ es) i
  first_place e es zero before once same h = (refl, rest)
    where
      rest : (j : ℕ) → j ≢ 0 → slice_get (entry p w ∷ es) j ≡ slice_get (e ∷ es) j
      rest zero ne = absurd (ne refl)
      rest (suc j) ne = refl
  first_place e es (suc i) before once same h = absurd (once-off e es once before (i, h ∙ ap (λ q. Some (entry q before)) (sym same)))

  later_place : (e : WriteEntry) (es es' : List WriteEntry) (i before : ℕ) → e.page ≢ p → slice_get (e ∷ es) i ≡ Some (entry p before) → ((k : ℕ) → slice_get es k ≡ Some (entry p before) → InPlace es es' k) → InPlace (e ∷ es) (e ∷ es') i
  later_place e es es' zero before ne h rest = let same : e ≡ entry p before = cc in absurd (ne (ap (λ x. x.page) same))
  later_place e es es' (suc i) before ne h rest = let r = rest i h in (r.0, others r.1)
    where
      others : ((j : ℕ) → j ≢ i → slice_get es' j ≡ slice_get es j) → (j : ℕ) → j ≢ suc i → slice_get (e ∷ es') j ≡ slice_get (e ∷ es) j
      others same zero d = refl
      others same (suc j) d = same j (λ q. d (ap suc q))

  write-in_place : (own : List WriteEntry) → Once own → (i before : ℕ) → slice_get own i ≡ Some (entry p before) → InPlace own (write own p w) i
  write-in_place [] once i before h = none_is_some (entry p before) h
  write-in_place (e ∷ es) once i before h =
      ⊎_elim
      (λ (q : eqb e.page p ≡ true).
      subst (λ xs. InPlace (e ∷ es) xs i) (sym (cond-true (eqb e.page p) (entry p w ∷ es) (e ∷ write es p w) q)) (first_place e es i before once (eqb-true e.page p q) h))
      (λ (q : eqb e.page p ≡ false).
      subst (λ xs. InPlace (e ∷ es) xs i) (sym (cond-false (eqb e.page p) (entry p w ∷ es) (e ∷ write es p w) q)) (later_place e es (write es p w) i before (eqb-false e.page p q) h (λ k z. write-in_place es (once-tail e es once) k before z)))
      (cases_Bool (eqb e.page p))

  write-added : (own : List WriteEntry) → NotOnList own p → write own p w ≡ own ++ (entry p w ∷ [])
  write-added [] off = refl
  write-added (e ∷ es) off =
      cond-false (eqb e.page p) (entry p w ∷ es) (e ∷ write es p w) (ne_eqb e.page p (off-head e es p off)) ∙ ap (λ xs. e ∷ xs) (write-added es (off-tail e es p off))

pub write-takes : (own : List WriteEntry) (p w : ℕ) → Once own → ListTakes own p w (write own p w)
write-takes own p w once = record { in_place = write-in_place p w own once; added = write-added p w own }

-- lists that agree at each place are one
pub same_by_place : {X : Type 0} (xs ys : List X) → ((j : ℕ) → slice_get xs j ≡ slice_get ys j) → xs ≡ ys
same_by_place [] [] h = refl
same_by_place [] (y ∷ ys) h = none_is_some y (h 0)
same_by_place (x ∷ xs) [] h = none_is_some x (sym (h 0))
same_by_place (x ∷ xs) (y ∷ ys) h =
    let a : x ≡ y = let z : Some x ≡ Some y = h 0 in cc in
    let b = same_by_place xs ys (λ j. h (suc j)) in
    cc

-- what a list is that takes a word for a page is determined
pub takes_one_way : (own xs ys : List WriteEntry) (p w : ℕ) → ListTakes own p w xs → ListTakes own p w ys → xs ≡ ys
takes_one_way own xs ys p w a b =
    ⊎_elim
    (λ (f : Found own p).
    let i = f.stands.0 in
    let x = a.in_place i f.word f.stands.1 in
    let y = b.in_place i f.word f.stands.1 in
    same_by_place xs ys (λ j. ⊎_elim (λ (q : j ≡ i). ap (slice_get xs) q ∙ x.0 ∙ sym y.0 ∙ ap (slice_get ys) (sym q)) (λ (q : j ≡ i → ⊥). x.1 j q ∙ sym (y.1 j q)) (cases_eq j i)))
    (λ (m : Missing own p). a.added m.off ∙ sym (b.added m.off))
    (looked own p)

-- after the puts each page that there is has its word
put_all-listed : (own : List WriteEntry) (pages : List ℕ) → Once own → (p w i : ℕ) → slice_get own i ≡ Some (entry p w) → p < length pages → get_or (put_all own pages) p 0 ≡ w
put_all-listed [] pages once p w i h l = none_is_some (entry p w) h
put_all-listed (e ∷ es) pages once p w zero h l =
    let same : e ≡ entry p w = cc in
    let page : e.page ≡ p = ap (λ x. x.page) same in
    let off : NotOnList es p = subst (NotOnList es) page (once-off e es once) in
    put_all_other es (set pages e.page e.word) p (off_told es p off).has
    ∙ ap (λ x. get_or (set pages x.page x.word) p 0) same
    ∙ get_or-set_same pages p w 0 l
put_all-listed (e ∷ es) pages once p w (suc i) h l =
    put_all-listed es (set pages e.page e.word) (once-tail e es once) p w i h (let n = length-set pages e.page e.word in omega arith)

pub puts_in_words : PutsInWords
puts_in_words own pages once = record {
  size = length-put_all own pages;
  listed = λ p w h l. put_all-listed own pages once p w h.0 h.1 l;
  others = λ p off. put_all_other own pages p (off_told own p off).has;
}

-- the test of a page that stands on a list once
pub once_told : (own : List WriteEntry) → stands_once own ≡ true → Once own
once_told [] h = λ i j x y ne a b. none_is_some x a
once_told (w ∷ own) h = by (once_told own (and_parts (not (has_written own w.page)) (stands_once own) h).1)
  where
    -- the first page is not on the rest
    apart : (k : ℕ) (z : WriteEntry) → slice_get own k ≡ Some z → w.page ≢ z.page
    apart k z q same = both_ways (has_written own w.page) (not-true (has_written own w.page) (and_parts (not (has_written own w.page)) (stands_once own) h).0) (ap (has_written own) same ∙ (stands_found own z.page z.word (k, q)).has)

    by : Once own → Once (w ∷ own)
    by rest zero zero x y ne a b = absurd (ne refl)
    by rest zero (suc j) x y ne a b = let same : w ≡ x = cc in λ q. apart j y b (ap (λ z. z.page) same ∙ q)
    by rest (suc i) zero x y ne a b = let same : w ≡ y = cc in λ q. apart i x a (ap (λ z. z.page) same ∙ sym q)
    by rest (suc i) (suc j) x y ne a b = rest i j x y (λ q. ne (ap suc q)) a b

pub told_once : (own : List WriteEntry) → Once own → stands_once own ≡ true
told_once [] once = refl
told_once (w ∷ own) once =
    and_from (not (has_written own w.page)) (stands_once own)
    (not_from_false (has_written own w.page) (false_from_ne_true (has_written own w.page) (λ h.
    let f = has_found own w.page h in
    once 0 (suc f.stands.0) w (entry w.page f.word) (λ (q : 0 ≡ suc f.stands.0). omega arith) refl f.stands.1 refl)))
    (told_once own (λ i j x y ne a b. once (suc i) (suc j) x y (λ (q : suc i ≡ suc j). ne (omega arith)) a b))
