-- The rules by index and those that compute say the same. Assumes nothing.
use Rattle.std.proofs.Common.{◌||◌, ◌≡◌, ℕ, zero, suc, ◌+◌, ◌-◌, ◌*◌, ◌<◌, ◌≤◌, Bool, true, false, eqb, nat_lt, ◌≢◌, ◌⊎◌, ◌↔◌, Option, List, [], slice_index, length, get_or, drop, Some, None, sym, refl, ap, ◌∙◌, subst, inl, inr, ⊎_elim, arith, get_or-drop, get_or-take, get_or-set_other}
use Rattle.std.specs.Prelude.{unwrap_or}
use Rattle.std.proofs.lemmas.List.{ext_get_or}
use Rattle.std.proofs.lemmas.Option.{same_Some, none-some}
use Rattle.std.proofs.lemmas.Bool.{and_parts, and_cases, or_cases, or_parts, ltb-true, ltb-false, eqb-true, eqb-false, cases_eq, cases_lt, cases_order, cases_Bool, cond_both, cond-true, cond-false, true≢false}
use Rattle.pages.specs.Entries.{carried, latest}
use Rattle.pages.specs.Log.{size_word, capacity, used, entry_page, entry_word, sound, base, log_pages, emptied, appended, log_put}
use Rattle.pages.specs.Image.{image_size, image_named, number_offset, named_page, named_word, good_number, or_this, first_bad, bad_number, image_fault, image_pages, length-image_pages}
use Rattle.pages.specs.ByIndex.{LastNaming, LastWord, IsSound, LogPages, page_place, word_place, EntryPut, Besides, LogPut, IsBad, FirstBad, NoneBad, Fits, place, FirstFits, NoneFits, NamedWord, ImagePages}
use Rattle.pages.specs.declared.fault.ImageFault.{ImageFault}
use Rattle.pages.specs.declared.fault.ImageFault.TheVariants.{Truncated, TooManyPages, TooManyNamed, WrongLength, BadNumber}
use Rattle.pages.proofs.Entries.{get_or-carried, carried_part, latest_at, latest_none}
use Rattle.pages.proofs.Logs.{sound_facts, sound_from, length-base, length-log_pages, read_is, elsewhere, length-appended, used_more, page_at, word_at, page_new, word_new, named_all, beside, length-emptied, emptied_size, emptied-capacity, emptied-used, emptied-sound, kept-room, made_room}
use Rattle.pages.proofs.Images.{all_good, first_found, rising, image_read}

-- the last entry naming a page, and the word that it gives
module _ (page word : ℕ → ℕ) where
  -- one more entry, which names another page
  one_more : (p i n : ℕ) → LastNaming page n p i → page n ≢ p → LastNaming page (suc n) p i
  one_more p i n h other =
      let within = h.within in
      record {
        within = omega arith;
        named = h.named;
        later = λ j a b. ⊎_elim (λ (e : j ≡ n). subst (λ k. page k ≢ p) (sym e) other) (λ (ne : j ≡ n → ⊥). h.later j a (omega arith)) (cases_eq j n);
      }

  latest_is : (p old n : ℕ) → LastWord page word n p old (latest page word p old n)
  latest_is p old zero = inr (λ i l. absurd (omega arith), refl)
  latest_is p old (suc n) =
      cond_both (eqb (page n) p) (word n) (latest page word p old n) (LastWord page word (suc n) p old)
      (λ e. inl (n, record { within = omega arith; named = eqb-true (page n) p e; later = λ j a b. absurd (omega arith) }, refl))
      (λ e.
      let other : page n ≢ p = eqb-false (page n) p e in
      ⊎_elim
      (λ (h : (i : ℕ) × LastNaming page n p i × (latest page word p old n ≡ word i)). inl (h.0, one_more p h.0 n h.1 other, h.2))
      (λ (h : ((i : ℕ) → i < n → page i ≢ p) × (latest page word p old n ≡ old)).
      inr (
        λ i l. ⊎_elim (λ (q : i ≡ n). subst (λ k. page k ≢ p) (sym q) other) (λ (ne : i ≡ n → ⊥). h.0 i (omega arith)) (cases_eq i n),
        h.1,
      ))
      (latest_is p old n))

  -- and it is the one word
  is_latest : (p old n w : ℕ) → LastWord page word n p old w → w ≡ latest page word p old n
  is_latest p old n w h =
      ⊎_elim
      (λ (x : (i : ℕ) × LastNaming page n p i × (w ≡ word i)). x.2 ∙ sym (latest_at page word p old n x.0 x.1.within x.1.named x.1.later))
      (λ (x : ((i : ℕ) → i < n → page i ≢ p) × (w ≡ old)). x.1 ∙ sym (latest_none page word p old n x.0))
      h

  one_word : (p old n w x : ℕ) → LastWord page word n p old w → LastWord page word n p old x → w ≡ x
  one_word p old n w x h k = is_latest p old n w h ∙ sym (is_latest p old n x k)

pub sound_by_index : (ws : List ℕ) → (sound ws ≡ true) ↔ IsSound ws
sound_by_index ws = (sound_facts ws, sound_from ws)

-- the pages of a log
module _ (ws : List ℕ) where
  log_pages_are : LogPages ws (log_pages ws)
  log_pages_are = record {
    count = λ s. length-log_pages ws (sound_from ws s);
    each = λ s p low.
        let old = slice_index ws (3 + p) in
        subst (LastWord (entry_page ws) (entry_word ws) (used ws) p old) (sym (read_is ws p (sound_from ws s) low)) (latest_is (entry_page ws) (entry_word ws) p old (used ws));
    unsound = λ no.
        ⊎_elim (λ (h : sound ws ≡ true). absurd (no (sound_facts ws h)))
        (λ (h : sound ws ≡ false). cond-false (sound ws) (carried (entry_page ws) (entry_word ws) 0 (base ws) (used ws)) [] h)
        (cases_Bool (sound ws));
  }

  one_log : (pages other : List ℕ) → LogPages ws pages → LogPages ws other → pages ≡ other
  one_log pages other h k =
      ⊎_elim
      (λ (t : sound ws ≡ true).
      let s = sound_facts ws t in
      ext_get_or 0 pages other (h.count s ∙ sym (k.count s))
      (λ p l.
      let low : p < size_word ws = omega (arith, h.count s) in
      one_word (entry_page ws) (entry_word ws) p (slice_index ws (3 + p)) (used ws) _ _ (h.each s p low) (k.each s p low)))
      (λ (t : sound ws ≡ false).
      let no : IsSound ws → ⊥ = λ s. true≢false (sym (sound_from ws s) ∙ t) in
      h.unsound no ∙ sym (k.unsound no))
      (cases_Bool (sound ws))

  pub log_pages_by_index : (pages : List ℕ) → (log_pages ws ≡ pages) ↔ LogPages ws pages
  log_pages_by_index pages = (λ e. subst (LogPages ws) e log_pages_are, λ h. one_log (log_pages ws) pages log_pages_are h)

-- an append to a log with room
module _ (ws : List ℕ) (p w : ℕ) (h : sound ws ≡ true) (room : used ws < capacity ws) (low : p < size_word ws) where
  appended-entry : EntryPut ws (used ws) p w (appended ws p w)
  appended-entry =
      let more : used (appended ws p w) ≡ suc (used ws) = used_more ws p w h room low in
      record {
        long = length-appended ws p w h room low;
        count = omega arith;
        page = sym (page_at ws p w h room low (used ws)) ∙ page_new ws p w h room low;
        word = sym (word_at ws p w h room low (used ws)) ∙ word_new ws p w h room low;
      }

  appended_kept : (k : ℕ) → Besides ws (used ws) k → get_or (appended ws p w) k 0 ≡ get_or ws k 0
  appended_kept k b = elsewhere ws p w h room low k b.0 b.1 b.2

-- a put to a full log
module _ (ws : List ℕ) (p w : ℕ) (h : sound ws ≡ true) (full : used ws ≡ capacity ws) (low : p < size_word ws) where
  abbrev vs : List ℕ
  vs = emptied ws

  size : size_word vs ≡ size_word ws
  size = emptied_size ws h full

  room_same : capacity vs ≡ capacity ws
  room_same = emptied-capacity ws h full

  none_used : used vs ≡ 0
  none_used = emptied-used ws h full

  free : used vs < capacity vs
  free = omega (arith, none_used, room_same, (sound_facts ws h).some)

  low_still : p < size_word vs
  low_still = omega (arith, size)

  entry : EntryPut vs (used vs) p w (appended vs p w)
  entry = appended-entry vs p w (emptied-sound ws h full) free low_still

  page_there : page_place vs (used vs) ≡ page_place ws 0
  page_there = omega (arith, size, none_used)

  word_there : word_place vs (used vs) ≡ word_place ws 0
  word_there = omega (arith, size, room_same, none_used)

  full-entry : EntryPut ws 0 p w (appended vs p w)
  full-entry =
      let e = entry in
      record {
        long = e.long ∙ length-emptied ws h full;
        count = omega (arith, e.count, none_used);
        page = ap (λ k. get_or (appended vs p w) k 0) (sym page_there) ∙ e.page;
        word = ap (λ k. get_or (appended vs p w) k 0) (sym word_there) ∙ e.word;
      }

  full_kept : (k : ℕ) → Besides ws 0 k → get_or (appended vs p w) k 0 ≡ get_or vs k 0
  full_kept k b = appended_kept vs p w (emptied-sound ws h full) free low_still k (b.0, λ e. b.1 (e ∙ page_there), λ e. b.2 (e ∙ word_there))

  full_rest : (k : ℕ) → (k < 3) ⊎ (3 + size_word ws ≤ k) → Besides ws 0 k → get_or (appended vs p w) k 0 ≡ get_or ws k 0
  full_rest k out b = full_kept k b ∙ beside ws h full k b.0 out

  full_base : (q : ℕ) → q < size_word ws → get_or (appended vs p w) (3 + q) 0 ≡ latest (entry_page ws) (entry_word ws) q (get_or ws (3 + q) 0) (capacity ws)
  full_base q l =
      let n = size_word ws in
      let so = carried (entry_page ws) (entry_word ws) 3 ws (capacity ws) in
      let long : length (base ws) ≡ n = length-base ws (sound_facts ws h) in
      full_kept (3 + q) (λ e. omega arith, λ e. omega arith, λ e. omega arith)
      ∙ get_or-set_other so 2 (3 + q) 0 0 (λ e. omega arith)
      ∙ sym (get_or-take n (drop 3 so) q 0 l ∙ get_or-drop 3 so q 0)
      ∙ ap (λ xs. get_or xs q 0) (carried_part (entry_page ws) (entry_word ws) 3 n ws (capacity ws) (named_all ws h full))
      ∙ get_or-carried (entry_page ws) (entry_word ws) (base ws) (capacity ws) q 0 (omega arith)
      ∙ ap (λ x. latest (entry_page ws) (entry_word ws) q x (capacity ws)) (get_or-take n (drop 3 ws) q 0 l ∙ get_or-drop 3 ws q 0)

module _ (ws : List ℕ) (p w : ℕ) (s : IsSound ws) (low : p < size_word ws) where
  abbrev after : List ℕ
  after = log_put ws p w

  with_next : used ws < capacity ws → appended ws p w ≡ after
  with_next l = ap (λ xs. appended xs p w) (kept-room ws (sound_from ws s) (λ e. omega arith))

  with_none : used ws ≡ capacity ws → appended (emptied ws) p w ≡ after
  with_none e = ap (λ xs. appended xs p w) (made_room ws (sound_from ws s) e)

  log_put_is : LogPut ws p w after
  log_put_is =
      let h = sound_from ws s in
      record {
        next = λ l. subst (EntryPut ws (used ws) p w) (with_next l) (appended-entry ws p w h l low);
        kept = λ l k m b. ap (λ xs. get_or xs k 0) (sym (with_next l)) ∙ appended_kept ws p w h l low k b;
        first = λ e. subst (EntryPut ws 0 p w) (with_none e) (full-entry ws p w h e low);
        base = λ e q l.
            let old = slice_index ws (3 + q) in
            subst (LastWord (entry_page ws) (entry_word ws) (capacity ws) q old) (sym (ap (λ xs. get_or xs (3 + q) 0) (sym (with_none e)) ∙ full_base ws p w h e low q l)) (latest_is (entry_page ws) (entry_word ws) q old (capacity ws));
        rest = λ e k l out b. ap (λ xs. get_or xs k 0) (sym (with_none e)) ∙ full_rest ws p w h e low k out b;
      }

-- an entry put twice
module _ (ws : List ℕ) (i p w : ℕ) (xs ys : List ℕ) (h : EntryPut ws i p w xs) (g : EntryPut ws i p w ys) where
  same_there : (k : ℕ) → (Besides ws i k → get_or xs k 0 ≡ get_or ys k 0) → get_or xs k 0 ≡ get_or ys k 0
  same_there k others =
      ⊎_elim (λ (a : k ≡ 2). subst (λ m. get_or xs m 0 ≡ get_or ys m 0) (sym a) (h.count ∙ sym g.count))
      (λ (a : k ≡ 2 → ⊥).
      ⊎_elim (λ (b : k ≡ page_place ws i). subst (λ m. get_or xs m 0 ≡ get_or ys m 0) (sym b) (h.page ∙ sym g.page))
      (λ (b : k ≡ page_place ws i → ⊥).
      ⊎_elim (λ (c : k ≡ word_place ws i). subst (λ m. get_or xs m 0 ≡ get_or ys m 0) (sym c) (h.word ∙ sym g.word))
      (λ (c : k ≡ word_place ws i → ⊥). others (a, b, c))
      (cases_eq k (word_place ws i)))
      (cases_eq k (page_place ws i)))
      (cases_eq k 2)

pub one_log_put : (ws : List ℕ) (p w : ℕ) (xs ys : List ℕ) → IsSound ws → p < size_word ws → LogPut ws p w xs → LogPut ws p w ys → xs ≡ ys
one_log_put ws p w xs ys s low h g =
    ⊎_elim
    (λ (l : used ws < capacity ws).
    ext_get_or 0 xs ys ((h.next l).long ∙ sym (g.next l).long)
    (λ k m.
    let in_it : k < length ws = omega (arith, (h.next l).long) in
    same_there ws (used ws) p w xs ys (h.next l) (g.next l) k (λ b. h.kept l k in_it b ∙ sym (g.kept l k in_it b))))
    (λ (l : capacity ws ≤ used ws).
    let e : used ws ≡ capacity ws = omega (arith, s.within) in
    ext_get_or 0 xs ys ((h.first e).long ∙ sym (g.first e).long)
    (λ k m.
    let in_it : k < length ws = omega (arith, (h.first e).long) in
    same_there ws 0 p w xs ys (h.first e) (g.first e) k (λ b. besides e k in_it b)))
    (cases_lt (used ws) (capacity ws))
  where
    based : (e : used ws ≡ capacity ws) (q : ℕ) → q < size_word ws → get_or xs (3 + q) 0 ≡ get_or ys (3 + q) 0
    based e q l = one_word (entry_page ws) (entry_word ws) q (slice_index ws (3 + q)) (capacity ws) _ _ (h.base e q l) (g.base e q l)

    besides : (e : used ws ≡ capacity ws) (k : ℕ) → k < length ws → Besides ws 0 k → get_or xs k 0 ≡ get_or ys k 0
    besides e k m b =
        ⊎_elim
        (λ (l : k < 3). h.rest e k m (inl l) b ∙ sym (g.rest e k m (inl l) b))
        (λ (l : 3 ≤ k).
        ⊎_elim
        (λ (x : k < 3 + size_word ws).
        let at : 3 + (k - 3) ≡ k = omega arith in
        subst (λ j. get_or xs j 0 ≡ get_or ys j 0) at (based e (k - 3) (omega arith)))
        (λ (x : 3 + size_word ws ≤ k). h.rest e k m (inr x) b ∙ sym (g.rest e k m (inr x) b))
        (cases_lt k (3 + size_word ws)))
        (cases_lt k 3)

pub log_put_by_index : (ws : List ℕ) (p w : ℕ) (after : List ℕ) → IsSound ws → p < size_word ws → (log_put ws p w ≡ after) ↔ LogPut ws p w after
log_put_by_index ws p w after s low =
    (λ e. subst (LogPut ws p w) e (log_put_is ws p w s low), λ h. one_log_put ws p w (log_put ws p w) after s low (log_put_is ws p w s low) h)

-- bad numbers of an image
module _ (bs : List ℕ) where
  good_is : (i : ℕ) → good_number bs i ≡ true → IsBad bs i → ⊥
  good_is i e bad =
      let p = and_parts (nat_lt (named_page bs i) (image_size bs)) (eqb i 0 || nat_lt (named_page bs (i - 1)) (named_page bs i)) e in
      let low = ltb-true (named_page bs i) (image_size bs) p.0 in
      ⊎_elim (λ (x : image_size bs ≤ named_page bs i). omega arith)
      (λ (x : (0 < i) × (named_page bs i ≤ named_page bs (i - 1))).
      ⊎_elim (λ (z : eqb i 0 ≡ true). let first = eqb-true i 0 z in let after = x.0 in omega arith)
      (λ (z : nat_lt (named_page bs (i - 1)) (named_page bs i) ≡ true). let rise = ltb-true (named_page bs (i - 1)) (named_page bs i) z in let fall = x.1 in omega arith)
      (or_cases (eqb i 0) (nat_lt (named_page bs (i - 1)) (named_page bs i)) p.1))
      bad

  bad_is : (i : ℕ) → good_number bs i ≡ false → IsBad bs i
  bad_is i e =
      ⊎_elim (λ (x : nat_lt (named_page bs i) (image_size bs) ≡ false). inl (ltb-false (named_page bs i) (image_size bs) x))
      (λ (x : (eqb i 0 || nat_lt (named_page bs (i - 1)) (named_page bs i)) ≡ false).
      let p = or_parts (eqb i 0) (nat_lt (named_page bs (i - 1)) (named_page bs i)) x in
      let after : i ≡ 0 → ⊥ = eqb-false i 0 p.0 in
      inr (omega arith, ltb-false (named_page bs (i - 1)) (named_page bs i) p.1))
      (and_cases (nat_lt (named_page bs i) (image_size bs)) (eqb i 0 || nat_lt (named_page bs (i - 1)) (named_page bs i)) e)

  is_good : (i : ℕ) → (IsBad bs i → ⊥) → good_number bs i ≡ true
  is_good i fine = ⊎_elim (λ (e : good_number bs i ≡ true). e) (λ (e : good_number bs i ≡ false). absurd (fine (bad_is i e))) (cases_Bool (good_number bs i))

  is_bad : (i : ℕ) → IsBad bs i → good_number bs i ≡ false
  is_bad i b = ⊎_elim (λ (e : good_number bs i ≡ true). absurd (good_is i e b)) (λ (e : good_number bs i ≡ false). e) (cases_Bool (good_number bs i))

  none_bad : (n : ℕ) → first_bad bs n ≡ None → NoneBad bs n
  none_bad n e i l = good_is i (all_good bs n e i l)

  bad_none : (n : ℕ) → NoneBad bs n → first_bad bs n ≡ None
  bad_none zero h = refl
  bad_none (suc n) h =
      ap (or_this (good_number bs n) n) (bad_none n (λ i l. h i (omega arith))) ∙ cond-true (good_number bs n) None (Some n) (is_good n (h n (omega arith)))

  found_is : (n i : ℕ) → FirstBad bs n i → first_bad bs n ≡ Some i
  found_is n i f = first_found bs i n (bad_none i (λ j l. f.before j l)) (is_bad i f.bad) f.within

  or_this_is : (n i : ℕ) (good : Bool) (o : Option ℕ) → good_number bs n ≡ good → first_bad bs n ≡ o → ((j : ℕ) → o ≡ Some j → FirstBad bs n j) → or_this good n o ≡ Some i → FirstBad bs (suc n) i
  or_this_is n i good (Some k) g f h e = let x = h i e in let l = x.within in record { within = omega arith; bad = x.bad; before = x.before }
  or_this_is n i true None g f h e = absurd (none-some i e)
  or_this_is n i false None g f h e =
      subst (FirstBad bs (suc n)) (same_Some n i e) (record { within = omega arith; bad = bad_is n g; before = none_bad n f })

  is_found : (n i : ℕ) → first_bad bs n ≡ Some i → FirstBad bs n i
  is_found zero i e = absurd (none-some i e)
  is_found (suc n) i e = or_this_is n i (good_number bs n) (first_bad bs n) refl refl (is_found n) e

  pub first_bad_by_index : (n : ℕ) → ((i : ℕ) → (first_bad bs n ≡ Some i) ↔ FirstBad bs n i) × ((first_bad bs n ≡ None) ↔ NoneBad bs n)
  first_bad_by_index n = (λ i. (is_found n i, found_is n i), (none_bad n, bad_none n))

-- the faults of an image, in order
module _ (bs : List ℕ) where
  -- none of the first n checks fails
  spared : (n : ℕ) → (1 ≤ n → 8 ≤ length bs) → (2 ≤ n → image_size bs ≤ 4096) → (3 ≤ n → image_named bs ≤ image_size bs)
      → (4 ≤ n → length bs ≡ 8 + 8 * image_named bs) → (5 ≤ n → NoneBad bs (image_named bs)) → (g : ImageFault) → place g ≤ n → Fits bs g → ⊥
  spared n a b c d e (Truncated long) l f = let long_enough = a l in let short = f.0 in omega arith
  spared n a b c d e TooManyPages l f = let few = b l in omega arith
  spared n a b c d e TooManyNamed l f = let few = c l in omega arith
  spared n a b c d e (WrongLength long) l f = f.0 (d l)
  spared n a b c d e (BadNumber offset) l f = e l f.0 f.1.within f.1.bad

  -- what the checks come to
  abbrev Told : Option ImageFault → Type 0
  Told (Some f) = FirstFits bs f
  Told None = NoneFits bs

  numbers : 8 ≤ length bs → image_size bs ≤ 4096 → image_named bs ≤ image_size bs → length bs ≡ 8 + 8 * image_named bs
      → (o : Option ℕ) → first_bad bs (image_named bs) ≡ o → Told (bad_number o)
  numbers a b c d None e = λ f. spared 5 (λ l. a) (λ l. b) (λ l. c) (λ l. d) (λ l. none_bad bs (image_named bs) e) f (last f)
    where
      last : (f : ImageFault) → place f ≤ 5
      last (Truncated long) = omega arith
      last TooManyPages = omega arith
      last TooManyNamed = omega arith
      last (WrongLength long) = omega arith
      last (BadNumber offset) = omega arith
  numbers a b c d (Some i) e = record {
    fits = (i, is_found bs (image_named bs) i e, refl);
    before = λ g l. spared 4 (λ l. a) (λ l. b) (λ l. c) (λ l. d) (λ l. absurd (omega arith)) g (omega arith);
  }

  told : Told (image_fault bs)
  told =
      cond_both (nat_lt (length bs) 8) _ _ Told
      (λ e. record {
        fits = (ltb-true (length bs) 8 e, refl);
        before = λ g l. spared 0 (λ l. absurd (omega arith)) (λ l. absurd (omega arith)) (λ l. absurd (omega arith)) (λ l. absurd (omega arith)) (λ l. absurd (omega arith)) g (omega arith);
      })
      (λ e1.
      let a = ltb-false (length bs) 8 e1 in
      cond_both (nat_lt 4096 (image_size bs)) _ _ Told
      (λ e. record {
        fits = ltb-true 4096 (image_size bs) e;
        before = λ g l. spared 1 (λ l. a) (λ l. absurd (omega arith)) (λ l. absurd (omega arith)) (λ l. absurd (omega arith)) (λ l. absurd (omega arith)) g (omega arith);
      })
      (λ e2.
      let b = ltb-false 4096 (image_size bs) e2 in
      cond_both (nat_lt (image_size bs) (image_named bs)) _ _ Told
      (λ e. record {
        fits = ltb-true (image_size bs) (image_named bs) e;
        before = λ g l. spared 2 (λ l. a) (λ l. b) (λ l. absurd (omega arith)) (λ l. absurd (omega arith)) (λ l. absurd (omega arith)) g (omega arith);
      })
      (λ e3.
      let c = ltb-false (image_size bs) (image_named bs) e3 in
      cond_both (eqb (length bs) (8 + 8 * image_named bs)) _ _ Told
      (λ e. numbers a b c (eqb-true (length bs) (8 + 8 * image_named bs) e) (first_bad bs (image_named bs)) refl)
      (λ e. record {
        fits = (eqb-false (length bs) (8 + 8 * image_named bs) e, refl);
        before = λ g l. spared 3 (λ l. a) (λ l. b) (λ l. c) (λ l. absurd (omega arith)) (λ l. absurd (omega arith)) g (omega arith);
      }))))

  -- the one fault that fits at each place
  fault_at : ℕ → ImageFault
  fault_at zero = Truncated (length bs)
  fault_at (suc zero) = Truncated (length bs)
  fault_at (suc (suc zero)) = TooManyPages
  fault_at (suc (suc (suc zero))) = TooManyNamed
  fault_at (suc (suc (suc (suc zero)))) = WrongLength (length bs)
  fault_at (suc (suc (suc (suc (suc n))))) = BadNumber (number_offset (unwrap_or (first_bad bs (image_named bs)) 0))

  at_place : (f : ImageFault) → Fits bs f → f ≡ fault_at (place f)
  unfolding fault_at
  at_place (Truncated long) h = ap Truncated h.1
  at_place TooManyPages h = refl
  at_place TooManyNamed h = refl
  at_place (WrongLength long) h = ap WrongLength h.1
  at_place (BadNumber offset) h =
      ap BadNumber (h.2 ∙ sym (ap (λ o. number_offset (unwrap_or o 0)) (found_is bs (image_named bs) h.0 h.1)))

  one_fault : (f g : ImageFault) → FirstFits bs f → FirstFits bs g → f ≡ g
  one_fault f g h k =
      ⊎_elim (λ (e : place f ≡ place g). at_place f h.fits ∙ ap fault_at e ∙ sym (at_place g k.fits))
      (λ (x : (place f < place g) ⊎ (place g < place f)).
      ⊎_elim (λ (l : place f < place g). absurd (k.before f l h.fits)) (λ (l : place g < place f). absurd (h.before g l k.fits)) x)
      (cases_order (place f) (place g))

  one_told : (o p : Option ImageFault) → Told o → Told p → o ≡ p
  one_told None None h k = refl
  one_told None (Some g) h k = absurd (h g k.fits)
  one_told (Some f) None h k = absurd (k f h.fits)
  one_told (Some f) (Some g) h k = ap Some (one_fault f g h k)

  pub image_faults_in_order : ((f : ImageFault) → (image_fault bs ≡ Some f) ↔ FirstFits bs f) × ((image_fault bs ≡ None) ↔ NoneFits bs)
  image_faults_in_order =
      (λ f. (λ e. subst Told e told, λ h. one_told (image_fault bs) (Some f) told h), (λ e. subst Told e told, λ h. one_told (image_fault bs) None told h))

-- the pages of an image
module _ (bs : List ℕ) (h : image_fault bs ≡ None) where
  named_last : (p w : ℕ) → NamedWord bs p w → LastWord (named_page bs) (named_word bs) (image_named bs) p 0 w
  named_last p w x =
      ⊎_elim
      (λ (y : (i : ℕ) × (i < image_named bs) × (named_page bs i ≡ p) × (w ≡ named_word bs i)).
      inl (
        y.0,
        record { within = y.1; named = y.2; later = λ j a b e. let up = rising bs h y.0 j a b in let here = y.2 in omega arith },
        y.3,
      ))
      (λ (y : ((i : ℕ) → i < image_named bs → named_page bs i ≢ p) × (w ≡ 0)). inr y)
      x

  last_named : (p w : ℕ) → LastWord (named_page bs) (named_word bs) (image_named bs) p 0 w → NamedWord bs p w
  last_named p w x =
      ⊎_elim
      (λ (y : (i : ℕ) × LastNaming (named_page bs) (image_named bs) p i × (w ≡ named_word bs i)). inl (y.0, y.1.within, y.1.named, y.2))
      (λ (y : ((i : ℕ) → i < image_named bs → named_page bs i ≢ p) × (w ≡ 0)). inr y)
      x

  image_pages_are : ImagePages bs (image_pages bs)
  image_pages_are = record {
    count = length-image_pages bs;
    each = λ p low.
        subst (NamedWord bs p) (sym (image_read bs h p (omega (arith, length-image_pages bs))))
        (last_named p _ (latest_is (named_page bs) (named_word bs) p 0 (image_named bs)));
  }

  one_image : (xs ys : List ℕ) → ImagePages bs xs → ImagePages bs ys → xs ≡ ys
  one_image xs ys f g =
      ext_get_or 0 xs ys (f.count ∙ sym g.count)
      (λ p l.
      let low : p < image_size bs = omega (arith, f.count) in
      one_word (named_page bs) (named_word bs) p 0 (image_named bs) _ _ (named_last p _ (f.each p low)) (named_last p _ (g.each p low)))

pub image_pages_by_index : (bs pages : List ℕ) → NoneFits bs → (image_pages bs ≡ pages) ↔ ImagePages bs pages
image_pages_by_index bs pages none =
    let h = (image_faults_in_order bs).1.1 none in
    (λ e. subst (ImagePages bs) e (image_pages_are bs h), λ g. one_image bs h (image_pages bs) pages (image_pages_are bs h) g)
