-- Laws of the log store's words. Assumes nothing.
use Rattle.std.proofs.Common.{◌≡◌, ℕ, zero, suc, ◌-◌, ◌+◌, ◌*◌, ◌<◌, ◌≤◌, true, false, ltb, ◌≢◌, Bool, cond, Some, None, ◌⊎◌, List, [], ◌++◌, slice_index, length, get_or, take, drop, set, sym, refl, ap, ◌∙◌, inl, ⊎_elim, zero-add, arith, length-append, length-drop, length-set, length-take, get_or-drop, get_or-set_other, get_or-take, get_or-set_same, drop-set-lt}
use lib.Seq.{take-set-le, drop-set-add}
use Rattle.std.proofs.lemmas.List.{set-append_left, set-append_right, get_or_append_left, get_or-append_right}
use Rattle.std.proofs.lemmas.Bool.{and_parts, and_from, ltb-true, lt-ltb, le-ltb, eq-eqb, eqb-true, leb-true, le-leb, cases_eq, cond-true, cond_both, cond-false, cases_Bool, ltb-false}
use Rattle.std.specs.Bool.{then_some}
use Rattle.std.specs.Option.{option_map_or}
use Rattle.pages.specs.Entries.{all_below, carried, latest, length-carried}
use Rattle.pages.specs.declared.log.Layout.{Layout}
use Rattle.pages.specs.Log.{layout_of, size_word, capacity, used, entry_page, entry_word, sound, base, log_pages, emptied, appended, with_room, log_put}
use Rattle.pages.specs.ByIndex.{IsSound}
use Rattle.pages.proofs.Entries.{all_below-same, all_below_at, all_below_from, latest_at, latest_none, carried_other, carried_part, carried_same, get_or-carried}

pub sound_facts : (ws : List ℕ) → sound ws ≡ true → IsSound ws
sound_facts ws h =
    let a = and_parts _ _ h in
    let b = and_parts _ _ a.1 in
    let c = and_parts _ _ b.1 in
    let d = and_parts _ _ c.1 in
    let e = and_parts _ _ d.1 in
    record {
      few = leb-true _ _ a.0;
      some = leb-true _ _ b.0;
      room = leb-true _ _ c.0;
      within = leb-true _ _ d.0;
      long = eqb-true _ _ e.0;
      named = all_below_at _ _ _ e.1;
    }

pub sound_from : (ws : List ℕ) → IsSound ws → sound ws ≡ true
sound_from ws s =
    and_from _ _ (le-leb _ _ s.few) (and_from _ _ (le-leb _ _ s.some) (and_from _ _ (le-leb _ _ s.room)
    (and_from _ _ (le-leb _ _ s.within) (and_from _ _ (eq-eqb _ _ s.long) (all_below_from _ _ _ s.named)))))

-- the last test, where the others pass
pub sound-tested : (ws : List ℕ) → size_word ws ≤ 4096 → 1 ≤ capacity ws → capacity ws ≤ 4096 → used ws ≤ capacity ws → length ws ≡ 3 + size_word ws + 2 * capacity ws
    → sound ws ≡ all_below (entry_page ws) (size_word ws) (used ws)
sound-tested ws few some room within long = rw (le-leb _ _ few, le-leb _ _ some, le-leb _ _ room, le-leb _ _ within, eq-eqb _ _ long)

-- it is of the used page numbers, cut out of the words after the sizes
pub used-tested : (ws : List ℕ) → 3 + size_word ws + used ws ≤ length ws
    → (let pages = take (size_word ws + used ws - size_word ws) (drop (size_word ws) (take (length ws - 3) (drop 3 ws))) in all_below (slice_index pages) (size_word ws) (length pages) ≡ all_below (entry_page ws) (size_word ws) (used ws))
used-tested ws long =
    let n = size_word ws in
    let u = used ws in
    let rest = take (length ws - 3) (drop 3 ws) in
    let pages = take (n + u - n) (drop n rest) in
    let count : length pages ≡ u = simp (length-take, length-drop) (omega arith) in
    ap (all_below (slice_index pages) n) count
    ∙ all_below-same (slice_index pages) n (entry_page ws) u
    (λ i l.
    let at : 3 + (n + i) ≡ 3 + n + i = omega arith in
    get_or-take (n + u - n) (drop n rest) i 0 (omega arith) ∙ get_or-drop n rest i 0
    ∙ get_or-take (length ws - 3) (drop 3 ws) (n + i) 0 (omega arith) ∙ get_or-drop 3 ws (n + i) 0 ∙ ap (λ k. get_or ws k 0) at)

pub log_pages-sound : (ws : List ℕ) → sound ws ≡ true → log_pages ws ≡ carried (entry_page ws) (entry_word ws) 0 (base ws) (used ws)
log_pages-sound ws h = cond-true (sound ws) _ [] h

pub length-base : (ws : List ℕ) → IsSound ws → length (base ws) ≡ size_word ws
length-base ws s = simp (length-take, length-drop) (omega (arith, s.long))

pub length-log_pages : (ws : List ℕ) → sound ws ≡ true → length (log_pages ws) ≡ size_word ws
length-log_pages ws h =
    ap length (log_pages-sound ws h) ∙ length-carried (entry_page ws) (entry_word ws) 0 (base ws) (used ws) ∙ length-base ws (sound_facts ws h)

-- a layout, told of sound words
module _ (ws : List ℕ) (l : Layout) (fits : layout_of ws ≡ Some l) where
  is_layout : (sound ws ≡ true) × (record { size = size_word ws; room = capacity ws } ≡ l)
  is_layout =
      elim (sound ws) as (λ b. cond b (Some (record { size = size_word ws; room = capacity ws })) None ≡ Some l → (b ≡ true) × (record { size = size_word ws; room = capacity ws } ≡ l))
      [ true ↦ λ e. (refl, cc) | false ↦ λ e. absurd (cc) ] fits

  pub layout-sound : sound ws ≡ true
  layout-sound = is_layout.0

  pub layout-size : l.size ≡ size_word ws
  layout-size = sym (ap (λ (x : Layout). x.size) is_layout.1)

  pub layout-room : l.room ≡ capacity ws
  layout-room = sym (ap (λ (x : Layout). x.room) is_layout.1)

  pub layout-pages : length (log_pages ws) ≡ l.size
  layout-pages = length-log_pages ws layout-sound ∙ sym layout-size

pub layout_of-then : (ws : List ℕ) (r : Bool) → sound ws ≡ r → then_some r (record { size = size_word ws; room = capacity ws }) ≡ layout_of ws
layout_of-then ws r tested =
    elim r as (λ b. sound ws ≡ b → then_some b (record { size = size_word ws; room = capacity ws }) ≡ layout_of ws)
    [ true ↦ λ e. sym (cond-true _ _ _ e) | false ↦ λ e. sym (cond-false _ _ _ e) ] tested

-- no layout, no pages
pub no_layout : (ws : List ℕ) → layout_of ws ≡ None → length (log_pages ws) ≡ 0
no_layout ws e =
    ⊎_elim
    (λ (h : sound ws ≡ true). let some : Some (record { size = size_word ws; room = capacity ws }) ≡ None = sym (cond-true (sound ws) _ None h) ∙ e in cc)
    (λ (h : sound ws ≡ false). ap length (cond-false (sound ws) (carried (entry_page ws) (entry_word ws) 0 (base ws) (used ws)) [] h))
    (cases_Bool (sound ws))

-- the size of the layout, else 0
pub layout-size_or : (ws : List ℕ) → option_map_or (λ (l : Layout). l.size) (layout_of ws) 0 ≡ length (log_pages ws)
layout-size_or ws =
    ⊎_elim
    (λ (h : sound ws ≡ true). ap (λ o. option_map_or (λ (l : Layout). l.size) o 0) (cond-true (sound ws) _ None h) ∙ sym (length-log_pages ws h))
    (λ (h : sound ws ≡ false). let none : layout_of ws ≡ None = cond-false (sound ws) _ None h in ap (λ o. option_map_or (λ (l : Layout). l.size) o 0) none ∙ sym (no_layout ws none))
    (cases_Bool (sound ws))

-- an append with room: sound words stay sound, and the page holds the word
module _ (ws : List ℕ) (p w : ℕ) (h : sound ws ≡ true) (room : used ws < capacity ws) (low : p < size_word ws) where
  -- a word that is none of the three that are written
  pub elsewhere : (k : ℕ) → k ≢ 2 → k ≢ 3 + size_word ws + used ws → k ≢ 3 + size_word ws + capacity ws + used ws → get_or (appended ws p w) k 0 ≡ get_or ws k 0
  elsewhere k a b e = get_or-set_other _ 2 k _ 0 a ∙ get_or-set_other _ (3 + size_word ws + capacity ws + used ws) k w 0 e ∙ get_or-set_other ws _ k p 0 b

  pub length-appended : length (appended ws p w) ≡ length ws
  length-appended = length-set _ 2 _ ∙ length-set _ (3 + size_word ws + capacity ws + used ws) w ∙ length-set ws _ p

  size_kept : size_word (appended ws p w) ≡ size_word ws
  size_kept = elsewhere 0 (λ e. omega arith) (λ e. omega arith) (λ e. omega arith)

  capacity-kept : capacity (appended ws p w) ≡ capacity ws
  capacity-kept = elsewhere 1 (λ e. omega arith) (λ e. omega arith) (λ e. omega arith)

  pub used_more : used (appended ws p w) ≡ suc (used ws)
  used_more =
      let s = sound_facts ws h in
      let long = s.long in
      get_or-set_same (set (set ws (3 + size_word ws + used ws) p) (3 + size_word ws + capacity ws + used ws) w) 2 (used ws + 1) 0
      (simp length-set (omega arith)) ∙ (omega arith)

  pub page_at : (i : ℕ) → entry_page (appended ws p w) i ≡ get_or (appended ws p w) (3 + size_word ws + i) 0
  page_at i = ap (λ m. get_or (appended ws p w) (3 + m + i) 0) size_kept

  pub word_at : (i : ℕ) → entry_word (appended ws p w) i ≡ get_or (appended ws p w) (3 + size_word ws + capacity ws + i) 0
  word_at i = ap (λ m. get_or (appended ws p w) (3 + m + capacity (appended ws p w) + i) 0) size_kept ∙ ap (λ m. get_or (appended ws p w) (3 + size_word ws + m + i) 0) capacity-kept

  pages-kept : (i : ℕ) → i < used ws → entry_page (appended ws p w) i ≡ entry_page ws i
  pages-kept i l = page_at i ∙ elsewhere (3 + size_word ws + i) (λ e. omega arith) (λ e. omega arith) (λ e. omega arith)

  words_kept : (i : ℕ) → i < used ws → entry_word (appended ws p w) i ≡ entry_word ws i
  words_kept i l = word_at i ∙ elsewhere (3 + size_word ws + capacity ws + i) (λ e. omega arith) (λ e. omega arith) (λ e. omega arith)

  pub page_new : entry_page (appended ws p w) (used ws) ≡ p
  page_new =
      let long = (sound_facts ws h).long in
      let at = 3 + size_word ws + used ws in
      page_at (used ws)
      ∙ get_or-set_other _ 2 at _ 0 (λ e. omega arith)
      ∙ get_or-set_other _ (3 + size_word ws + capacity ws + used ws) at w 0 (λ e. omega arith)
      ∙ get_or-set_same ws at p 0 (omega arith)

  pub word_new : entry_word (appended ws p w) (used ws) ≡ w
  word_new =
      let long = (sound_facts ws h).long in
      let at = 3 + size_word ws + capacity ws + used ws in
      word_at (used ws)
      ∙ get_or-set_other _ 2 at _ 0 (λ e. omega arith)
      ∙ get_or-set_same (set ws (3 + size_word ws + used ws) p) at w 0 (simp length-set (omega arith))

  base_kept : base (appended ws p w) ≡ base ws
  base_kept =
      let n = size_word ws in
      let once = set ws (3 + n + used ws) p in
      let twice = set once (3 + n + capacity ws + used ws) w in
      ap (λ m. take m (drop 3 (appended ws p w))) size_kept
      ∙ ap (take n) (drop-set-lt 3 twice 2 (used ws + 1) (omega arith))
      ∙ past once (capacity ws + used ws) w ((3 + n + capacity ws) + used ws) (omega arith)
      ∙ past ws (used ws) p (3 + n + used ws) (omega arith)
    where
      past : (xs : List ℕ) (j a at : ℕ) → at ≡ 3 + (size_word ws + j) → take (size_word ws) (drop 3 (set xs at a)) ≡ take (size_word ws) (drop 3 xs)
      past xs j a at e =
          ap (λ k. take (size_word ws) (drop 3 (set xs k a))) e
          ∙ ap (take (size_word ws)) (drop-set-add 3 xs (size_word ws + j) a)
          ∙ take-set-le (size_word ws) (drop 3 xs) (size_word ws + j) a (omega arith)

  pub appended-sound : sound (appended ws p w) ≡ true
  appended-sound =
      let s = sound_facts ws h in
      let n = size_kept in
      let c = capacity-kept in
      let u = used_more in
      let len = length-appended in
      let old_long = s.long in
      sound_from (appended ws p w) (record {
        few = omega (arith, s.few);
        some = omega (arith, s.some);
        room = omega (arith, s.room);
        within = omega arith;
        long = omega arith;
        named = λ i l. ⊎_elim (λ (e : i ≡ used ws). rw e (omega (arith, page_new))) (λ (e : i ≡ used ws → ⊥). let m : i < used ws = omega arith in omega (arith, pages-kept i m, s.named i m)) (cases_eq i (used ws));
      })

  pub appended-pages : log_pages (appended ws p w) ≡ set (log_pages ws) p w
  appended-pages =
      let vs = appended ws p w in
      log_pages-sound vs appended-sound
      ∙ ap (carried (entry_page vs) (entry_word vs) 0 (base vs)) used_more
      ∙ ap (λ into. carried (entry_page vs) (entry_word vs) 0 into (suc (used ws))) base_kept
      ∙ ap (λ xs. set xs (0 + entry_page vs (used ws)) (entry_word vs (used ws))) (carried_same _ _ _ _ 0 (base ws) (used ws) pages-kept words_kept ∙ sym (log_pages-sound ws h))
      ∙ ap (λ k. set (log_pages ws) (0 + k) (entry_word vs (used ws))) page_new
      ∙ ap (λ k. set (log_pages ws) k (entry_word vs (used ws))) (zero-add p)
      ∙ ap (set (log_pages ws) p) word_new

-- a full log emptied: the same pages, with all the room free
module _ (ws : List ℕ) (h : sound ws ≡ true) (full : used ws ≡ capacity ws) where
  pub named_all : (i : ℕ) → i < capacity ws → entry_page ws i < size_word ws
  named_all i l = (sound_facts ws h).named i (omega arith)

  -- carrying entries changes nothing outside the base words
  carried_beside : (n k : ℕ) → n ≤ capacity ws → (k < 3) ⊎ (3 + size_word ws ≤ k) → get_or (carried (entry_page ws) (entry_word ws) 3 ws n) k 0 ≡ get_or ws k 0
  carried_beside n k m out =
      carried_other (entry_page ws) (entry_word ws) 3 ws n k 0
      (λ i l e. let low = named_all i (omega arith) in ⊎_elim (λ (x : k < 3). omega arith) (λ (x : 3 + size_word ws ≤ k). omega arith) out)

  -- outside the base words, but for the count of used entries, nothing changes
  pub beside : (k : ℕ) → k ≢ 2 → (k < 3) ⊎ (3 + size_word ws ≤ k) → get_or (emptied ws) k 0 ≡ get_or ws k 0
  beside k a out =
      get_or-set_other (carried (entry_page ws) (entry_word ws) 3 ws (capacity ws)) 2 k 0 0 a
      ∙ carried_beside (capacity ws) k (omega arith) out

  pub length-emptied : length (emptied ws) ≡ length ws
  length-emptied = length-set (carried (entry_page ws) (entry_word ws) 3 ws (capacity ws)) 2 0 ∙ length-carried (entry_page ws) (entry_word ws) 3 ws (capacity ws)

  pub emptied_size : size_word (emptied ws) ≡ size_word ws
  emptied_size = beside 0 (λ e. omega arith) (inl (omega arith))

  pub emptied-capacity : capacity (emptied ws) ≡ capacity ws
  emptied-capacity = beside 1 (λ e. omega arith) (inl (omega arith))

  pub emptied-used : used (emptied ws) ≡ 0
  emptied-used =
      let long = (sound_facts ws h).long in
      get_or-set_same (carried (entry_page ws) (entry_word ws) 3 ws (capacity ws)) 2 0 0 (omega (arith, length-carried (entry_page ws) (entry_word ws) 3 ws (capacity ws)))

  pub emptied-sound : sound (emptied ws) ≡ true
  emptied-sound =
      let s = sound_facts ws h in
      let n = emptied_size in
      let c = emptied-capacity in
      let u = emptied-used in
      let len = length-emptied in
      let old_long = s.long in
      sound_from (emptied ws) (record {
        few = omega (arith, s.few);
        some = omega (arith, s.some);
        room = omega (arith, s.room);
        within = omega arith;
        long = omega arith;
        named = λ i l. absurd (omega arith);
      })

  pub emptied-pages : log_pages (emptied ws) ≡ log_pages ws
  emptied-pages =
      let so = carried (entry_page ws) (entry_word ws) 3 ws (capacity ws) in
      log_pages-sound (emptied ws) emptied-sound
      ∙ ap (carried (entry_page (emptied ws)) (entry_word (emptied ws)) 0 (base (emptied ws))) emptied-used
      ∙ ap (λ m. take m (drop 3 (emptied ws))) emptied_size
      ∙ ap (take (size_word ws)) (drop-set-lt 3 so 2 0 (omega arith))
      ∙ carried_part (entry_page ws) (entry_word ws) 3 (size_word ws) ws (capacity ws) named_all
      ∙ ap (carried (entry_page ws) (entry_word ws) 0 (base ws)) (sym full)
      ∙ sym (log_pages-sound ws h)

-- a write to a list made of two, in the second
set_second : (xs ys : List ℕ) (n k i y : ℕ) → length xs ≡ n → k ≡ n + i → set (xs ++ ys) k y ≡ xs ++ set ys i y
set_second xs ys n k i y long at =
    let past : n ≤ k = omega arith in
    let there : k - n ≡ i = omega arith in
    set-append_right xs ys n k y long past ∙ ap (λ j. xs ++ set ys j y) there

get_second : (xs ys : List ℕ) (n k i : ℕ) → length xs ≡ n → k ≡ n + i → get_or (xs ++ ys) k 0 ≡ get_or ys i 0
get_second xs ys n k i long at =
    let past : n ≤ k = omega arith in
    let there : k - n ≡ i = omega arith in
    get_or-append_right xs ys n k 0 long past ∙ ap (λ j. get_or ys j 0) there

-- sound words in their parts: the sizes, the base words, and the page numbers and words of the entries
pub record Parts (ws s b p q : List ℕ) : Type 0 where
  pub joined : ws ≡ s ++ (b ++ (p ++ q))
  pub sizes : length s ≡ 3
  pub base : length b ≡ size_word ws
  pub pages : length p ≡ capacity ws
  pub words : length q ≡ capacity ws

-- they come of three cuts by a layout
pub split-parts : (ws s rest b entries p q : List ℕ) (l : Layout) → layout_of ws ≡ Some l → ws ≡ s ++ rest → rest ≡ b ++ entries → entries ≡ p ++ q
    → length s ≡ 3 → length b ≡ l.size → length p ≡ l.room → Parts ws s b p q
split-parts ws s rest b entries p q l fits whole others both sizes base pages =
    let n = layout-size ws l fits in
    let c = layout-room ws l fits in
    let long = (sound_facts ws (layout-sound ws l fits)).long in
    let in_all = ap length whole ∙ length-append s rest in
    let in_rest = ap length others ∙ length-append b entries in
    let in_entries = ap length both ∙ length-append p q in
    record {
      joined = whole ∙ ap (λ xs. s ++ xs) (others ∙ ap (λ xs. b ++ xs) both);
      sizes = sizes;
      base = base ∙ n;
      pages = pages ∙ c;
      words = omega arith;
    }

module _ (ws s b p q : List ℕ) (h : sound ws ≡ true) (parts : Parts ws s b p q) where
  pub base_in : (k : ℕ) → k < size_word ws → get_or ws (3 + k) 0 ≡ get_or b k 0
  base_in k l =
      ap (λ xs. get_or xs (3 + k) 0) parts.joined ∙ get_second s (b ++ (p ++ q)) 3 (3 + k) k parts.sizes refl
      ∙ get_or_append_left b (p ++ q) 0 k (omega (arith, parts.base))

  pub page_in : (k : ℕ) → k < capacity ws → entry_page ws k ≡ get_or p k 0
  page_in k l =
      ap (λ xs. get_or xs (3 + size_word ws + k) 0) parts.joined ∙ get_second s (b ++ (p ++ q)) 3 (3 + size_word ws + k) (size_word ws + k) parts.sizes (omega arith)
      ∙ get_second b (p ++ q) (size_word ws) (size_word ws + k) k parts.base refl
      ∙ get_or_append_left p q 0 k (omega (arith, parts.pages))

  pub word_in : (k : ℕ) → k < capacity ws → entry_word ws k ≡ get_or q k 0
  word_in k l =
      ap (λ xs. get_or xs (3 + size_word ws + capacity ws + k) 0) parts.joined
      ∙ get_second s (b ++ (p ++ q)) 3 (3 + size_word ws + capacity ws + k) (size_word ws + (capacity ws + k)) parts.sizes (omega arith)
      ∙ get_second b (p ++ q) (size_word ws) (size_word ws + (capacity ws + k)) (capacity ws + k) parts.base refl
      ∙ get_second p q (capacity ws) (capacity ws + k) k parts.pages refl

  pub used_in : used ws ≡ get_or s 2 0
  used_in = ap (λ xs. get_or xs 2 0) parts.joined ∙ get_or_append_left s (b ++ (p ++ q)) 0 2 (omega (arith, parts.sizes))

  -- the used page numbers
  front_in : (length (take (get_or s 2 0) p) ≡ used ws) × ((k : ℕ) → k < used ws → get_or (take (get_or s 2 0) p) k 0 ≡ entry_page ws k)
  front_in =
      let within = (sound_facts ws h).within in
      let u = used_in in
      (omega (arith, length-take (get_or s 2 0) p, parts.pages), λ k l. get_or-take (get_or s 2 0) p k 0 (omega arith) ∙ sym (page_in k (omega arith)))

  -- a search of them
  pub found_in : (page w i : ℕ) → i < length (take (get_or s 2 0) p) → get_or (take (get_or s 2 0) p) i 0 ≡ page
      → ((k : ℕ) → i + 1 ≤ k → k < length (take (get_or s 2 0) p) → get_or (take (get_or s 2 0) p) k 0 ≢ page)
      → get_or q i 0 ≡ latest (entry_page ws) (entry_word ws) page w (used ws)
  found_in page w i below here after =
      let within = (sound_facts ws h).within in
      let count = front_in.0 in
      let in_use : i < used ws = omega arith in
      sym (latest_at (entry_page ws) (entry_word ws) page w (used ws) i in_use (sym (front_in.1 i in_use) ∙ here) (λ k m l e. after k (omega arith) (omega arith) (front_in.1 k l ∙ e)) ∙ word_in i (omega arith))

  pub none_in : (page w : ℕ) → ((k : ℕ) → k < length (take (get_or s 2 0) p) → get_or (take (get_or s 2 0) p) k 0 ≢ page)
      → w ≡ latest (entry_page ws) (entry_word ws) page w (used ws)
  none_in page w none =
      let count = front_in.0 in
      sym (latest_none (entry_page ws) (entry_word ws) page w (used ws) (λ k l e. none k (omega arith) (front_in.1 k l ∙ e)))

  -- one more entry
  pub appended-parts : (page word : ℕ) → used ws < capacity ws
      → appended ws page word ≡ set s 2 (used ws + 1) ++ (b ++ (set p (used ws) page ++ set q (used ws) word))
  appended-parts page word room =
      let n = size_word ws in
      let c = capacity ws in
      let u = used ws in
      ap (λ xs. set (set (set xs (3 + n + u) page) (3 + n + c + u) word) 2 (u + 1)) parts.joined
      ∙ ap (λ xs. set (set xs (3 + n + c + u) word) 2 (u + 1))
      (set_second s (b ++ (p ++ q)) 3 (3 + n + u) (n + u) page parts.sizes (omega arith)
      ∙ ap (λ xs. s ++ xs) (set_second b (p ++ q) n (n + u) u page parts.base refl)
      ∙ ap (λ xs. s ++ (b ++ xs)) (set-append_left p q u page (omega (arith, parts.pages))))
      ∙ ap (λ xs. set xs 2 (u + 1))
      (set_second s (b ++ (set p u page ++ q)) 3 (3 + n + c + u) (n + (c + u)) word parts.sizes (omega arith)
      ∙ ap (λ xs. s ++ xs) (set_second b (set p u page ++ q) n (n + (c + u)) (c + u) word parts.base refl)
      ∙ ap (λ xs. s ++ (b ++ xs)) (set_second (set p u page) q c (c + u) u word (length-set p u page ∙ parts.pages) refl))
      ∙ set-append_left s (b ++ (set p u page ++ set q u word)) 2 (u + 1) (omega (arith, parts.sizes))

  -- a full log emptied
  module _ (full : used ws ≡ capacity ws) where
    carried_in : (n : ℕ) → n ≤ capacity ws
        → carried (entry_page ws) (entry_word ws) 3 ws n ≡ s ++ (carried (slice_index p) (slice_index q) 0 b n ++ (p ++ q))
    carried_in zero l = parts.joined
    carried_in (suc n) l =
        let so = carried (slice_index p) (slice_index q) 0 b n in
        let at = get_or p n 0 in
        let word = get_or q n 0 in
        let low : at < size_word ws = omega (arith, page_in n (omega arith), named_all ws h full n (omega arith)) in
        let long : length so ≡ size_word ws = length-carried (slice_index p) (slice_index q) 0 b n ∙ parts.base in
        ap (λ xs. set xs (3 + entry_page ws n) (entry_word ws n)) (carried_in n (omega arith))
        ∙ ap (λ k. set (s ++ (so ++ (p ++ q))) (3 + k) (entry_word ws n)) (page_in n (omega arith))
        ∙ ap (set (s ++ (so ++ (p ++ q))) (3 + at)) (word_in n (omega arith))
        ∙ set_second s (so ++ (p ++ q)) 3 (3 + at) at word parts.sizes refl
        ∙ ap (λ xs. s ++ xs) (set-append_left so (p ++ q) at word (omega arith))
        ∙ ap (λ k. s ++ (set so k word ++ (p ++ q))) (sym (zero-add at))

    pub emptied-parts : Parts (emptied ws) (set s 2 0) (carried (slice_index p) (slice_index q) 0 b (capacity ws)) p q
    emptied-parts =
        let into = carried (slice_index p) (slice_index q) 0 b (capacity ws) in
        let n = emptied_size ws h full in
        let c = emptied-capacity ws h full in
        record {
          joined = ap (λ xs. set xs 2 0) (carried_in (capacity ws) (omega arith)) ∙ set-append_left s (into ++ (p ++ q)) 2 0 (omega (arith, parts.sizes));
          sizes = length-set s 2 0 ∙ parts.sizes;
          base = length-carried (slice_index p) (slice_index q) 0 b (capacity ws) ∙ parts.base ∙ sym n;
          pages = parts.pages ∙ sym c;
          words = parts.words ∙ sym c;
        }

-- the log with room for one more entry
module _ (ws : List ℕ) (h : sound ws ≡ true) where
  pub kept-room : (used ws ≡ capacity ws → ⊥) → ws ≡ with_room ws
  kept-room ne = let within = (sound_facts ws h).within in sym (cond-true (ltb (used ws) (capacity ws)) ws (emptied ws) (lt-ltb (used ws) (capacity ws) (omega arith)))

  pub made_room : used ws ≡ capacity ws → emptied ws ≡ with_room ws
  made_room full = sym (cond-false (ltb (used ws) (capacity ws)) ws (emptied ws) (le-ltb (used ws) (capacity ws) (omega arith)))

  -- it is ready for an append, and has the same pages
  pub record Ready (vs : List ℕ) : Type 0 where
    pub fit : sound vs ≡ true
    pub room : used vs < capacity vs
    pub size : size_word vs ≡ size_word ws
    pub capacity : capacity vs ≡ capacity ws
    pub pages : log_pages vs ≡ log_pages ws

  pub ready : Ready (with_room ws)
  ready =
      let s = sound_facts ws h in
      cond_both (ltb (used ws) (capacity ws)) ws (emptied ws) Ready
      (λ e. record { fit = h; room = ltb-true _ _ e; size = refl; capacity = refl; pages = refl })
      (λ e.
      let full : used ws ≡ capacity ws = omega (arith, ltb-false (used ws) (capacity ws) e, s.within) in
      record {
        fit = emptied-sound ws h full;
        room = omega (arith, emptied-used ws h full, emptied-capacity ws h full, s.some);
        size = emptied_size ws h full;
        capacity = emptied-capacity ws h full;
        pages = emptied-pages ws h full;
      })

  pub put_pages : (p w : ℕ) → p < size_word ws → log_pages (log_put ws p w) ≡ set (log_pages ws) p w
  put_pages p w low =
      let r = ready in
      appended-pages (with_room ws) p w r.fit r.room (omega (arith, r.size)) ∙ ap (λ xs. set xs p w) r.pages

  -- a put, part by part, where there is room and where there is none: of sizes `told` and base words `into` when the entry is
  -- written
  module _ (s b p q : List ℕ) (parts : Parts ws s b p q) (page word : ℕ) (told into : List ℕ) where
    pub put_room : (used ws ≡ capacity ws → ⊥) → told ≡ s → into ≡ b
        → set told 2 (get_or told 2 0 + 1) ++ (into ++ (set p (get_or told 2 0) page ++ set q (get_or told 2 0) word)) ≡ log_put ws page word
    put_room ne sizes whole =
        let within = (sound_facts ws h).within in
        ap (λ xs. set xs 2 (get_or xs 2 0 + 1) ++ (into ++ (set p (get_or xs 2 0) page ++ set q (get_or xs 2 0) word))) sizes
        ∙ ap (λ k. set s 2 (k + 1) ++ (into ++ (set p k page ++ set q k word))) (sym (used_in ws s b p q h parts))
        ∙ ap (λ xs. set s 2 (used ws + 1) ++ (xs ++ (set p (used ws) page ++ set q (used ws) word))) whole
        ∙ sym (appended-parts ws s b p q h parts page word (omega arith))
        ∙ ap (λ vs. appended vs page word) (kept-room ne)

    pub put_full : used ws ≡ capacity ws → told ≡ set s 2 0 → into ≡ carried (slice_index p) (slice_index q) 0 b (length p)
        → set told 2 (get_or told 2 0 + 1) ++ (into ++ (set p (get_or told 2 0) page ++ set q (get_or told 2 0) word)) ≡ log_put ws page word
    put_full full sizes whole =
        let vs = emptied ws in
        let s' = set s 2 0 in
        let some = (sound_facts ws h).some in
        let zero_used = emptied-used ws h full in
        let after = emptied-parts ws s b p q h parts full in
        ap (λ xs. set xs 2 (get_or xs 2 0 + 1) ++ (into ++ (set p (get_or xs 2 0) page ++ set q (get_or xs 2 0) word))) sizes
        ∙ ap (λ k. set s' 2 (k + 1) ++ (into ++ (set p k page ++ set q k word))) (get_or-set_same s 2 0 0 (omega (arith, parts.sizes)) ∙ sym zero_used)
        ∙ ap (λ xs. set s' 2 (used vs + 1) ++ (xs ++ (set p (used vs) page ++ set q (used vs) word))) (whole ∙ ap (carried (slice_index p) (slice_index q) 0 b) parts.pages)
        ∙ sym (appended-parts vs _ _ p q (emptied-sound ws h full) after page word (omega (arith, emptied-capacity ws h full)))
        ∙ ap (λ xs. appended xs page word) (made_room full)

  -- it keeps the layout
  pub put-layout : (p w : ℕ) → p < size_word ws → layout_of (log_put ws p w) ≡ layout_of ws
  put-layout p w low =
      let r = ready in
      let vs = with_room ws in
      let below : p < size_word vs = omega (arith, r.size) in
      cond-true _ _ _ (appended-sound vs p w r.fit r.room below)
      ∙ ap (λ (n : ℕ). Some (record { size = n; room = capacity (log_put ws p w) })) (size_kept vs p w r.fit r.room below ∙ r.size)
      ∙ ap (λ (c : ℕ). Some (record { size = size_word ws; room = c })) (capacity-kept vs p w r.fit r.room below ∙ r.capacity)
      ∙ sym (cond-true _ _ _ h)

-- a read below the size finds the last used entry naming the page, else the base word
pub read_is : (ws : List ℕ) (p : ℕ) → sound ws ≡ true → p < size_word ws
    → get_or (log_pages ws) p 0 ≡ latest (entry_page ws) (entry_word ws) p (get_or ws (3 + p) 0) (used ws)
read_is ws p h low =
    let long = length-base ws (sound_facts ws h) in
    ap (λ xs. get_or xs p 0) (log_pages-sound ws h)
    ∙ get_or-carried (entry_page ws) (entry_word ws) (base ws) (used ws) p 0 (omega arith)
    ∙ ap (λ w. latest (entry_page ws) (entry_word ws) p w (used ws)) (get_or-take (size_word ws) (drop 3 ws) p 0 low ∙ get_or-drop 3 ws p 0)
