-- Each relation in words leaves one engine after it. Assumes nothing.
use Rattle.std.proofs.Common.{◌≡◌, ℕ, zero, suc, ◌<◌, ◌≤◌, true, false, not, ◌&&◌, ◌||◌, eqb, ◌≢◌, ◌⊎◌, List, [], get_or, is_some, Some, None, Option, sym, refl, ap, ◌∙◌, subst, inl, inr, ⊎_elim, arith}
use Rattle.std.specs.List.{slice_get}
use Rattle.std.proofs.lemmas.List.{ext_get_or}
use Rattle.std.proofs.lemmas.Bool.{cases_Bool, cases_eq, cases_lt, and_parts, and_from, or_cases, or_left, or_right, not-true, not_from_false, eqb-false, ne_eqb, both_ways}
use Rattle.pages.specs.declared.WriteEntry.{WriteEntry}
use Rattle.serial.specs.Machine.{Meaning, Steps, Stand, store_read, write_of, has_read, has_written}
use Rattle.serial.specs.Rules.{Engine, fresh_engine, script_of, is_open, row, shadow, reads_of, lead_writes, clean, count, read_conflict, write_conflict}
use Rattle.serial.specs.Sound.{Eight}
use Rattle.serial.specs.Words.{SetsShadow, AccountsFor, SlotBySlot, DueBeforeRead, DueAfterWrite, LeadMoves, ShadowMoves, Closes, unread, Commits, Aborts, Opens, Allows, OneEngine, RelationsFixEngine, Fresh, FreshInWords}
use Rattle.serial.proofs.Table.{none_is_some, none_is, some_or_none, here_or_not, nothing_at}
use Rattle.serial.proofs.Kept.{no_exempt, Inv}
use Rattle.serial.proofs.Calls.{fresh_good}
use Rattle.serial.proofs.Furthest.{furthest_or_start-one}

-- engines with equal allowance, scripts and shadows, place by place, are the same
engine_with : (a b : Engine) → a.allowance ≡ b.allowance → a.scripts ≡ b.scripts → a.shadows ≡ b.shadows → a ≡ b
engine_with a b k s r =
    ap (λ x. record { allowance = x; scripts = a.scripts; shadows = a.shadows }) k
    ∙ ap (λ x. record { allowance = b.allowance; scripts = x; shadows = a.shadows }) s
    ∙ ap (λ x. record { allowance = b.allowance; scripts = b.scripts; shadows = x }) r

same_engine : (a b : Engine) → Eight a → Eight b → a.allowance ≡ b.allowance → ((v : ℕ) → script_of a v ≡ script_of b v) → ((v w : ℕ) → shadow a v w ≡ shadow b v w) → a ≡ b
same_engine a b x y k scripts shadows =
    engine_with a b k
    (ext_get_or None a.scripts b.scripts (x.0 ∙ sym y.0) (λ v l. scripts v))
    (ext_get_or [] a.shadows b.shadows (x.1 ∙ sym y.1) (λ v l.
    let in_range : v < 8 = let n = x.1 in omega arith in
    ext_get_or None (row a v) (row b v) (x.2 v in_range ∙ sym (y.2 v in_range)) (λ w m. shadows v w)))

-- what is there just when it meets a condition is one thing
one_option : {X : Type 0} (o o' : Option X) → ((x : X) → o ≡ Some x → o' ≡ Some x) → ((x : X) → o' ≡ Some x → o ≡ Some x) → o ≡ o'
one_option None None f g = refl
one_option None (Some y) f g = g y refl
one_option (Some x) o' f g = sym (f x refl)

pub places-one : (e : Engine) (t u : ℕ) (s : Stand) → OneEngine (SetsShadow e t u s)
places-one e t u s a b x y =
    same_engine a b x.eight y.eight (x.allowance ∙ sym y.allowance) (λ v. ap (λ xs. get_or xs v None) (x.scripts ∙ sym y.scripts)) shadows
  where
    shadows : (v w : ℕ) → shadow a v w ≡ shadow b v w
    shadows v w =
        ⊎_elim
        (λ (h : (v ≡ t) × (w ≡ u)). subst (λ m. shadow a m w ≡ shadow b m w) (sym h.0) (subst (λ m. shadow a t m ≡ shadow b t m) (sym h.1) (x.named ∙ sym y.named)))
        (λ (h : v ≡ t → w ≡ u → ⊥). x.besides v w h ∙ sym (y.besides v w h))
        (here_or_not v w t u)

-- there is room or none
room_or_full : (e : Engine) (t u : ℕ) → ((is_some (shadow e t u) ≡ true) ⊎ (count (row e t) < e.allowance)) ⊎ ((shadow e t u ≡ None) × (e.allowance ≤ count (row e t)))
room_or_full e t u =
    ⊎_elim
    (λ (h : is_some (shadow e t u) ≡ true). inl (inl h))
    (λ (h : is_some (shadow e t u) ≡ false). ⊎_elim
    (λ (l : count (row e t) < e.allowance). inl (inr l))
    (λ (l : e.allowance ≤ count (row e t)). inr (none_is (shadow e t u) h, l))
    (cases_lt (count (row e t)) e.allowance))
    (cases_Bool (is_some (shadow e t u)))

pub accounts-one : (e : Engine) (t u : ℕ) → OneEngine (AccountsFor e t u)
accounts-one e t u a b x y =
    ⊎_elim
    (λ (r : (is_some (shadow e t u) ≡ true) ⊎ (count (row e t) < e.allowance)).
    let p = x.room r in
    let q = y.room r in
    let same = furthest_or_start-one (clean e u) t (row e t) p.0 q.0 p.1 q.1 in
    places-one e t u q.0 a b (subst (λ s. SetsShadow e t u s a) same p.2) q.2)
    (λ (r : (shadow e t u ≡ None) × (e.allowance ≤ count (row e t))). x.no_room r.0 r.1 ∙ sym (y.no_room r.0 r.1))
    (room_or_full e t u)

-- a part that leaves one engine, done slot by slot, leaves one
module _ (Due : Engine → ℕ → Type 0) (Part : Engine → ℕ → Engine → Type 0) (decide : (e : Engine) (u : ℕ) → Due e u ⊎ (Due e u → ⊥)) (one : (e : Engine) (u : ℕ) → OneEngine (Part e u)) where
  stage-one : (e a b : Engine) (x : SlotBySlot Due Part e a) (y : SlotBySlot Due Part e b) (n : ℕ) → n ≤ 8 → x.stage n ≡ y.stage n
  stage-one e a b x y zero l = x.first ∙ sym y.first
  stage-one e a b x y (suc n) l =
      let same = stage-one e a b x y n (omega arith) in
      let below : n < 8 = omega arith in
      ⊎_elim
      (λ (d : Due (x.stage n) n). one (x.stage n) n (x.stage (suc n)) (y.stage (suc n)) (x.due n below d) (subst (λ m. Part m n (y.stage (suc n))) (sym same) (y.due n below (subst (λ m. Due m n) same d))))
      (λ (d : Due (x.stage n) n → ⊥). x.spared n below d ∙ same ∙ sym (y.spared n below (λ z. d (subst (λ m. Due m n) (sym same) z))))
      (decide (x.stage n) n)

  pub slots-one : (e : Engine) → OneEngine (SlotBySlot Due Part e)
  slots-one e a b x y = sym x.last ∙ stage-one e a b x y 8 (omega arith) ∙ y.last

-- the rules' tests of what is due are what is due
pub read_due : (e : Engine) (t p u : ℕ) → read_conflict e t p u ≡ true → DueBeforeRead t (Some p) e u
read_due e t p u h =
    let a = and_parts (not (eqb u t)) (is_open e u && (not (is_some (shadow e t u)) && has_written (lead_writes e u) p)) h in
    let b = and_parts (is_open e u) (not (is_some (shadow e t u)) && has_written (lead_writes e u) p) a.1 in
    let c = and_parts (not (is_some (shadow e t u))) (has_written (lead_writes e u) p) b.1 in
    record {
      other = eqb-false u t (not-true (eqb u t) a.0);
      opened = b.0;
      lacks = none_is (shadow e t u) (not-true (is_some (shadow e t u)) c.0);
      page = p;
      is_read = refl;
      wrote = c.1;
    }

pub due_read : (e : Engine) (t p u : ℕ) → DueBeforeRead t (Some p) e u → read_conflict e t p u ≡ true
due_read e t p u d =
    let same : p ≡ d.page = let m : Some p ≡ Some d.page = d.is_read in cc in
    and_from _ _ (not_from_false (eqb u t) (ne_eqb u t d.other))
    (and_from _ _ d.opened (and_from _ _ (not_from_false (is_some (shadow e t u)) (ap is_some d.lacks)) (ap (has_written (lead_writes e u)) same ∙ d.wrote)))

pub write_due : (e : Engine) (t p v : ℕ) → write_conflict e t p v ≡ true → DueAfterWrite t (Some p) e v
write_due e t p v h =
    let a = and_parts (not (eqb v t)) (is_open e v && (has_read (reads_of (shadow e v v)) p && (not (is_some (shadow e v t)) || has_read (reads_of (shadow e v t)) p))) h in
    let b = and_parts (is_open e v) (has_read (reads_of (shadow e v v)) p && (not (is_some (shadow e v t)) || has_read (reads_of (shadow e v t)) p)) a.1 in
    let c = and_parts (has_read (reads_of (shadow e v v)) p) (not (is_some (shadow e v t)) || has_read (reads_of (shadow e v t)) p) b.1 in
    record {
      other = eqb-false v t (not-true (eqb v t) a.0);
      opened = b.0;
      page = p;
      is_written = refl;
      lead_read = c.0;
      lacks_or_read = ⊎_elim
          (λ (z : not (is_some (shadow e v t)) ≡ true). inl (none_is (shadow e v t) (not-true (is_some (shadow e v t)) z)))
          (λ (z : has_read (reads_of (shadow e v t)) p ≡ true). inr z)
          (or_cases (not (is_some (shadow e v t))) (has_read (reads_of (shadow e v t)) p) c.1);
    }

pub due_write : (e : Engine) (t p v : ℕ) → DueAfterWrite t (Some p) e v → write_conflict e t p v ≡ true
due_write e t p v d =
    let same : p ≡ d.page = let m : Some p ≡ Some d.page = d.is_written in cc in
    and_from _ _ (not_from_false (eqb v t) (ne_eqb v t d.other))
    (and_from _ _ d.opened
    (and_from _ _ (ap (has_read (reads_of (shadow e v v))) same ∙ d.lead_read)
    (⊎_elim
    (λ (z : shadow e v t ≡ None). or_left (not (is_some (shadow e v t))) _ (not_from_false (is_some (shadow e v t)) (ap is_some z)))
    (λ (z : has_read (reads_of (shadow e v t)) d.page ≡ true). or_right (not (is_some (shadow e v t))) _ (ap (has_read (reads_of (shadow e v t))) same ∙ z))
    d.lacks_or_read)))

pub no_read_due : (t : ℕ) (e : Engine) (u : ℕ) → DueBeforeRead t None e u → ⊥
no_read_due t e u d = none_is_some d.page d.is_read

pub no_write_due : (t : ℕ) (e : Engine) (v : ℕ) → DueAfterWrite t None e v → ⊥
no_write_due t e v d = none_is_some d.page d.is_written

decide_read : (t : ℕ) (read : Option ℕ) (e : Engine) (u : ℕ) → DueBeforeRead t read e u ⊎ (DueBeforeRead t read e u → ⊥)
decide_read t None e u = inr (no_read_due t e u)
decide_read t (Some p) e u =
    ⊎_elim
    (λ (h : read_conflict e t p u ≡ true). inl (read_due e t p u h))
    (λ (h : read_conflict e t p u ≡ false). inr (λ d. both_ways (read_conflict e t p u) h (due_read e t p u d)))
    (cases_Bool (read_conflict e t p u))

decide_write : (t : ℕ) (write : Option ℕ) (e : Engine) (v : ℕ) → DueAfterWrite t write e v ⊎ (DueAfterWrite t write e v → ⊥)
decide_write t None e v = inr (no_write_due t e v)
decide_write t (Some p) e v =
    ⊎_elim
    (λ (h : write_conflict e t p v ≡ true). inl (write_due e t p v h))
    (λ (h : write_conflict e t p v ≡ false). inr (λ d. both_ways (write_conflict e t p v) h (due_write e t p v d)))
    (cases_Bool (write_conflict e t p v))

pub lead_moves-one : (e : Engine) (t : ℕ) (read write : Option ℕ) (to : Stand) → OneEngine (LeadMoves e t read write to)
lead_moves-one e t read write to a b x y =
    let same = slots-one (DueBeforeRead t read) (λ z u z'. AccountsFor z t u z') (decide_read t read) (λ z u. accounts-one z t u) e x.accounted y.accounted x.before y.before in
    let there = places-one y.accounted t t to x.stepped y.stepped (subst (λ z. SetsShadow z t t to x.stepped) same x.step) y.step in
    slots-one (DueAfterWrite t write) (λ z v z'. AccountsFor z v t z') (decide_write t write) (λ z v. accounts-one z v t) y.stepped a b (subst (λ z. SlotBySlot (DueAfterWrite t write) (λ z v z'. AccountsFor z v t z') z a) there x.after) y.after

pub moves-one : (e : Engine) (t u : ℕ) (script : Steps) (s to : Stand) → OneEngine (ShadowMoves e t u script s to)
moves-one e t u script s to a b x y =
    ⊎_elim
    (λ (q : u ≡ t). lead_moves-one e t (store_read (slice_get script s.step) s) (write_of (slice_get script s.step) s) to a b (x.leading q) (y.leading q))
    (λ (q : u ≡ t → ⊥). places-one e t u to a b (x.other q) (y.other q))
    (cases_eq u t)

closes-scripts : (e : Engine) (t : ℕ) (a b : Engine) → Closes e t a → Closes e t b → (v : ℕ) → script_of a v ≡ script_of b v
closes-scripts e t a b x y v =
    ⊎_elim
    (λ (q : v ≡ t). subst (λ m. script_of a m ≡ script_of b m) (sym q) (x.script ∙ sym y.script))
    (λ (q : v ≡ t → ⊥). x.scripts v q ∙ sym (y.scripts v q))
    (cases_eq v t)

-- of engines in which t has closed, what is left is to be the same elsewhere
closes-shadows : (e : Engine) (t : ℕ) (a b : Engine) → Closes e t a → Closes e t b → ((v u : ℕ) → v ≢ t → u ≢ t → shadow a v u ≡ shadow b v u) → (v u : ℕ) → shadow a v u ≡ shadow b v u
closes-shadows e t a b x y same v u =
    ⊎_elim
    (λ (q : v ≡ t). subst (λ m. shadow a m u ≡ shadow b m u) (sym q) (x.bare u ∙ sym (y.bare u)))
    (λ (q : v ≡ t → ⊥). ⊎_elim
    (λ (p : u ≡ t). subst (λ m. shadow a v m ≡ shadow b v m) (sym p) (x.none_for v ∙ sym (y.none_for v)))
    (λ (p : u ≡ t → ⊥). same v u q p)
    (cases_eq u t))
    (cases_eq v t)

pub commits-one : (e : Engine) (t : ℕ) (replaced : List WriteEntry) → OneEngine (Commits e t replaced)
commits-one e t replaced a b x y =
    same_engine a b x.closes.eight y.closes.eight (x.closes.allowance ∙ sym y.closes.allowance) (closes-scripts e t a b x.closes y.closes)
    (closes-shadows e t a b x.closes y.closes (λ v u ne d. ⊎_elim (λ (q : u ≡ v). subst (λ m. shadow a v m ≡ shadow b v m) (sym q) (leads v ne)) (λ (q : u ≡ v → ⊥). others v u ne d q) (cases_eq u v)))
  where
    others : (v u : ℕ) → v ≢ t → u ≢ t → u ≢ v → shadow a v u ≡ shadow b v u
    others v u ne d q =
        one_option (shadow a v u) (shadow b v u)
        (λ s h. (y.others v u s ne d q).1 ((x.others v u s ne d q).0 h))
        (λ s h. (x.others v u s ne d q).1 ((y.others v u s ne d q).0 h))

    leads : (v : ℕ) → v ≢ t → shadow a v v ≡ shadow b v v
    leads v ne =
        ⊎_elim
        (λ (o : (lead : Stand) × (shadow e v v ≡ Some lead)). ⊎_elim
        (λ (h : unread replaced o.0 ≡ true). x.stays v o.0 ne o.1 h ∙ sym (y.stays v o.0 ne o.1 h))
        (λ (h : unread replaced o.0 ≡ false).
        let p = x.spoiled v o.0 ne o.1 h in
        let q = y.spoiled v o.0 ne o.1 h in
        p.2 ∙ ap Some (furthest_or_start-one (unread replaced) v (row e v) p.0 q.0 p.1 q.1) ∙ sym q.2)
        (cases_Bool (unread replaced o.0)))
        (λ (o : shadow e v v ≡ None). x.unled v o ∙ sym (y.unled v o))
        (some_or_none (shadow e v v))

pub aborts-one : (e : Engine) (t : ℕ) → OneEngine (Aborts e t)
aborts-one e t a b x y =
    same_engine a b x.closes.eight y.closes.eight (x.closes.allowance ∙ sym y.closes.allowance) (closes-scripts e t a b x.closes y.closes)
    (closes-shadows e t a b x.closes y.closes (λ v u ne d. x.others v u ne d ∙ sym (y.others v u ne d)))

pub opens-one : (e : Engine) (t : ℕ) (script : Steps) → OneEngine (Opens e t script)
opens-one e t script a b x y = same_engine a b x.eight y.eight (x.allowance ∙ sym y.allowance) scripts shadows
  where
    scripts : (v : ℕ) → script_of a v ≡ script_of b v
    scripts v =
        ⊎_elim
        (λ (q : v ≡ t). subst (λ m. script_of a m ≡ script_of b m) (sym q) (x.runs ∙ sym y.runs))
        (λ (q : v ≡ t → ⊥). x.scripts v q ∙ sym (y.scripts v q))
        (cases_eq v t)

    shadows : (v w : ℕ) → shadow a v w ≡ shadow b v w
    shadows v w =
        ⊎_elim
        (λ (h : (v ≡ t) × (w ≡ t)). subst (λ m. shadow a m w ≡ shadow b m w) (sym h.0) (subst (λ m. shadow a t m ≡ shadow b t m) (sym h.1) (x.lead ∙ sym y.lead)))
        (λ (h : v ≡ t → w ≡ t → ⊥). x.besides v w h ∙ sym (y.besides v w h))
        (here_or_not v w t t)

pub allows-one : (e : Engine) (k : ℕ) → OneEngine (Allows e k)
allows-one e k a b x y = engine_with a b (x.allowance ∙ sym y.allowance) (x.scripts ∙ sym y.scripts) (x.shadows ∙ sym y.shadows)

-- what is fresh rests on no arithmetic
no_arithmetic : Meaning
no_arithmetic op a b = 0

pub relations_fix_engine : RelationsFixEngine
relations_fix_engine = record {
  places = places-one;
  accounts = accounts-one;
  lead_moves = lead_moves-one;
  moves = moves-one;
  commits = commits-one;
  aborts = aborts-one;
  opens = opens-one;
  allows = allows-one;
}

-- a fresh engine, and no other, is one in words
pub fresh_in_words : FreshInWords
fresh_in_words e = (
  λ f. same_engine fresh_engine e eight f.eight (sym f.allowance) (λ v. nothing_at 8 v ∙ sym (f.closed v)) (λ v w. bare v w ∙ sym (f.bare v w)),
  λ q. subst Fresh q (record { allowance = refl; closed = nothing_at 8; bare = bare; eight = eight }),
)
  where
    good : Inv no_arithmetic [] no_exempt fresh_engine
    good = fresh_good no_arithmetic []

    eight : Eight fresh_engine
    eight = (good.sized.scripts, good.sized.rows, good.sized.places)

    bare : (v w : ℕ) → shadow fresh_engine v w ≡ None
    bare v w = (good.rows v).bare (nothing_at 8 v) w
