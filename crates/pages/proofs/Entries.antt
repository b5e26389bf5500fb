-- Laws of entries that name pages. Assumes nothing.
use Rattle.std.proofs.Common.{◌≡◌, Bool, max, ℕ, zero, suc, ◌+◌, ◌<◌, ◌≤◌, true, cond, ◌&&◌, ltb, ◌≢◌, ◌⊎◌, List, length, get_or, slice_index, nat_lt, fold, [], ◌∷◌, take_all, add-one, take, drop, set, sym, refl, ap, ◌∙◌, inl, inr, ⊎_elim, zero-add, arith, get_or-set_other, get_or-set_same}
use lib.Seq.{take-set-lt, drop-set-add}
use Rattle.std.proofs.lemmas.Bool.Decides.{nat_tests}
use Rattle.std.proofs.lemmas.List.{take_more}
use Rattle.std.proofs.lemmas.List.Sums.{fold-append}
use Rattle.std.proofs.lemmas.Bool.{and_parts, and_from, ltb-true, lt-ltb, eq-eqb, ne_eqb, cases_eq}
use Rattle.pages.specs.Entries.{carried, latest, all_below, length-carried}

-- the last of n + 1, or one of the first n
last_or : (i n : ℕ) → i < suc n → (i ≡ n) ⊎ (i < n)
last_or i n l = ⊎_elim (λ e. inl e) (λ e. inr (omega arith)) (cases_eq i n)

module _ (page : ℕ → ℕ) (limit : ℕ) where
  -- only the first n count
  pub all_below-same : (other : ℕ → ℕ) (n : ℕ) → ((i : ℕ) → i < n → page i ≡ other i) → all_below page limit n ≡ all_below other limit n
  all_below-same other zero same = refl
  all_below-same other (suc n) same = rw (same n (omega arith), all_below-same other n (λ i l. same i (omega arith)))

  pub all_below_at : (n : ℕ) → all_below page limit n ≡ true → (i : ℕ) → i < n → page i < limit
  all_below_at zero h i l = absurd (omega arith)
  all_below_at (suc n) h i l =
      let parts = and_parts (ltb (page n) limit) (all_below page limit n) h in
      let last = ltb-true (page n) limit parts.0 in
      let rest = all_below_at n parts.1 in
      ⊎_elim (λ (e : i ≡ n). rw e last) (λ (m : i < n). rest i m) (last_or i n l)

  pub all_below_from : (n : ℕ) → ((i : ℕ) → i < n → page i < limit) → all_below page limit n ≡ true
  all_below_from zero h = refl
  all_below_from (suc n) h =
      and_from (ltb (page n) limit) (all_below page limit n) (lt-ltb _ _ (h n (omega arith))) (all_below_from n (λ i l. h i (omega arith)))

-- the same of a list, by a fold over it
pub fold-all_below : (xs : List ℕ) (limit : ℕ) → fold (λ below n. nat_lt n limit && below) true xs ≡ all_below (slice_index xs) limit (length xs)
fold-all_below xs limit = ap (fold _ true) (sym (take_all (length xs) xs (omega arith))) ∙ front (length xs) (omega arith)
  where
    front : (n : ℕ) → n ≤ length xs → fold (λ below n. nat_lt n limit && below) true (take n xs) ≡ all_below (slice_index xs) limit n
    front zero l = refl
    front (suc n) l =
        ap (fold _ true) (ap (λ k. take k xs) (sym (add-one n)) ∙ take_more xs n 0 (omega arith))
        ∙ fold-append _ true (take n xs) (get_or xs n 0 ∷ [])
        ∙ ap (λ b. nat_lt (get_or xs n 0) limit && b) (front n (omega arith))

-- the same by the highest number
module _ (limit : ℕ) where
  abbrev Below : Bool → List ℕ → Bool
  Below b xs = fold (λ below n. nat_lt n limit && below) b xs

  highest_or : (n highest : ℕ) → nat_lt (max n highest) limit ≡ (nat_lt n limit && nat_lt highest limit)
  highest_or n highest = grind (arith, nat_tests)

  highest_of_one : (n : ℕ) → nat_lt (max n 0) limit ≡ (nat_lt n limit && true)
  highest_of_one n = grind (arith, nat_tests)

  highest_below : (xs : List ℕ) (h : ℕ) → nat_lt (fold (λ highest n. max n highest) h xs) limit ≡ Below (nat_lt h limit) xs
  highest_below [] h = refl
  highest_below (x ∷ xs) h = highest_below xs (max x h) ∙ ap (λ b. Below b xs) (highest_or x h)

  pub highest-all_below : (xs : List ℕ) → 0 < length xs → nat_lt (fold (λ highest n. max n highest) 0 xs) limit ≡ all_below (slice_index xs) limit (length xs)
  highest-all_below [] l = absurd (omega arith)
  highest-all_below (x ∷ xs) l =
      highest_below xs (max x 0) ∙ ap (λ b. Below b xs) (highest_of_one x) ∙ fold-all_below (x ∷ xs) limit

module _ (page word : ℕ → ℕ) where
  -- what no entry names stays
  pub carried_other : (at : ℕ) (into : List ℕ) (n k d : ℕ) → ((i : ℕ) → i < n → k ≢ at + page i) → get_or (carried page word at into n) k d ≡ get_or into k d
  carried_other at into zero k d apart = refl
  carried_other at into (suc n) k d apart =
      get_or-set_other (carried page word at into n) (at + page n) k (word n) d (apart n (omega arith))
      ∙ carried_other at into n k d (λ i l. apart i (omega arith))

  -- a page's word is that of the last entry naming it, else the word that was there
  pub get_or-carried : (into : List ℕ) (n p d : ℕ) → p < length into → get_or (carried page word 0 into n) p d ≡ latest page word p (get_or into p d) n
  get_or-carried into zero p d l = refl
  get_or-carried into (suc n) p d l =
      let before = get_or-carried into n p d l in
      let so = carried page word 0 into n in
      let long : length so ≡ length into = length-carried page word 0 into n in
      let older = latest page word p (get_or into p d) n in
      ⊎_elim
      (λ (e : page n ≡ p).
      let at : 0 + page n ≡ p = omega arith in
      let within : p < length so = omega arith in
      ap (λ k. get_or (set so k (word n)) p d) at ∙ get_or-set_same so p (word n) d within
      ∙ sym (ap (λ b. cond b (word n) older) (eq-eqb (page n) p e)))
      (λ (e : page n ≡ p → ⊥).
      get_or-set_other so (0 + page n) p (word n) d (λ s. e (omega arith)) ∙ before
      ∙ sym (ap (λ b. cond b (word n) older) (ne_eqb (page n) p e)))
      (cases_eq (page n) p)

  -- carrying into words whose pages begin at `at` carries into the pages
  pub carried_part : (at size : ℕ) (ws : List ℕ) (n : ℕ) → ((i : ℕ) → i < n → page i < size) → take size (drop at (carried page word at ws n)) ≡ carried page word 0 (take size (drop at ws)) n
  carried_part at size ws zero low = refl
  carried_part at size ws (suc n) low =
      let so = carried page word at ws n in
      let before : take size (drop at so) ≡ carried page word 0 (take size (drop at ws)) n = carried_part at size ws n (λ i l. low i (omega arith)) in
      let below : page n < size = low n (omega arith) in
      ap (take size) (drop-set-add at so (page n) (word n))
      ∙ take-set-lt size (drop at so) (page n) (word n) below
      ∙ ap (λ xs. set xs (page n) (word n)) before
      ∙ ap (λ k. set (carried page word 0 (take size (drop at ws)) n) k (word n)) (sym (zero-add (page n)))

  -- the word of a page that no entry names
  pub latest_none : (p w n : ℕ) → ((k : ℕ) → k < n → page k ≢ p) → latest page word p w n ≡ w
  latest_none p w zero apart = refl
  latest_none p w (suc n) apart =
      ap (λ b. cond b (word n) (latest page word p w n)) (ne_eqb _ _ (apart n (omega arith))) ∙ latest_none p w n (λ k l. apart k (omega arith))

  -- the word of a page that entry i names, and none after it
  pub latest_at : (p w n i : ℕ) → i < n → page i ≡ p → ((k : ℕ) → i < k → k < n → page k ≢ p) → latest page word p w n ≡ word i
  latest_at p w zero i l here after = absurd (omega arith)
  latest_at p w (suc n) i l here after =
      ⊎_elim
      (λ (e : i ≡ n). rw (← e) (ap (λ b. cond b (word i) (latest page word p w i)) (eq-eqb _ _ here)))
      (λ (m : i < n).
      ap (λ b. cond b (word n) (latest page word p w n)) (ne_eqb _ _ (after n m (omega arith)))
      ∙ latest_at p w n i m here (λ k a b. after k a (omega arith)))
      (last_or i n l)

-- only the entries carried count
pub carried_same : (page word page' word' : ℕ → ℕ) (at : ℕ) (into : List ℕ) (n : ℕ) → ((i : ℕ) → i < n → page i ≡ page' i) → ((i : ℕ) → i < n → word i ≡ word' i) → carried page word at into n ≡ carried page' word' at into n
carried_same page word page' word' at into zero p w = refl
carried_same page word page' word' at into (suc n) p w =
    let before = carried_same page word page' word' at into n (λ i l. p i (omega arith)) (λ i l. w i (omega arith)) in
    rw (before, p n (omega arith), w n (omega arith))
