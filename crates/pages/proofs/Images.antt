-- Laws of page images. Assumes nothing.
use Rattle.std.proofs.Common.{◌||◌, ◌≡◌, ℕ, zero, suc, ◌+◌, ◌-◌, ◌*◌, ◌<◌, Bool, true, false, cond, eqb, List, [], length, refl, Option, get_or-take, get_or-drop, drop-drop, nat_lt, nat_le, ◌≤◌, ◌⊎◌, get_or, take, drop, replicate, Some, None, sym, ap, ◌∙◌, ⊎_elim, add-zero, add-suc, arith}
use lib.ListN.{length-replicate}
use Rattle.std.proofs.lemmas.List.{get_or-replicate}
use Rattle.std.proofs.lemmas.Bool.{and_left, and_right, or_from, le-ltb, eqb-true, ne_eqb, cond-true, le-leb}
use Rattle.std.specs.Simd.{first_chunks}
use Rattle.std.specs.Int.{w32, from_be_bytes}
use Rattle.basics.specs.Bytes.{big_endian, word_at}
use Rattle.std.specs.Ordering.{nat_cmp, ordering_index}
use Rattle.std.proofs.lemmas.Bool.Decides.{nat_tests}
use Rattle.std.proofs.lemmas.Bool.{and_parts, or_cases, ltb-true, cases_eq}
use Rattle.pages.specs.Entries.{latest}
use Rattle.pages.specs.declared.fault.ImageFault.{ImageFault}
use Rattle.pages.specs.Image.{passed, bad_number, image_fault, image_size, image_named, named_page, named_word, good_number, or_this, first_bad, image_pages, length-image_pages}
use Rattle.pages.proofs.Entries.{get_or-carried}

module _ (bs : List ℕ) where
  -- number i is not good, where `least` is 0 at the first and one above the number before it at another
  pub bad_at : (i page least : ℕ) → page ≡ named_page bs i → (i ≡ 0 → least ≡ 0) → (0 < i → least ≡ named_page bs (i - 1) + 1)
      → (page < least) ⊎ ((least ≤ page) × (image_size bs ≤ page)) → good_number bs i ≡ false
  bad_at i page least here first next =
      ⊎_elim
      (λ (low : page < least).
      let after : i ≡ 0 → ⊥ = λ e. omega (arith, first e) in
      let gone : least ≡ named_page bs (i - 1) + 1 = next (omega arith) in
      and_right _ _ (or_from _ (nat_lt (named_page bs (i - 1)) (named_page bs i)) (ne_eqb i 0 after) (le-ltb _ _ (omega arith))))
      (λ (high : (least ≤ page) × (image_size bs ≤ page)). and_left (nat_lt (named_page bs i) (image_size bs)) _ (le-ltb _ _ (omega arith)))

  stays : (n m k : ℕ) → first_bad bs n ≡ Some k → first_bad bs (n + m) ≡ Some k
  stays n zero k h = ap (first_bad bs) (add-zero n) ∙ h
  stays n (suc m) k h = ap (first_bad bs) (add-suc n m) ∙ ap (or_this (good_number bs (n + m)) (n + m)) (stays n m k h)

  pub first_found : (i n : ℕ) → first_bad bs i ≡ None → good_number bs i ≡ false → i < n → first_bad bs n ≡ Some i
  first_found i n none bad l =
      let here : first_bad bs (suc i) ≡ Some i = ap (or_this (good_number bs i) i) none ∙ ap (λ b. cond b None (Some i)) bad in
      let e : suc i + (n - suc i) ≡ n = omega arith in
      ap (first_bad bs) (sym e) ∙ stays (suc i) (n - suc i) i here

-- where all of the first n page numbers are good, each is
or_this-none : (good : Bool) (i : ℕ) (found : Option ℕ) → or_this good i found ≡ None → (found ≡ None) × (good ≡ true)
or_this-none good i (Some k) e = absurd (cc)
or_this-none good i None e =
    (refl, elim good as (λ b. cond b None (Some i) ≡ None → b ≡ true) [ true ↦ λ x. refl | false ↦ λ x. absurd (cc) ] e)

pub all_good : (bs : List ℕ) (n : ℕ) → first_bad bs n ≡ None → (i : ℕ) → i < n → good_number bs i ≡ true
all_good bs zero h i l = absurd (omega arith)
all_good bs (suc n) h i l =
    let both = or_this-none (good_number bs n) n (first_bad bs n) h in
    ⊎_elim (λ (e : i ≡ n). rw e both.1) (λ (m : i ≡ n → ⊥). all_good bs n both.0 i (omega arith)) (cases_eq i n)

-- a greater number is no lower beside the one that is sought
pub ordered : (a b p : ℕ) → a ≤ b → ordering_index (nat_cmp a p) ≤ ordering_index (nat_cmp b p)
ordered a b p l = grind (arith, nat_tests)

-- the n-th chunk of four bytes
chunk_at : (k n : ℕ) (xs : List ℕ) → n < k → get_or (first_chunks 4 k xs) n [] ≡ take 4 (drop (4 * n) xs)
chunk_at zero n xs l = absurd (omega arith)
chunk_at (suc k) zero xs l = refl
chunk_at (suc k) (suc n) xs l =
    let e : 4 + 4 * n ≡ 4 * suc n = omega arith in
    chunk_at k n (drop 4 xs) (omega arith) ∙ ap (take 4) (drop-drop (4 * n) 4 xs ∙ ap (λ m. drop m xs) e)

-- the n-th number, where numbers stand from `at` on
pub from_chunk : (bs : List ℕ) (at k n : ℕ) → n < k → from_be_bytes w32 (get_or (first_chunks 4 k (drop at bs)) n []) ≡ big_endian bs (at + 4 * n)
from_chunk bs at k n l = rw (chunk_at k n (drop at bs) l) (rw (byte 0 (omega arith), byte 1 (omega arith), byte 2 (omega arith), byte 3 (omega arith), add-zero))
  where
    byte : (i : ℕ) → i < 4 → get_or (take 4 (drop (4 * n) (drop at bs))) i 0 ≡ get_or bs (at + 4 * n + i) 0
    byte i m =
        let e : at + (4 * n + i) ≡ at + 4 * n + i = omega arith in
        get_or-take 4 (drop (4 * n) (drop at bs)) i 0 m ∙ get_or-drop (4 * n) (drop at bs) i 0 ∙ get_or-drop at bs (4 * n + i) 0 ∙ ap (λ j. get_or bs j 0) e

module _ (bs : List ℕ) (h : image_fault bs ≡ None) where
  -- the last two checks
  lengths : (length bs ≡ 8 + 8 * image_named bs) × (first_bad bs (image_named bs) ≡ None)
  lengths =
      let long = passed (nat_lt (length bs) 8) _ _ h in
      let few = passed (nat_lt 4096 (image_size bs)) _ _ long.1 in
      let within = passed (nat_lt (image_size bs) (image_named bs)) _ _ few.1 in
      let both = exact (eqb (length bs) (8 + 8 * image_named bs)) _ _ within.1 in
      (eqb-true _ _ both.0, no_bad (first_bad bs (image_named bs)) both.1)
    where
      exact : (right : Bool) (others : Option ImageFault) (fault : ImageFault) → cond right others (Some fault) ≡ None → (right ≡ true) × (others ≡ None)
      exact right others fault = elim right as (λ b. cond b others (Some fault) ≡ None → (b ≡ true) × (others ≡ None)) [ true ↦ λ e. (refl, e) | false ↦ λ e. absurd (cc) ]

      no_bad : (found : Option ℕ) → bad_number found ≡ None → found ≡ None
      no_bad None e = refl
      no_bad (Some k) e = absurd (cc)

  pub sound_long : length bs ≡ 8 + 8 * image_named bs
  sound_long = lengths.0

  -- the page numbers rise
  pub rising : (i j : ℕ) → i < j → j < image_named bs → named_page bs i < named_page bs j
  rising i zero l m = absurd (omega arith)
  rising i (suc j) l m =
      let before_it : suc j - 1 ≡ j = omega arith in
      let good = and_parts (nat_lt (named_page bs (suc j)) (image_size bs)) (eqb (suc j) 0 || nat_lt (named_page bs (suc j - 1)) (named_page bs (suc j))) (all_good bs (image_named bs) lengths.1 (suc j) m) in
      let step : named_page bs j < named_page bs (suc j) =
      ⊎_elim (λ (e : eqb (suc j) 0 ≡ true). absurd (omega (arith, eqb-true (suc j) 0 e))) (λ e. ltb-true (named_page bs j) (named_page bs (suc j)) (ap (λ k. nat_lt (named_page bs k) (named_page bs (suc j))) (sym before_it) ∙ e)) (or_cases (eqb (suc j) 0) _ good.1) in
      ⊎_elim (λ (e : i ≡ j). rw e step) (λ (n : i ≡ j → ⊥). let before = rising i j (omega arith) (omega arith) in omega arith) (cases_eq i j)

  pub rising_le : (i j : ℕ) → i ≤ j → j < image_named bs → named_page bs i ≤ named_page bs j
  rising_le i j l m = ⊎_elim (λ (e : i ≡ j). rw e (omega arith)) (λ (n : i ≡ j → ⊥). let above = rising i j (omega arith) m in omega arith) (cases_eq i j)

  -- the first word is the size
  pub first_word : (w : ℕ) → word_at bs 0 ≡ Some w → w ≡ length (image_pages bs)
  first_word w e =
      let long = sound_long in
      let here : Some w ≡ Some (image_size bs) = sym e ∙ cond-true (nat_le (0 + 4) (length bs)) _ _ (le-leb _ _ (omega arith)) in
      let w_is : w ≡ image_size bs = cc in
      w_is ∙ sym (length-image_pages bs)

  pub image_read : (p : ℕ) → p < length (image_pages bs) → get_or (image_pages bs) p 0 ≡ latest (named_page bs) (named_word bs) p 0 (image_named bs)
  image_read p low =
      let below : p < image_size bs = omega (arith, length-image_pages bs) in
      get_or-carried (named_page bs) (named_word bs) (replicate (image_size bs) 0) (image_named bs) p 0 (omega (arith, length-replicate {A = ℕ} (image_size bs) 0))
      ∙ ap (λ w. latest (named_page bs) (named_word bs) p w (image_named bs)) (get_or-replicate (image_size bs) p 0 0 below)
