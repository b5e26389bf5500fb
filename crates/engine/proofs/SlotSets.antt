-- Sets of slots by their bits, tried on every byte. Assumes nothing.
use Rattle.std.proofs.Common.{◌≡◌, ℕ, zero, suc, ◌+◌, ◌<◌, ◌≤◌, ◌-◌, ◌%◌, min, Bool, true, false, cond, not, ◌&&◌, ◌==◌, nat_lt, List, [], ◌∷◌, Some, None, Ok, Err, Result, MatchResult, map, length, get_or, set, bit_and, bit_or, w8, ◌≢◌, ◌*◌, ◌^◌, ⊎_elim, refl, sym, ap, ◌∙◌, arith}
use Rattle.std.specs.Int.{bit_at, trailing_zeros}
use Rattle.std.proofs.lemmas.Nat.Bits.{bit_at_and, bit_at_not, bit_at-lt, bit_at_set_same, bit_at_set_other, bit_at_clear_same, bit_at_clear_other}
use Rattle.std.specs.Int.RustNames.{count_ones}
use Rattle.std.specs.Str.{bytes_eq}
use Rattle.std.specs.Result.{result_ok}
use Rattle.std.proofs.lemmas.Bool.{cond-true, cond-false, lt-ltb, le-ltb}
use Rattle.std.specs.List.{filter}
use Rattle.std.proofs.lemmas.Bool.Decides.{Decides-below_and, eqb_tells}
use Rattle.std.proofs.lemmas.Slice.Eq.{bytes_eq-Decides}
use Rattle.serial.specs.Rules.{slots}
use Rattle.engine.specs.SlotSet.{is_member, flags}
use Rattle.engine.specs.declared.slot_set.SlotSet.{SlotSet}

-- whether a bit is 1
abbrev pub one_at : ℕ → ℕ → Bool
one_at n u = bit_at n u == 1

-- equations between lists, each of which a look at every byte shows
module _ (left right : ℕ → List ℕ) where
  abbrev pub same_at : ℕ → Bool
  same_at n = bytes_eq (left n) (right n)

  abbrev pub same_below : ℕ → Bool
  same_below zero = true
  same_below (suc n) = same_at n && same_below n

  pub for_bytes : same_below 256 ≡ true → (n : ℕ) → n < 256 → left n ≡ right n
  for_bytes h n low =
      (Decides-below_and same_at (λ k. left k ≡ right k) same_below (λ k. bytes_eq-Decides (left k) (right k)) refl (λ _. refl) 256).0 h n low

-- the members of the set that a byte is
abbrev pub in_byte : ℕ → List ℕ
in_byte n = filter (one_at n) slots

-- the lowest member, and then those of the byte without its lowest 1
abbrev pub from_lowest : ℕ → List ℕ
from_lowest n =
    let u = trailing_zeros w8 n in cond (nat_lt 7 u) [] (u ∷ in_byte (bit_and n ((n + 255) % 256)))

pub lowest_first : (n : ℕ) → n < 256 → in_byte n ≡ from_lowest n
unfolding lib.Count.count_trailing_zeros
lowest_first = for_bytes in_byte from_lowest refl

-- as many bits are 1 as flags are up
pub ones_counted : (n : ℕ) → n < 256 → count_ones n ≡ length (filter (λ b. b) (map (one_at n) slots))
unfolding count_ones
ones_counted n low =
    ap (λ xs. get_or xs 0 0) (for_bytes (λ k. count_ones k ∷ []) (λ k. length (filter (λ b. b) (map (one_at k) slots)) ∷ []) refl n low)

-- what a slot tried from a number says of the number
module _ {F : Type 0} (P : F → Type 0) (n : ℕ) where
  abbrev pub Tried : Result ℕ F → Type 0
  Tried r = MatchResult r (λ t. (t ≡ n) × (t ≤ 7)) (λ f. P f × (7 < n))

  pub none_from : (r : Result ℕ F) → Tried r → result_ok r ≡ None → 7 < n
  none_from (Ok t) h e = absurd (cc)
  none_from (Err f) h e = h.1

  pub some_from : (r : Result ℕ F) (u : ℕ) → Tried r → result_ok r ≡ Some u → (u ≡ n) × (n ≤ 7)
  some_from (Ok t) u h e = let same : t ≡ u = cc in (sym same ∙ h.0, let a = h.0 in let b = h.1 in omega (arith, a, b))
  some_from (Err f) u h e = absurd (cc)

-- what a byte's trailing zeros say of its lowest member
pub none_lowest : (n : ℕ) → n < 256 → 7 < trailing_zeros w8 n → in_byte n ≡ []
none_lowest n low past =
    lowest_first n low ∙ cond-true (nat_lt 7 (trailing_zeros w8 n)) _ _ (lt-ltb 7 (trailing_zeros w8 n) past)

pub some_lowest : (n u : ℕ) → n < 256 → u ≡ trailing_zeros w8 n → trailing_zeros w8 n ≤ 7 → in_byte n ≡ u ∷ in_byte (bit_and n ((n + 255) % 256))
some_lowest n u low is within =
    lowest_first n low
    ∙ cond-false (nat_lt 7 (trailing_zeros w8 n)) _ _ (le-ltb 7 (trailing_zeros w8 n) within)
    ∙ ap (λ x. x ∷ in_byte (bit_and n ((n + 255) % 256))) (sym is)

-- a bit of `a & !b`
pub minus_at : (a b u : ℕ) → b < 256 → u < 8 → one_at (bit_and a (255 - b)) u ≡ (one_at a u && not (one_at b u))
minus_at a b u low within =
    let e : bit_at (bit_and a (255 - b)) u ≡ min (bit_at a u) (1 - bit_at b u) =
    bit_at_and a (255 - b) u ∙ ap (min (bit_at a u)) (bit_at_not w8 b u low within) in
    ap (λ x. x == 1) e ∙ of_bits (bit_at a u) (bit_at b u) (bit_at-lt a u) (bit_at-lt b u)
  where
    of_bits : (x y : ℕ) → x < 2 → y < 2 → (min x (1 - y) == 1) ≡ ((x == 1) && not (y == 1))
    of_bits zero zero g h = refl
    of_bits zero (suc zero) g h = refl
    of_bits (suc zero) zero g h = refl
    of_bits (suc zero) (suc zero) g h = refl
    of_bits (suc (suc x)) y g h = absurd (omega arith)
    of_bits zero (suc (suc y)) g h = absurd (omega arith)
    of_bits (suc zero) (suc (suc y)) g h = absurd (omega arith)

-- the same at every slot
pub at_slots : {X : Type 0} (f g : ℕ → X) → ((u : ℕ) → u < 8 → f u ≡ g u) → map f slots ≡ map g slots
at_slots f g h =
    rw (h 0 (omega arith), h 1 (omega arith), h 2 (omega arith), h 3 (omega arith), h 4 (omega arith), h 5 (omega arith), h 6 (omega arith), h 7 (omega arith))
    refl

-- flags that say b at one slot, and what they said at each other
pub flags_with : (f : ℕ → Bool) (b : Bool) (u : ℕ) → u < 8 → map (λ v. cond (v == u) b (f v)) slots ≡ set (map f slots) u b
flags_with f b zero l = refl
flags_with f b (suc zero) l = refl
flags_with f b (suc (suc zero)) l = refl
flags_with f b (suc (suc (suc zero))) l = refl
flags_with f b (suc (suc (suc (suc zero)))) l = refl
flags_with f b (suc (suc (suc (suc (suc zero))))) l = refl
flags_with f b (suc (suc (suc (suc (suc (suc zero)))))) l = refl
flags_with f b (suc (suc (suc (suc (suc (suc (suc zero))))))) l = refl
flags_with f b (suc (suc (suc (suc (suc (suc (suc (suc u)))))))) l = absurd (omega arith)

pub flags_without : (f : ℕ → Bool) (u : ℕ) → u < 8 → set (map f slots) u false ≡ map (λ v. not (v == u) && f v) slots
flags_without f u low =
    sym (flags_with f false u low) ∙ at_slots (λ v. cond (v == u) false (f v)) (λ v. not (v == u) && f v) (λ v l. either (v == u) (f v))
  where
    either : (b c : Bool) → cond b false c ≡ (not b && c)
    either true c = refl
    either false c = refl

-- another byte, of which bit u says b, and each other bit what it said
pub flags_set : (m n u : ℕ) (b : Bool) → u < 8 → one_at m u ≡ b → ((v : ℕ) → v < 8 → v ≢ u → one_at m v ≡ one_at n v) → map (one_at m) slots ≡ set (map (one_at n) slots) u b
flags_set m n u b low same other =
    at_slots (one_at m) (λ v. cond (v == u) b (one_at n v)) at ∙ flags_with (one_at n) b u low
  where
    at : (v : ℕ) → v < 8 → one_at m v ≡ cond (v == u) b (one_at n v)
    at v l =
        ⊎_elim
        (λ (h : ((v == u) ≡ true) × (v ≡ u)). ap (one_at m) h.1 ∙ same ∙ sym (cond-true (v == u) b (one_at n v) h.0))
        (λ (h : ((v == u) ≡ false) × (v ≢ u)). other v l h.1 ∙ sym (cond-false (v == u) b (one_at n v) h.0))
        (eqb_tells v u)

pub flags_inserted : (n i u : ℕ) → i ≡ u → u < 8 → map (one_at (bit_or n (1 * 2 ^ i % 256))) slots ≡ set (map (one_at n) slots) u true
flags_inserted n i u is low =
    rw is
    (flags_set (bit_or n (1 * 2 ^ u % 256)) n u true low
    (ap (λ x. x == 1) (bit_at_set_same w8 n u low))
    (λ v l ne. ap (λ x. x == 1) (bit_at_set_other w8 n u low v ne)))

pub flags_removed : (n i u : ℕ) → i ≡ u → u < 8 → map (one_at (bit_and n (255 - 1 * 2 ^ i % 256))) slots ≡ set (map (one_at n) slots) u false
flags_removed n i u is low =
    rw is
    (flags_set (bit_and n (255 - 1 * 2 ^ u % 256)) n u false low
    (ap (λ x. x == 1) (bit_at_clear_same w8 n u low))
    (λ v l ne. ap (λ x. x == 1) (bit_at_clear_other w8 n u low v l ne)))

-- a slot's flag stands at its place
pub flag_of : (f : ℕ → Bool) (u : ℕ) → u < 8 → f u ≡ get_or (map f slots) u false
flag_of f zero l = refl
flag_of f (suc zero) l = refl
flag_of f (suc (suc zero)) l = refl
flag_of f (suc (suc (suc zero))) l = refl
flag_of f (suc (suc (suc (suc zero)))) l = refl
flag_of f (suc (suc (suc (suc (suc zero))))) l = refl
flag_of f (suc (suc (suc (suc (suc (suc zero)))))) l = refl
flag_of f (suc (suc (suc (suc (suc (suc (suc zero))))))) l = refl
flag_of f (suc (suc (suc (suc (suc (suc (suc (suc u)))))))) l = absurd (omega arith)

pub flags_eight : (s : SlotSet) → length (flags s) ≡ 8
unfolding flags
flags_eight s = refl

-- what the flags of a set say of a slot
pub member_from : (s : SlotSet) (p : ℕ → Bool) → flags s ≡ map p slots → (u : ℕ) → u < 8 → is_member s u ≡ p u
unfolding flags
member_from s p h u low =
    flag_of (is_member s) u low ∙ ap (λ bs. get_or bs u false) h ∙ sym (flag_of p u low)

pub minus_from : (s t : SlotSet) (p q : ℕ → Bool) → flags s ≡ map p slots → flags t ≡ map q slots → map (λ u. is_member s u && not (is_member t u)) slots ≡ map (λ u. p u && not (q u)) slots
minus_from s t p q g h =
    at_slots _ _
    (λ u low. ap (λ b. b && not (is_member t u)) (member_from s p g u low) ∙ ap (λ b. p u && not b) (member_from t q h u low))
