-- A page image: bytes that name some pages of N with their words; the others hold 0. Assumes nothing.
--
-- The bytes are: N, the number of pages; M, how many are named; M page numbers; M words. Each number has four bytes,
-- most significant first.
use Rattle.std.specs.Prelude.{◌≡◌, ℕ, zero, suc, ◌+◌, ◌-◌, ◌*◌, ◌≤◌, Bool, true, false, cond, ◌&&◌, ◌||◌, List, [], ◌∷◌, length, replicate, Some, None, Option, ◌==◌, nat_lt, refl}
use Rattle.std.proofs.Common.{◌∙◌, arith}
use Rattle.std.proofs.lemmas.List.{length-replicate}
use Rattle.std.proofs.lemmas.Bool.{ltb-false}
use Rattle.basics.specs.Bytes.{big_endian}
use Rattle.pages.specs.Entries.{carried, length-carried}
use Rattle.pages.specs.declared.fault.ImageFault.{ImageFault}
use Rattle.pages.specs.declared.fault.ImageFault.TheVariants.{Truncated, TooManyPages, TooManyNamed, WrongLength, BadNumber}

abbrev pub image_size : List ℕ → ℕ
image_size bs = big_endian bs 0

abbrev pub image_named : List ℕ → ℕ
image_named bs = big_endian bs 4

abbrev pub number_offset : ℕ → ℕ
number_offset i = 8 + 4 * i

abbrev pub named_page : List ℕ → ℕ → ℕ
named_page bs i = big_endian bs (number_offset i)

abbrev pub named_word : List ℕ → ℕ → ℕ
named_word bs i = big_endian bs (number_offset (image_named bs + i))

-- the page numbers rise strictly, below N
abbrev pub good_number : List ℕ → ℕ → Bool
good_number bs i = nat_lt (named_page bs i) (image_size bs) && (i == 0 || nat_lt (named_page bs (i - 1)) (named_page bs i))

-- what was found before, else i where it is not good
abbrev pub or_this : Bool → ℕ → Option ℕ → Option ℕ
or_this good i (Some k) = Some k
or_this good i None = cond good None (Some i)

-- the first of the first n page numbers that is not good
abbrev pub first_bad : List ℕ → ℕ → Option ℕ
first_bad bs zero = None
first_bad bs (suc i) = or_this (good_number bs i) i (first_bad bs i)

-- the offset of the first bad page number
abbrev pub bad_number : Option ℕ → Option ImageFault
bad_number None = None
bad_number (Some i) = Some (BadNumber (number_offset i))

-- what is wrong with an image, or none: fewer than 8 bytes; N above 4,096; M above N; a length that is not 8 + 8M;
-- the first bad page number. The first that fits is given
abbrev pub image_fault : List ℕ → Option ImageFault
image_fault bs =
    cond (nat_lt (length bs) 8) (Some (Truncated (length bs)))
    (cond (nat_lt 4096 (image_size bs)) (Some TooManyPages)
    (cond (nat_lt (image_size bs) (image_named bs)) (Some TooManyNamed)
    (cond (length bs == 8 + 8 * image_named bs) (bad_number (first_bad bs (image_named bs))) (Some (WrongLength (length bs))))))

-- every refused image has number 12; it returns the length, the offset of N, the offset of M, the length, or the offset
-- of the bad page number
abbrev pub image_cause : ImageFault → ℕ
image_cause f = 12

abbrev pub image_returned : ImageFault → List ℕ
image_returned (Truncated length) = length ∷ []
image_returned TooManyPages = 0 ∷ []
image_returned TooManyNamed = 4 ∷ []
image_returned (WrongLength length) = length ∷ []
image_returned (BadNumber offset) = offset ∷ []

-- the pages: named ones hold the word beside their number, and unnamed ones 0
abbrev pub image_pages : List ℕ → List ℕ
image_pages bs = carried (named_page bs) (named_word bs) 0 (replicate (image_size bs) 0) (image_named bs)

pub length-image_pages : (bs : List ℕ) → length (image_pages bs) ≡ image_size bs
length-image_pages bs =
    length-carried (named_page bs) (named_word bs) 0 (replicate (image_size bs) 0) (image_named bs) ∙ length-replicate (image_size bs) 0

-- a check that found nothing
pub passed : (bad : Bool) (fault : ImageFault) (others : Option ImageFault) → cond bad (Some fault) others ≡ None → (bad ≡ false) × (others ≡ None)
passed bad fault others h =
    elim bad as (λ b. cond b (Some fault) others ≡ None → (b ≡ false) × (others ≡ None)) [ true ↦ λ e. absurd (cc) | false ↦ λ e. (refl, e) ] h

-- N is at most 4,096 where nothing is wrong
pub sound_size : (bs : List ℕ) → image_fault bs ≡ None → image_size bs ≤ 4096
sound_size bs h =
    let long = passed (nat_lt (length bs) 8) _ _ h in
    let few = passed (nat_lt 4096 (image_size bs)) _ _ long.1 in
    ltb-false 4096 (image_size bs) few.0

pub image_few : (bs : List ℕ) → image_fault bs ≡ None → length (image_pages bs) ≤ 4096
image_few bs h = omega (arith, length-image_pages bs, sound_size bs h)
