-- Logs, puts to a log and images told by index, and not by carrying entries in one after another; and that a load leaves
-- one outcome. Assumes nothing.
use Rattle.std.specs.Prelude.{Result, ◌≡◌, ℕ, ◌+◌, ◌-◌, ◌*◌, ◌<◌, ◌≤◌, true, ◌≢◌, ◌⊎◌, ◌↔◌, List, [], length, Some, None, slice_index}
use Rattle.pages.specs.Log.{size_word, capacity, used, entry_page, entry_word, sound, log_pages, log_put}
use Rattle.pages.specs.Image.{image_size, image_named, number_offset, named_page, named_word, first_bad, image_fault, image_pages}
use Rattle.pages.specs.Load.{Loaded, ImageLoaded}
use Rattle.pages.specs.Flat.{flat_pages, flat_wrote}
use Rattle.pages.specs.LogStore.{log_wrote}
use Rattle.pages.specs.declared.flat.Flat.{Flat}
use Rattle.pages.specs.declared.log.Log.{Log}
use Rattle.pages.specs.declared.fault.LoadFault.{LoadFault}
use Rattle.pages.specs.declared.fault.ImageLoadFault.{ImageLoadFault}
use Rattle.pages.specs.declared.fault.ImageFault.{ImageFault}
use Rattle.pages.specs.declared.fault.ImageFault.TheVariants.{Truncated, TooManyPages, TooManyNamed, WrongLength, BadNumber}

-- of the first n entries, i is the last that names page p
pub record LastNaming (page : ℕ → ℕ) (n p i : ℕ) : Type 0 where
  pub within : i < n
  pub named : page i ≡ p
  pub later : (j : ℕ) → i < j → j < n → page j ≢ p

-- w is the word of page p: that of the last of the first n entries naming it, or the old one where none of them does
abbrev pub LastWord : (ℕ → ℕ) → (ℕ → ℕ) → ℕ → ℕ → ℕ → ℕ → Type 0
LastWord page word n p old w =
    ((i : ℕ) × LastNaming page n p i × (w ≡ word i)) ⊎ (((i : ℕ) → i < n → page i ≢ p) × (w ≡ old))

-- a sound layout: up to 4,096 pages, room for 1 to 4,096 entries, no more entries used than there is room for, no words but
-- the sizes, the base words and the entries, and each used entry names a page that there is
pub record IsSound (ws : List ℕ) : Type 0 where
  pub few : size_word ws ≤ 4096
  pub some : 1 ≤ capacity ws
  pub room : capacity ws ≤ 4096
  pub within : used ws ≤ capacity ws
  pub long : length ws ≡ 3 + size_word ws + 2 * capacity ws
  pub named : (i : ℕ) → i < used ws → entry_page ws i < size_word ws

abbrev pub SoundByIndex : Type 0
SoundByIndex = (ws : List ℕ) → (sound ws ≡ true) ↔ IsSound ws

-- the pages of a log: over sound words there are N, and each has the word of the last used entry naming it, or its base
-- word where none does; over other words there are none
pub record LogPages (ws pages : List ℕ) : Type 0 where
  pub count : IsSound ws → length pages ≡ size_word ws
  pub each : IsSound ws → (p : ℕ) → p < size_word ws
      → LastWord (entry_page ws) (entry_word ws) (used ws) p (slice_index ws (3 + p)) (slice_index pages p)
  pub unsound : (IsSound ws → ⊥) → pages ≡ []

abbrev pub LogPagesByIndex : Type 0
LogPagesByIndex = (ws pages : List ℕ) → (log_pages ws ≡ pages) ↔ LogPages ws pages

-- where the page number and the word of entry i stand
abbrev pub page_place : List ℕ → ℕ → ℕ
page_place ws i = 3 + size_word ws + i

abbrev pub word_place : List ℕ → ℕ → ℕ
word_place ws i = 3 + size_word ws + capacity ws + i

-- entry i holds page p and word w, it is the last used one, and there are as many words as before
pub record EntryPut (ws : List ℕ) (i p w : ℕ) (after : List ℕ) : Type 0 where
  pub long : length after ≡ length ws
  pub count : slice_index after 2 ≡ i + 1
  pub page : slice_index after (page_place ws i) ≡ p
  pub word : slice_index after (word_place ws i) ≡ w

-- word k is none of the three that entry i is put into
abbrev pub Besides : List ℕ → ℕ → ℕ → Type 0
Besides ws i k = (k ≢ 2) × (k ≢ page_place ws i) × (k ≢ word_place ws i)

-- the words after a put of w to page p. With room, the next entry is put, and every other word is as it was. Where all
-- entries are used, each base word becomes that of the last entry naming its page, entry 0 is put, and every other word is
-- as it was
pub record LogPut (ws : List ℕ) (p w : ℕ) (after : List ℕ) : Type 0 where
  pub next : used ws < capacity ws → EntryPut ws (used ws) p w after
  pub kept : used ws < capacity ws → (k : ℕ) → k < length ws → Besides ws (used ws) k → slice_index after k ≡ slice_index ws k
  pub first : used ws ≡ capacity ws → EntryPut ws 0 p w after
  pub base : used ws ≡ capacity ws → (q : ℕ) → q < size_word ws
      → LastWord (entry_page ws) (entry_word ws) (capacity ws) q (slice_index ws (3 + q)) (slice_index after (3 + q))
  pub rest : used ws ≡ capacity ws → (k : ℕ) → k < length ws → (k < 3) ⊎ (3 + size_word ws ≤ k) → Besides ws 0 k
      → slice_index after k ≡ slice_index ws k

abbrev pub LogPutByIndex : Type 0
LogPutByIndex =
    (ws : List ℕ) (p w : ℕ) (after : List ℕ) → IsSound ws → p < size_word ws → (log_put ws p w ≡ after) ↔ LogPut ws p w after

-- so the words before, the page and the word leave one outcome
abbrev pub OneLogPut : Type 0
OneLogPut =
    (ws : List ℕ) (p w : ℕ) (after other : List ℕ) → IsSound ws → p < size_word ws
    → LogPut ws p w after → LogPut ws p w other → after ≡ other

-- number i of an image is bad: it is not below N, or not above the number before it
abbrev pub IsBad : List ℕ → ℕ → Type 0
IsBad bs i = (image_size bs ≤ named_page bs i) ⊎ ((0 < i) × (named_page bs i ≤ named_page bs (i - 1)))

-- i is the first bad one of the first n numbers
pub record FirstBad (bs : List ℕ) (n i : ℕ) : Type 0 where
  pub within : i < n
  pub bad : IsBad bs i
  pub before : (j : ℕ) → j < i → IsBad bs j → ⊥

abbrev pub NoneBad : List ℕ → ℕ → Type 0
NoneBad bs n = (i : ℕ) → i < n → IsBad bs i → ⊥

abbrev pub FirstBadByIndex : Type 0
FirstBadByIndex =
    (bs : List ℕ) (n : ℕ) → ((i : ℕ) → (first_bad bs n ≡ Some i) ↔ FirstBad bs n i) × ((first_bad bs n ≡ None) ↔ NoneBad bs n)

-- what is wrong with an image, each fault by a fact of its own: fewer than 8 bytes; N above 4,096; M above N; a length that
-- is not 8 + 8M; a bad number, told by the offset of the first. A byte that is not there counts as 0
abbrev pub Fits : List ℕ → ImageFault → Type 0
Fits bs (Truncated long) = (length bs < 8) × (long ≡ length bs)
Fits bs TooManyPages = 4096 < image_size bs
Fits bs TooManyNamed = image_size bs < image_named bs
Fits bs (WrongLength long) = (length bs ≢ 8 + 8 * image_named bs) × (long ≡ length bs)
Fits bs (BadNumber offset) = (i : ℕ) × FirstBad bs (image_named bs) i × (offset ≡ number_offset i)

-- the order in which the faults are looked for
abbrev pub place : ImageFault → ℕ
place (Truncated long) = 1
place TooManyPages = 2
place TooManyNamed = 3
place (WrongLength long) = 4
place (BadNumber offset) = 5

-- f fits, and none that is looked for before it does
pub record FirstFits (bs : List ℕ) (f : ImageFault) : Type 0 where
  pub fits : Fits bs f
  pub before : (g : ImageFault) → place g < place f → Fits bs g → ⊥

abbrev pub NoneFits : List ℕ → Type 0
NoneFits bs = (f : ImageFault) → Fits bs f → ⊥

abbrev pub ImageFaultsInOrder : Type 0
ImageFaultsInOrder =
    (bs : List ℕ) → ((f : ImageFault) → (image_fault bs ≡ Some f) ↔ FirstFits bs f) × ((image_fault bs ≡ None) ↔ NoneFits bs)

-- w is the word of page p of an image: that beside the number naming it, or 0 where no number does
abbrev pub NamedWord : List ℕ → ℕ → ℕ → Type 0
NamedWord bs p w =
    ((i : ℕ) × (i < image_named bs) × (named_page bs i ≡ p) × (w ≡ named_word bs i))
    ⊎ (((i : ℕ) → i < image_named bs → named_page bs i ≢ p) × (w ≡ 0))

-- the pages of an image: there are N, and each has its word
pub record ImagePages (bs pages : List ℕ) : Type 0 where
  pub count : length pages ≡ image_size bs
  pub each : (p : ℕ) → p < image_size bs → NamedWord bs p (slice_index pages p)

abbrev pub ImagePagesByIndex : Type 0
ImagePagesByIndex = (bs pages : List ℕ) → NoneFits bs → (image_pages bs ≡ pages) ↔ ImagePages bs pages

-- two loads of the same words, or of the same bytes, into the same store end alike, in what is seen of it: they give the same
-- answer and leave the same words
module _ {S : Type 0} (pages : S → List ℕ) (wrote : S → ℕ → ℕ → S → Type 0) (seen : S → List ℕ) where
  abbrev pub OneLoad : Type 0
  OneLoad =
      (words : List ℕ) (s t u : S) (r q : Result (Unit {0}) LoadFault)
      → Loaded pages wrote words s r t → Loaded pages wrote words s q u → (r ≡ q) × (seen t ≡ seen u)

  abbrev pub OneImageLoad : Type 0
  OneImageLoad =
      (bs : List ℕ) (s t u : S) (r q : Result (Unit {0}) ImageLoadFault)
      → ImageLoaded pages wrote bs s r t → ImageLoaded pages wrote bs s q u → (r ≡ q) × (seen t ≡ seen u)

-- so it is with every word behind a flat store, and behind a log
abbrev pub LoadsEndAlike : Type 0
LoadsEndAlike =
    OneLoad (λ (s : Flat). flat_pages s.words.now) flat_wrote (λ s. s.words.now)
    × OneImageLoad (λ (s : Flat). flat_pages s.words.now) flat_wrote (λ s. s.words.now)
    × OneLoad (λ (s : Log). log_pages s.words.now) log_wrote (λ s. s.words.now)
    × OneImageLoad (λ (s : Log). log_pages s.words.now) log_wrote (λ s. s.words.now)
