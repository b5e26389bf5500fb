-- The log store: base words and a log of entries over them. Assumes nothing.
--
-- The words are: N, the number of pages; C, how many entries there is room for; U, how many are used; N base words;
-- C page numbers; C words. A word that is not there counts as 0 here, and such a layout is not sound.
use Rattle.std.specs.Prelude.{◌≡◌, ℕ, ◌+◌, ◌*◌, ◌<◌, ◌≤◌, Bool, true, cond, ◌&&◌, List, [], length, take, drop, Some, None, Option, Ok, Result, ◌==◌, nat_le, nat_lt, slice_index, slice_set}
use Rattle.std.proofs.Common.{arith, length-take}
use Rattle.std.proofs.lemmas.Bool.{cond_both, and_parts, leb-true}
use Rattle.pages.specs.declared.StoreFault.{StoreFault}
use Rattle.pages.specs.declared.log.Layout.{Layout}
use Rattle.pages.specs.Entries.{carried, latest, all_below, length-carried}

abbrev pub size_word : List ℕ → ℕ
size_word ws = slice_index ws 0

abbrev pub capacity : List ℕ → ℕ
capacity ws = slice_index ws 1

abbrev pub used : List ℕ → ℕ
used ws = slice_index ws 2

-- the base words begin after the three sizes, and the two arrays of entries after the base words
abbrev pub entry_page : List ℕ → ℕ → ℕ
entry_page ws i = slice_index ws (3 + size_word ws + i)

abbrev pub entry_word : List ℕ → ℕ → ℕ
entry_word ws i = slice_index ws (3 + size_word ws + capacity ws + i)

-- N is at most 4,096, C is 1 to 4,096, U is at most C, there are exactly 3 + N + 2C words, and used entries name pages
-- below N
abbrev pub sound : List ℕ → Bool
sound ws =
    nat_le (size_word ws) 4096 && (nat_le 1 (capacity ws) && (nat_le (capacity ws) 4096 && (nat_le (used ws) (capacity ws)
    && (length ws == 3 + size_word ws + 2 * capacity ws && all_below (entry_page ws) (size_word ws) (used ws)))))

-- what the first two words of a sound layout say; none over other words
abbrev pub layout_of : List ℕ → Option Layout
layout_of ws = cond (sound ws) (Some (record { size = size_word ws; room = capacity ws })) None

abbrev pub base : List ℕ → List ℕ
base ws = take (size_word ws) (drop 3 ws)

-- a page's word is that of the last used entry naming it, else its base word: the base words with the used entries
-- carried in, in order. Over unsound words the size is 0
abbrev pub log_pages : List ℕ → List ℕ
log_pages ws = cond (sound ws) (carried (entry_page ws) (entry_word ws) 0 (base ws) (used ws)) []

pub log_few : (ws : List ℕ) → length (log_pages ws) ≤ 4096
log_few ws =
    cond_both (sound ws) (carried (entry_page ws) (entry_word ws) 0 (base ws) (used ws)) [] (λ pages. length pages ≤ 4096)
    (λ e.
    let few = leb-true (size_word ws) 4096 (and_parts _ _ e).0 in
    omega (arith, length-carried (entry_page ws) (entry_word ws) 0 (base ws) (used ws), length-take (size_word ws) (drop 3 ws)))
    (λ e. omega arith)

-- what a read answers, told entry by entry: over sound words the word of a page below N is that of the last used entry
-- naming it, else its base word
abbrev pub Latest : List ℕ → ℕ → Result ℕ StoreFault → Type 0
Latest ws p r =
    sound ws ≡ true → p < size_word ws
    → r ≡ Ok (latest (entry_page ws) (entry_word ws) p (slice_index ws (3 + p)) (used ws))

-- all entries carried into the base words, in order, and none used
abbrev pub emptied : List ℕ → List ℕ
emptied ws = slice_set (carried (entry_page ws) (entry_word ws) 3 ws (capacity ws)) 2 0

-- one more used entry; entries past it keep what they hold
abbrev pub appended : List ℕ → ℕ → ℕ → List ℕ
appended ws p w =
    slice_set (slice_set (slice_set ws (3 + size_word ws + used ws) p) (3 + size_word ws + capacity ws + used ws) w) 2 (used ws + 1)

-- where all entries are used, the log is emptied first
abbrev pub with_room : List ℕ → List ℕ
with_room ws = cond (nat_lt (used ws) (capacity ws)) ws (emptied ws)

-- a put appends an entry
abbrev pub log_put : List ℕ → ℕ → ℕ → List ℕ
log_put ws p w = appended (with_room ws) p w
