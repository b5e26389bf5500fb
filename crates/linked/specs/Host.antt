-- Stores in a host's words, and the arithmetic that a host names. Assumes nothing.
use Rattle.std.specs.Prelude.{◌≡◌, ℕ, zero, suc, Bool, true, false, cond, List, [], ◌∷◌, length, nat_lt, slice_index, slice_set}
use Rattle.arithmetic.specs.Words.{counters, flags}
use Rattle.pages.specs.Flat.{flat_pages}
use Rattle.pages.specs.Log.{log_pages, log_put}
use Rattle.pages.specs.declared.WriteEntry.{WriteEntry}
use Rattle.serial.specs.Machine.{Meaning}

-- how much memory a host makes room for an engine in
abbrev pub engine_bytes : ℕ
engine_bytes = 20112

-- the pages of a host's words, taken as a log or as a flat store
abbrev pub pages_in : Bool → List ℕ → List ℕ
pages_in true words = log_pages words
pages_in false words = flat_pages words

-- the words after an accepted put
abbrev pub word_put : Bool → List ℕ → ℕ → ℕ → List ℕ
word_put true words page word = log_put words page word
word_put false words page word = slice_set words page word

-- the words after the puts of a list, in its order
abbrev pub words_put : Bool → List WriteEntry → List ℕ → List ℕ
words_put log [] words = words
words_put log (e ∷ es) words = words_put log es (word_put log words e.page e.word)

-- the list that a commit puts: all of it where the refusal number is 0, else nothing
abbrev pub list_unless_refused : List WriteEntry → ℕ → List WriteEntry
list_unless_refused list zero = list
list_unless_refused list (suc refusal) = []

-- flags or counters
abbrev pub arithmetic_named : Bool → Meaning
arithmetic_named true = flags
arithmetic_named false = counters

-- a read of a page below the size gives its word and says true; any other leaves what was there and says false
abbrev pub PageRead : List ℕ → ℕ → ℕ → Bool → ℕ → Type 0
PageRead pages page before said after =
    (said ≡ nat_lt page (length pages)) × (after ≡ cond (nat_lt page (length pages)) (slice_index pages page) before)

-- a put to a page below the size writes the words and says true; any other leaves them and says false
abbrev pub PagePut : Bool → ℕ → ℕ → List ℕ → Bool → List ℕ → Type 0
PagePut log page word before said after =
    (said ≡ nat_lt page (length (pages_in log before)))
    × (after ≡ cond (nat_lt page (length (pages_in log before))) (word_put log before page word) before)

-- where a host is told the page of a fault: a page that is not below the size; else what was there stays
abbrev pub page_missed : List ℕ → ℕ → ℕ → ℕ
page_missed pages page before = cond (nat_lt page (length pages)) before page
