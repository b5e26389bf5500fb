-- Entries that name pages: two parallel arrays, here as functions from an index to a page number and to a word.
-- Assumes nothing.
use Rattle.std.specs.Prelude.{◌≡◌, ℕ, zero, suc, ◌+◌, Bool, true, cond, ◌&&◌, List, length, ◌==◌, nat_lt, slice_set, refl}
use Rattle.std.proofs.Common.{◌∙◌, length-set}

module _ (page word : ℕ → ℕ) where
  -- the first n entries, carried in order into words whose page 0 stands at `at`
  abbrev pub carried : ℕ → List ℕ → ℕ → List ℕ
  carried at into zero = into
  carried at into (suc i) = slice_set (carried at into i) (at + page i) (word i)

  -- carrying changes no length
  pub length-carried : (at : ℕ) (into : List ℕ) (n : ℕ) → length (carried at into n) ≡ length into
  length-carried at into zero = refl
  length-carried at into (suc n) = length-set (carried at into n) (at + page n) (word n) ∙ length-carried at into n

  -- the word of the last of the first n entries that names page p, else w
  abbrev pub latest : ℕ → ℕ → ℕ → ℕ
  latest p w zero = w
  latest p w (suc i) = cond (page i == p) (word i) (latest p w i)

-- the first n numbers are all below the limit
abbrev pub all_below : (ℕ → ℕ) → ℕ → ℕ → Bool
all_below page limit zero = true
all_below page limit (suc i) = nat_lt (page i) limit && all_below page limit i
