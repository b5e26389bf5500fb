-- What a page reader and a page store mean: a list of words, one a page. Assumes nothing.
use Rattle.std.specs.Prelude.{◌≡◌, ℕ, suc, ◌<◌, ◌≤◌, cond, List, [], ◌∷◌, length, Ok, Err, Result, nat_lt, slice_index, slice_set}
use Rattle.pages.specs.declared.StoreFault.{StoreFault}
use Rattle.pages.specs.declared.WriteEntry.{WriteEntry}

-- a store fault holds the page number that was asked for
abbrev pub fault_at : ℕ → StoreFault
fault_at p = record { page = p }

-- a reader answers the word of a page below its size, and a store fault for any other page
abbrev pub word_at : List ℕ → ℕ → Result ℕ StoreFault
word_at pages p = cond (nat_lt p (length pages)) (Ok (slice_index pages p)) (Err (fault_at p))

-- a put of w to page p took the store s to t and answered r: below the size that word is replaced and no other, and
-- the memory behind the store goes as `wrote` says; any other put answers the fault, and the store is as it was
pub record Put {S : Type 0} (pages : S → List ℕ) (wrote : S → ℕ → ℕ → S → Type 0) (s : S) (p w : ℕ) (r : Result (Unit {0}) StoreFault) (t : S) : Type 0 where
  pub accepted : p < length (pages s) → (r ≡ Ok tt) × (pages t ≡ slice_set (pages s) p w) × wrote s p w t
  pub refused : length (pages s) ≤ p → (r ≡ Err (fault_at p)) × (t ≡ s)

-- the memory behind a store went from s to t by accepted puts of these pages and words, in this order
abbrev pub Chain : {S : Type 0} → (S → ℕ → ℕ → S → Type 0) → S → List WriteEntry → S → Type 0
Chain wrote s [] t = t ≡ s
Chain {S} wrote s (e ∷ es) t = (m : S) × wrote s e.page e.word m × Chain wrote m es t

abbrev pub entry : ℕ → ℕ → WriteEntry
entry p w = record { page = p; word = w }

-- words beside their page numbers, counted from p
abbrev pub numbered : ℕ → List ℕ → List WriteEntry
numbered p [] = []
numbered p (w ∷ ws) = entry p w ∷ numbered (suc p) ws
