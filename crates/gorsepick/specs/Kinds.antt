-- How the words of the memory are read. Assumes nothing.
use Rattle.std.specs.Prelude.{◌≡◌, ℕ, List, [], vec_items, Some, None, Option, slice_set}
use Rattle.pages.specs.Flat.{flat_pages}
use Rattle.pages.specs.Log.{log_pages, log_put}
use Rattle.gorsepick.specs.declared.memory.Kind.{Kind}
use Rattle.gorsepick.specs.declared.memory.Kind.TheVariants.{Flat, Log}
use Rattle.gorsepick.specs.declared.memory.Memory.{Memory}

-- the pages of a store of this kind over these words
abbrev pub kind_pages : Kind → List ℕ → List ℕ
kind_pages Flat = flat_pages
kind_pages Log = log_pages

-- the words after a put of w to page p of such a store
abbrev pub kind_put : Kind → List ℕ → ℕ → ℕ → List ℕ
kind_put Flat ws p w = slice_set ws p w
kind_put Log ws p w = log_put ws p w

abbrev pub kind_wrote : Kind → List ℕ → ℕ → ℕ → List ℕ → Type 0
kind_wrote kind ws p w vs = vs ≡ kind_put kind ws p w

-- the pages of a memory, which has both
abbrev pub memory_pages : Memory → List ℕ
memory_pages m = kind_pages m.kind (vec_items m.words)

-- what there is of the store: how the words are read, and the words; nothing before a store is given
abbrev pub held : Option Memory → Option (Kind × List ℕ)
held None = None
held (Some m) = Some (m.kind, vec_items m.words)

-- the pages of the store; before one is given there are none
abbrev pub held_pages : Option (Kind × List ℕ) → List ℕ
held_pages None = []
held_pages (Some m) = kind_pages m.0 m.1

abbrev pub store_pages : Option Memory → List ℕ
store_pages m = held_pages (held m)
