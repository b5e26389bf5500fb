-- What a put does to the memory behind a log store. Assumes nothing.
use Rattle.std.specs.Prelude.{◌≡◌, ℕ}
use Rattle.pages.specs.Log.{log_put}
use Rattle.pages.specs.declared.log.Log.{Log}

-- a put appends to the same lent memory
abbrev pub log_wrote : Log → ℕ → ℕ → Log → Type 0
log_wrote s p w t = (t.words.now ≡ log_put s.words.now p w) × (t.words.ghost_name ≡ s.words.ghost_name)
