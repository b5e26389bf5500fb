-- The flat store: the host's words are its pages. Assumes nothing.
use Rattle.std.specs.Prelude.{◌≡◌, ℕ, ◌≤◌, cond, List, [], length, nat_lt, slice_set}
use Rattle.std.proofs.Common.{arith}
use Rattle.std.proofs.lemmas.Bool.{cond_both, ltb-false}
use Rattle.pages.specs.declared.flat.Flat.{Flat}

-- over more than 4,096 words the size is 0
abbrev pub flat_pages : List ℕ → List ℕ
flat_pages ws = cond (nat_lt 4096 (length ws)) [] ws

pub flat_few : (ws : List ℕ) → length (flat_pages ws) ≤ 4096
flat_few ws = cond_both (nat_lt 4096 (length ws)) [] ws (λ x. length x ≤ 4096) (λ e. omega arith) (λ e. omega (arith, ltb-false 4096 (length ws) e))

-- a put replaces that word of the same lent memory, and no other
abbrev pub flat_wrote : Flat → ℕ → ℕ → Flat → Type 0
flat_wrote s p w t = (t.words.now ≡ slice_set s.words.now p w) × (t.words.ghost_name ≡ s.words.ghost_name)
