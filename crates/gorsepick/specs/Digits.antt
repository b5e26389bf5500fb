-- Bytes as hexadecimal digits. Assumes nothing.
use Rattle.std.specs.Prelude.{◌≡◌, ℕ, ◌-◌, ◌/◌, ◌%◌, ◌<◌, cond, ◌&&◌, List, [], ◌∷◌, ◌++◌, map, Some, None, Option, nat_le}
use Rattle.std.specs.Borrow.{Bor}

-- what a digit is worth, where it is one: 0 to 9, a to f, A to F
abbrev pub digit_value : ℕ → Option ℕ
digit_value d =
    cond (nat_le 48 d && nat_le d 57) (Some (d - 48))
    (cond (nat_le 97 d && nat_le d 102) (Some (d - 87))
    (cond (nat_le 65 d && nat_le d 70) (Some (d - 55)) None))

-- the half bytes of bytes, the high one first
abbrev pub halves : List ℕ → List ℕ
halves [] = []
halves (b ∷ bs) = (b / 16) ∷ (b % 16) ∷ halves bs

-- a half byte, or none
abbrev pub Half : Option ℕ → Type 0
Half None = Unit {0}
Half (Some h) = h < 16

-- each of these digits is worth the value in its place
abbrev pub Worth : List ℕ → List ℕ → Type 0
Worth digits values = map digit_value digits ≡ map Some values

-- texts one after the other
abbrev pub joined : List (Bor (List ℕ)) → List ℕ
joined [] = []
joined (w ∷ ws) = w.now ++ joined ws
