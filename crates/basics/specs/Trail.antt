-- A bounded list: what it holds. What lies past its end is never spoken of. Assumes nothing.
use Rattle.std.specs.Prelude.{ℕ, cond, List, [], ◌∷◌, ◌++◌, length, take, Ok, Err, Result, nat_lt}
use Rattle.basics.specs.declared.trail.Full.{Full}
use Rattle.basics.specs.declared.trail.Trail.{Trail}

module _ {T : Type 0} where
  abbrev pub items_of : {n : ℕ} → Trail T n → List T
  items_of t = take t.len t.items

  -- one more at the end, where fewer than n count
  abbrev pub pushed : ℕ → List T → T → List T
  pushed n xs x = cond (nat_lt (length xs) n) (xs ++ x ∷ []) xs

  -- and refused where there is no room
  abbrev pub push_told : ℕ → List T → Result (Unit {0}) Full
  push_told n xs = cond (nat_lt (length xs) n) (Ok tt) (Err (record {}))
