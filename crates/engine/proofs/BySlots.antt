-- Things and their flags. Assumes nothing.
use Rattle.std.proofs.Common.{◌≡◌, ℕ, zero, suc, Bool, true, false, cond, List, [], ◌∷◌, map, length, get_or, set, is_some, Some, None, refl, sym, ap, ◌∙◌, arith}
use Rattle.std.specs.List.{filter}
use Rattle.std.proofs.lemmas.List.{set-get_or}
use Rattle.engine.specs.BySlot.{flagged}

module _ {T : Type 0} where
  pub flagged-at : (bs : List Bool) (xs : List T) (i : ℕ) (d : T) → length bs ≡ length xs → get_or (flagged bs xs) i None ≡ cond (get_or bs i false) (Some (get_or xs i d)) None
  flagged-at [] [] i d h = refl
  flagged-at [] (x ∷ xs) i d h = absurd (omega arith)
  flagged-at (b ∷ bs) [] i d h = absurd (omega arith)
  flagged-at (b ∷ bs) (x ∷ xs) zero d h = refl
  flagged-at (b ∷ bs) (x ∷ xs) (suc i) d h = flagged-at bs xs i d (omega arith)

  pub flag-at : (bs : List Bool) (xs : List T) (i : ℕ) → length bs ≡ length xs → get_or bs i false ≡ is_some (get_or (flagged bs xs) i None)
  flag-at [] xs i h = refl
  flag-at (b ∷ bs) [] i h = absurd (omega arith)
  flag-at (true ∷ bs) (x ∷ xs) zero h = refl
  flag-at (false ∷ bs) (x ∷ xs) zero h = refl
  flag-at (b ∷ bs) (x ∷ xs) (suc i) h = flag-at bs xs i (omega arith)

  pub flagged-set : (bs : List Bool) (xs : List T) (i : ℕ) (b : Bool) (x : T) → flagged (set bs i b) (set xs i x) ≡ set (flagged bs xs) i (cond b (Some x) None)
  flagged-set [] xs i b x = refl
  flagged-set (c ∷ bs) [] zero b x = refl
  flagged-set (c ∷ bs) [] (suc i) b x = refl
  flagged-set (c ∷ bs) (y ∷ xs) zero b x = refl
  flagged-set (c ∷ bs) (y ∷ xs) (suc i) b x = ap (λ q. cond c (Some y) None ∷ q) (flagged-set bs xs i b x)

  -- another thing where a flag stands
  pub flag_stands : (bs : List Bool) (xs : List T) (i : ℕ) (x : T) → get_or bs i false ≡ true → flagged bs (set xs i x) ≡ set (flagged bs xs) i (Some x)
  flag_stands bs xs i x h =
      ap (λ q. flagged q (set xs i x)) (sym (set-get_or bs i false) ∙ ap (set bs i) h) ∙ flagged-set bs xs i true x

  pub flagged-length : (bs : List Bool) (xs : List T) → length bs ≡ length xs → length (flagged bs xs) ≡ length bs
  flagged-length [] xs h = refl
  flagged-length (b ∷ bs) [] h = absurd (omega arith)
  flagged-length (b ∷ bs) (x ∷ xs) h = ap suc (flagged-length bs xs (omega arith))

  -- a flag that falls takes its thing away
  pub flag-falls : (bs : List Bool) (xs : List T) (i : ℕ) → flagged (set bs i false) xs ≡ set (flagged bs xs) i None
  flag-falls [] xs i = refl
  flag-falls (c ∷ bs) [] zero = refl
  flag-falls (c ∷ bs) [] (suc i) = refl
  flag-falls (c ∷ bs) (y ∷ xs) zero = refl
  flag-falls (c ∷ bs) (y ∷ xs) (suc i) = ap (λ q. cond c (Some y) None ∷ q) (flag-falls bs xs i)

  pub flags_counted : (bs : List Bool) (xs : List T) → length bs ≡ length xs → length (filter (λ b. b) bs) ≡ length (filter (λ x. is_some x) (flagged bs xs))
  flags_counted [] xs h = refl
  flags_counted (b ∷ bs) [] h = absurd (omega arith)
  flags_counted (true ∷ bs) (x ∷ xs) h = ap suc (flags_counted bs xs (omega arith))
  flags_counted (false ∷ bs) (x ∷ xs) h = flags_counted bs xs (omega arith)

  -- the flags themselves
  pub flags_seen : (bs : List Bool) (xs : List T) → length bs ≡ length xs → bs ≡ map (λ x. is_some x) (flagged bs xs)
  flags_seen [] xs h = refl
  flags_seen (b ∷ bs) [] h = absurd (omega arith)
  flags_seen (true ∷ bs) (x ∷ xs) h = ap (λ q. true ∷ q) (flags_seen bs xs (omega arith))
  flags_seen (false ∷ bs) (x ∷ xs) h = ap (λ q. false ∷ q) (flags_seen bs xs (omega arith))
