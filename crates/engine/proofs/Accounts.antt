-- What accounting leaves, and loops that account at some of the slots. Assumes nothing.
use Rattle.std.proofs.Common.{◌≡◌, ℕ, ◌<◌, ◌≤◌, Bool, true, false, not, ◌&&◌, ◌==◌, eqb, ◌≢◌, List, [], ◌∷◌, length, get_or, set, is_some, Some, None, Option, unwrap_or, sym, refl, ap, ◌∙◌, ⊎_elim}
use Rattle.std.proofs.lemmas.List.{get_or-set_same, get_or-set_other, get_or_past, length-set}
use Rattle.std.proofs.lemmas.Bool.{cases_lt, cond_both, and_parts, not-true, eqb-false, cond-false, true≢false}
use Rattle.serial.specs.Machine.{Stand, start, has_written}
use Rattle.serial.specs.Rules.{Engine, slots, row, shadow, is_open, lead_writes, with_shadow, clean, furthest_of, has_room, account, read_conflict, account_read, account_reads, write_conflict, account_write, account_writes, before_step}
use Rattle.std.specs.List.{filter}
use Rattle.engine.specs.Table.{unguessed, other_open}
use Rattle.engine.proofs.Members.{skips}

-- what accounting in row t leaves of t's leading shadow: all
module _ (t : ℕ) where
  put_row : (e : Engine) (u : ℕ) (x : Option Stand) → row (with_shadow e t u x) t ≡ set (row e t) u x
  put_row e u x =
      ⊎_elim
      (λ (l : t < length e.shadows). get_or-set_same e.shadows t (set (row e t) u x) [] l)
      (λ (l : length e.shadows ≤ t).
      let none = get_or_past e.shadows t [] l in
      ap (λ r. get_or (set e.shadows t (set r u x)) t []) none
      ∙ past_set e.shadows l
      ∙ sym (ap (λ r. set r u x) none))
      (cases_lt t (length e.shadows))
    where
      past_set : (rows : List (List (Option Stand))) → length rows ≤ t → get_or (set rows t []) t [] ≡ []
      past_set rows l = get_or_past (set rows t []) t [] (simp length-set l)

  put_other : (e : Engine) (u : ℕ) (x : Option Stand) → u ≢ t → shadow (with_shadow e t u x) t t ≡ shadow e t t
  put_other e u x ne = ap (λ r. get_or r t None) (put_row e u x) ∙ get_or-set_other (row e t) u t x None (λ h. ne (sym h))

  account-keeps : (e : Engine) (u : ℕ) → u ≢ t → shadow (account e t u) t t ≡ shadow e t t
  account-keeps e u ne =
      let x : Option Stand = Some (unwrap_or (furthest_of (clean e u) t (row e t)) start) in
      cond_both (has_room e t u) (with_shadow e t u x) e (λ q. shadow q t t ≡ shadow e t t) (λ _. put_other e u x ne) (λ _. refl)

  read_keeps : (p : ℕ) (e : Engine) (u : ℕ) → shadow (account_read e t p u) t t ≡ shadow e t t
  read_keeps p e u =
      cond_both (read_conflict e t p u) (account e t u) e (λ q. shadow q t t ≡ shadow e t t)
      (λ h. account-keeps e u (eqb-false u t (not-true (eqb u t) (and_parts (not (eqb u t)) (is_open e u && (not (is_some (shadow e t u)) && has_written (lead_writes e u) p)) h).0)))
      (λ _. refl)

  reads_keep : (p : ℕ) (e : Engine) (us : List ℕ) → shadow (account_reads e t p us) t t ≡ shadow e t t
  reads_keep p e [] = refl
  reads_keep p e (u ∷ us) = reads_keep p (account_read e t p u) us ∙ read_keeps p e u

  pub before_keeps : (e : Engine) (o : Option ℕ) → shadow (before_step e t o) t t ≡ shadow e t t
  before_keeps e None = refl
  before_keeps e (Some p) = reads_keep p e slots

-- reads are accounted for at the other open slots that t has no shadow for, and at no other
module _ (t p : ℕ) where
  no_conflict : (a b c d : Bool) → ((a && b) && c) ≡ false → (a && (b && (c && d))) ≡ false
  no_conflict false b c d h = refl
  no_conflict true false c d h = refl
  no_conflict true true false d h = refl
  no_conflict true true true d h = absurd (true≢false h)

  pub none_to_read : (e : Engine) (u : ℕ) → unguessed e t u ≡ false → account_read e t p u ≡ e
  none_to_read e u h =
      cond-false (read_conflict e t p u) (account e t u) e (no_conflict (not (u == t)) (is_open e u) (not (is_some (shadow e t u))) (has_written (lead_writes e u) p) h)

  -- to account for a slot leaves t's shadows for others
  abbrev SameGuess : ℕ → Engine → Engine → Type 0
  SameGuess v e m = unguessed m t v ≡ unguessed e t v

  pub guess_stays : (e : Engine) (u v : ℕ) → v ≢ u → unguessed (account_read e t p u) t v ≡ unguessed e t v
  guess_stays e u v ne =
      let x : Option Stand = Some (unwrap_or (furthest_of (clean e u) t (row e t)) start) in
      cond_both (read_conflict e t p u) (account e t u) e (SameGuess v e)
      (λ _. cond_both (has_room e t u) (with_shadow e t u x) e (SameGuess v e)
      (λ _. ap (λ o. other_open e t v && not (is_some o)) (ap (λ r. get_or r v None) (put_row t e u x) ∙ get_or-set_other (row e t) u v x None ne))
      (λ _. refl))
      (λ _. refl)

  -- a loop over these slots does all
  abbrev Guessed : Engine → Engine → Type 0
  Guessed e m = (v : ℕ) → unguessed e t v ≡ false → unguessed m t v ≡ false

  guessed_after : (e m : Engine) (u : ℕ) → Guessed e m → unguessed e t u ≡ true → Guessed e (account_read m t p u)
  guessed_after e m u k opens v h =
      guess_stays m u v (λ q. true≢false (sym opens ∙ ap (unguessed e t) (sym q) ∙ h)) ∙ k v h

  pub reads_at : (e : Engine) → account_reads e t p (filter (unguessed e t) slots) ≡ account_reads e t p slots
  reads_at e =
      skips (λ m us. account_reads m t p us) (λ m u. account_read m t p u) (λ m u us. refl) (unguessed e t) (Guessed e)
      (guessed_after e)
      (λ m u k h. none_to_read m u (k u h))
      slots e (λ v h. h)

  -- writes at the other open slots, and at no other
  no_write : (a b c : Bool) → (a && b) ≡ false → (a && (b && c)) ≡ false
  no_write false b c h = refl
  no_write true false c h = refl
  no_write true true c h = absurd (true≢false h)

  pub none_to_write : (e : Engine) (v : ℕ) → other_open e t v ≡ false → account_write e t p v ≡ e
  none_to_write e v h =
      cond-false (write_conflict e t p v) (account e v t) e (no_write (not (v == t)) (is_open e v) _ h)

  pub open_stays : (e : Engine) (u v : ℕ) → other_open (account_write e t p u) t v ≡ other_open e t v
  open_stays e u v =
      let x : Option Stand = Some (unwrap_or (furthest_of (clean e t) u (row e u)) start) in
      cond_both (write_conflict e t p u) (account e u t) e (λ m. other_open m t v ≡ other_open e t v)
      (λ _. cond_both (has_room e u t) (with_shadow e u t x) e (λ m. other_open m t v ≡ other_open e t v) (λ _. refl) (λ _. refl))
      (λ _. refl)

  -- a loop over the other open slots does all
  pub writes_at : (e : Engine) → account_writes e t p (filter (other_open e t) slots) ≡ account_writes e t p slots
  writes_at e =
      skips (λ m us. account_writes m t p us) (λ m u. account_write m t p u) (λ m u us. refl) (other_open e t) (λ m. (v : ℕ) → other_open m t v ≡ other_open e t v)
      (λ m u k h v. open_stays m u v ∙ k v)
      (λ m u k h. none_to_write m u (k u ∙ h))
      slots e (λ v. refl)
