-- Reads against writes: what lists of them have in common, as shadows move. Assumes nothing.
use Rattle.std.proofs.Common.{◌≡◌, ℕ, Bool, true, false, ◌||◌, eqb, List, [], ◌∷◌, Some, None, Option, sym, refl, ap, ◌∙◌, ⊎_elim}
use Rattle.std.specs.List.{slice_get}
use Rattle.std.proofs.Math.Bool.{or-false}
use Rattle.std.proofs.lemmas.List.Folds.{list_any-append}
use Rattle.std.proofs.lemmas.Bool.{cases_Bool, cases_eq, eq-eqb, ne_eqb, both_ways, or_left, or_right, or_cases, true≢false}
use Rattle.pages.specs.declared.WriteEntry.{WriteEntry}
use Rattle.serial.specs.declared.ReadEntry.{ReadEntry}
use Rattle.serial.specs.Machine.{Meaning, Steps, Stand, write_of, has_read, has_written, has_read_any}
use Rattle.serial.specs.Alone.{on_list}
use Rattle.serial.specs.Laws.{Leads, here, more}
use Rattle.serial.proofs.Steps.{noted, named}
use Rattle.serial.proofs.Runs.{stepped, reads_grow}

-- whether some recorded read names the page of a write
abbrev pub read_named : List ReadEntry → Option ℕ → Bool
read_named rs None = false
read_named rs (Some p) = has_read rs p

flip : (a b : ℕ) → eqb a b ≡ eqb b a
flip a b = ⊎_elim (λ (e : a ≡ b). eq-eqb a b e ∙ sym (eq-eqb b a (sym e))) (λ (n : a ≡ b → ⊥). ne_eqb a b n ∙ sym (ne_eqb b a (λ e. n (sym e)))) (cases_eq a b)

pub read_any_nil : (rs : List ReadEntry) → has_read_any rs [] ≡ false
read_any_nil [] = refl
read_any_nil (r ∷ rs) = read_any_nil rs

shuffled : (a b c d : Bool) → ((a || b) || (c || d)) ≡ ((a || c) || (b || d))
shuffled true b c d = refl
shuffled false true true d = refl
shuffled false true false d = refl
shuffled false false c d = refl

-- reads against a list with one more write
pub read_any_more : (rs : List ReadEntry) (es es' : List WriteEntry) (wr : Option ℕ) → ((q : ℕ) → has_written es' q ≡ (has_written es q || named wr q)) → has_read_any rs es' ≡ (has_read_any rs es || read_named rs wr)
read_any_more [] es es' None h = refl
read_any_more [] es es' (Some p) h = refl
read_any_more (r ∷ rs) es es' None h =
    ap (λ b. b || has_read_any rs es') (h r.page ∙ or-false (has_written es r.page))
    ∙ ap (λ b. has_written es r.page || b) (read_any_more rs es es' None h ∙ or-false (has_read_any rs es))
    ∙ sym (or-false (has_written es r.page || has_read_any rs es))
read_any_more (r ∷ rs) es es' (Some p) h =
    ap (λ b. b || has_read_any rs es') (h r.page ∙ ap (λ b. has_written es r.page || b) (flip p r.page))
    ∙ ap (λ b. (has_written es r.page || eqb r.page p) || b) (read_any_more rs es es' (Some p) h)
    ∙ shuffled (has_written es r.page) (eqb r.page p) (has_read_any rs es) (has_read rs p)

-- reads against a longer list
pub read_any_grows : (rs : List ReadEntry) (es es' : List WriteEntry) → ((q : ℕ) → has_written es q ≡ true → has_written es' q ≡ true) → has_read_any rs es ≡ true → has_read_any rs es' ≡ true
read_any_grows [] es es' h k = absurd (true≢false (sym k))
read_any_grows (r ∷ rs) es es' h k =
    ⊎_elim
    (λ (a : has_written es r.page ≡ true). or_left (has_written es' r.page) (has_read_any rs es') (h r.page a))
    (λ (a : has_read_any rs es ≡ true). or_right (has_written es' r.page) (has_read_any rs es') (read_any_grows rs es es' h a))
    (or_cases (has_written es r.page) (has_read_any rs es) k)

pub read_any_shrinks : (rs : List ReadEntry) (es es' : List WriteEntry) → ((q : ℕ) → has_written es q ≡ true → has_written es' q ≡ true) → has_read_any rs es' ≡ false → has_read_any rs es ≡ false
read_any_shrinks rs es es' h k = ⊎_elim (λ (a : has_read_any rs es ≡ true). absurd (both_ways (has_read_any rs es') k (read_any_grows rs es es' h a))) (λ a. a) (cases_Bool (has_read_any rs es))

module _ (ar : Meaning) (script : Steps) (pages : List ℕ) where
  -- what an earlier stand has written, a later one has
  pub own_grows : {s t : Stand} → Leads ar script pages s t → (q : ℕ) → has_written s.own q ≡ true → has_written t.own q ≡ true
  own_grows here q h = h
  own_grows {s} {t} (more {t = m} n k) q h =
      own_grows k q ((stepped ar script pages s m n).move.own q ∙ or_left (has_written s.own q) (named (write_of (slice_get script s.step) s) q) h)

  -- and what it has read
  pub read_named_grows : {s t : Stand} (wr : Option ℕ) → Leads ar script pages s t → read_named s.reads wr ≡ true → read_named t.reads wr ≡ true
  read_named_grows None l h = h
  read_named_grows {s} {t} (Some p) l h =
      let g = reads_grow ar script pages l in
      ap (λ xs. has_read xs p) g.1 ∙ list_any-append (λ r. eqb r.page p) s.reads g.0 ∙ or_left (has_read s.reads p) (has_read g.0 p) h

  pub read_named_shrinks : {s t : Stand} (wr : Option ℕ) → Leads ar script pages s t → read_named t.reads wr ≡ false → read_named s.reads wr ≡ false
  read_named_shrinks {s} {t} wr l h = ⊎_elim (λ (a : read_named s.reads wr ≡ true). absurd (both_ways (read_named t.reads wr) h (read_named_grows wr l a))) (λ a. a) (cases_Bool (read_named s.reads wr))

-- the read that a step records, against a list
pub noted_any : (n : ℕ) (o : Option ℕ) (es : List WriteEntry) → has_read_any (noted n o) es ≡ on_list es o
noted_any n None es = refl
noted_any n (Some p) es = or-false (has_written es p)
