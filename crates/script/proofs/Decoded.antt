-- Laws of decoding. Assumes nothing.
use Rattle.std.proofs.Common.{◌≡◌, ℕ, zero, suc, ◌+◌, ◌-◌, ◌*◌, ◌/◌, ◌%◌, ◌<◌, ◌≤◌, Bool, true, false, cond, ◌&&◌, eqb, leb, List, [], ◌∷◌, ◌++◌, length, is_some, Some, None, Ok, Err, Option, Result, sym, refl, ap, ◌∙◌, subst, ⊎_elim, add-zero, add-suc, add-one, arith}
use Rattle.std.specs.List.{slice_get}
use Rattle.std.proofs.iter.runs.Lists.{nth_read, slice_get_within, nth_left, nth_seam}
use Rattle.std.proofs.lemmas.List.{length_push}
use Rattle.std.proofs.lemmas.Bool.{and_parts, cond-true, cond-false, cond_both, cases_eq, cases_Bool, eqb-true, leb-true}
use Rattle.arithmetic.specs.Words.{from_number}
use Rattle.arithmetic.specs.declared.Operation.{Operation}
use Rattle.script.specs.declared.Register.{Register}
use Rattle.script.specs.declared.Register.TheVariants.{R0}
use Rattle.script.specs.declared.Action.TheVariants.{Set, Skip}
use Rattle.script.specs.declared.Step.{Step}
use Rattle.script.specs.declared.ScriptFault.{ScriptFault}
use Rattle.script.specs.declared.ScriptFault.TheVariants.{Unfit, Undefined}
use Rattle.script.specs.Script.{register, fit, size_told, steps_told, code_at, operand_at, step_with, combining, defined, step_at, then_step, steps_to, decoded}
use Rattle.script.specs.Laws.{leaves_out, Decodes}
use Rattle.script.specs.Positions.{IsFit}

-- fit bytes of n steps, fact by fact
pub record Fit (bs : List ℕ) (n : ℕ) : Type 0 where
  pub fits : fit bs ≡ true
  pub size : n ≡ steps_told bs
  pub few : n ≤ 16
  pub long : length bs ≡ 1 + 5 * n

pub fit-is : (bs : List ℕ) → fit bs ≡ true → IsFit bs
fit-is bs h =
    let n = steps_told bs in
    let p = and_parts (leb 1 n) (leb n 16 && eqb (length bs) (1 + 5 * n)) h in
    let q = and_parts (leb n 16) (eqb (length bs) (1 + 5 * n)) p.1 in
    record { some = leb-true 1 n p.0; few = leb-true n 16 q.0; long = eqb-true (length bs) (1 + 5 * n) q.1 }

pub fit_facts : (bs : List ℕ) → fit bs ≡ true → Fit bs (steps_told bs)
fit_facts bs h = let f = fit-is bs h in record { fits = h; size = refl; few = f.few; long = f.long }

pub size_facts : (bs : List ℕ) (n : ℕ) → size_told bs ≡ Some n → Fit bs n
size_facts bs n =
    cond_both (fit bs) (Some (steps_told bs)) None (λ o. o ≡ Some n → Fit bs n)
    (λ h e. let size : steps_told bs ≡ n = cc in subst (Fit bs) size (fit_facts bs h))
    (λ h e. let z : ◌≡◌ {A = ℕ} 0 1 = cc in absurd (omega arith))

module _ (bs : List ℕ) where
  stays : (n m : ℕ) (f : ScriptFault) → steps_to bs n ≡ Err f → steps_to bs (n + m) ≡ Err f
  stays n zero f h = ap (steps_to bs) (add-zero n) ∙ h
  stays n (suc m) f h = ap (steps_to bs) (add-suc n m) ∙ ap (then_step (n + m) (step_at bs (n + m))) (stays n m f h)

  -- the first step that is not defined
  pub steps_stop : (i n : ℕ) (ss : List Step) → i < n → steps_to bs i ≡ Ok ss → step_at bs i ≡ None → steps_to bs n ≡ Err (Undefined i)
  steps_stop i n ss l so none =
      let here : steps_to bs (suc i) ≡ Err (Undefined i) = ap (then_step i (step_at bs i)) so ∙ ap (λ o. then_step i o (Ok ss)) none in
      let e : suc i + (n - suc i) ≡ n = omega arith in
      ap (steps_to bs) (sym e) ∙ stays (suc i) (n - suc i) (Undefined i) here

  pub decoded-fit : fit bs ≡ true → decoded bs ≡ steps_to bs (steps_told bs)
  decoded-fit h = cond-true (fit bs) (steps_to bs (steps_told bs)) (Err (Unfit (length bs))) h

-- what a defined step leaves out lies within the script
small : (i n : ℕ) (x s : Step) → leaves_out x ≡ 0 → Some x ≡ Some s → i < n → i + 1 + leaves_out s ≤ n
small i n x s z e l = let q : x ≡ s = cc in subst (λ t. i + 1 + leaves_out t ≤ n) q (omega arith)

none : (i n : ℕ) (s : Step) → ◌≡◌ {A = Option Step} None (Some s) → i + 1 + leaves_out s ≤ n
none i n s e = let z : ◌≡◌ {A = ℕ} 0 1 = cc in absurd (omega arith)

module _ (n i : ℕ) (within : i < n) (s : Step) where
  abbrev Within : Option Step → Type 0
  Within o = o ≡ Some s → i + 1 + leaves_out s ≤ n

  bare : (t : Bool) (x : Step) → leaves_out x ≡ 0 → Within (cond t (Some x) None)
  bare t x z = cond_both t (Some x) None Within (λ _ e. small i n x s z e within) (λ _. none i n s)

  combined : (operand : ℕ) (a b : Register) (o : Option Operation) → Within (combining operand a b o)
  combined operand a b None = none i n s
  combined operand a b (Some op) = λ e. small i n _ s refl e within

  skipped : (a b : Register) (operand : ℕ) → Within (cond (leb 1 operand && (leb operand 15 && leb (i + 1 + operand) n)) (step_with (Skip a b) operand) None)
  skipped a b operand =
      cond_both (leb 1 operand && (leb operand 15 && leb (i + 1 + operand) n)) (step_with (Skip a b) operand) None Within
      (λ t e.
      let q : record { action = Skip a b; operand = operand } ≡ s = cc in
      let fits = leb-true (i + 1 + operand) n (and_parts (leb operand 15) (leb (i + 1 + operand) n) (and_parts (leb 1 operand) (leb operand 15 && leb (i + 1 + operand) n) t).1).1 in
      subst (λ z. i + 1 + leaves_out z ≤ n) q fits)
      (λ _. none i n s)

  defined-within : (action a b operand : ℕ) → Within (defined n i action a b operand)
  defined-within zero a b operand = bare (eqb b 0) _ refl
  defined-within (suc zero) a b operand = λ e. small i n _ s refl e within
  defined-within (suc (suc zero)) a b operand = bare (eqb b 0) _ refl
  defined-within (suc (suc (suc zero))) a b operand = λ e. small i n _ s refl e within
  defined-within (suc (suc (suc (suc zero)))) a b operand = bare (eqb b 0) _ refl
  defined-within (suc (suc (suc (suc (suc zero))))) a b operand = combined operand (register a) (register b) (from_number operand)
  defined-within (suc (suc (suc (suc (suc (suc zero)))))) a b operand = skipped (register a) (register b) operand
  defined-within (suc (suc (suc (suc (suc (suc (suc action))))))) a b operand = none i n s

-- what decoding the first n steps comes to
module _ (bs : List ℕ) where
  abbrev To : ℕ → Result (List Step) ScriptFault → Type 0
  To n (Ok ss) = (length ss ≡ n) × ((i : ℕ) → i < n → step_at bs i ≡ slice_get ss i)
  To n (Err (Unfit k)) = ⊥
  To n (Err (Undefined i)) = (i < n) × (step_at bs i ≡ None) × ((k : ℕ) → k < i → is_some (step_at bs k) ≡ true)

  to_more : (n : ℕ) (r : Result (List Step) ScriptFault) (o : Option Step) → step_at bs n ≡ o → To n r → To (suc n) (then_step n o r)
  to_more n (Err (Unfit k)) o e t = absurd t
  to_more n (Err (Undefined i)) o e t = (let l = t.0 in omega arith, t.1, t.2)
  to_more n (Ok ss) (Some s) e t =
      let long : length ss ≡ n = t.0 in (
        length_push ss s ∙ ap (λ k. k + 1) long ∙ add-one n,
        λ i l.
            ⊎_elim
            (λ (q : i ≡ n). ap (step_at bs) q ∙ e ∙ sym (ap (λ k. slice_get (ss ++ s ∷ []) k) (q ∙ sym long) ∙ nth_seam ss s))
            (λ (q : i ≡ n → ⊥). let m : i < n = omega arith in t.1 i m ∙ sym (nth_left ss (s ∷ []) i (omega arith)))
            (cases_eq i n),
      )
  to_more n (Ok ss) None e t =
      (omega arith, e, λ k l. ap is_some (t.1 k l) ∙ (let long : length ss ≡ n = t.0 in ap is_some (nth_read ss k UNUSED (omega arith))))
    where
      UNUSED : Step
      UNUSED = record { action = Set R0; operand = 0 }

  to : (n : ℕ) → To n (steps_to bs n)
  to zero = (refl, λ i l. absurd (omega arith))
  to (suc n) = to_more n (steps_to bs n) (step_at bs n) refl (to n)

  whole : (r : Result (List Step) ScriptFault) → fit bs ≡ true → To (steps_told bs) r → Decodes bs r
  whole (Ok ss) h t =
      let long : length ss ≡ steps_told bs = t.0 in (
        h,
        t.0,
        t.1,
        λ i s e.
            let l : i < steps_told bs = omega (arith, slice_get_within ss i s e) in
            let w = defined-within (steps_told bs) i l s (code_at bs i / 16) (code_at bs i / 4 % 4) (code_at bs i % 4) (operand_at bs i) (t.1 i l ∙ e) in
            omega arith,
      )
  whole (Err (Unfit k)) h t = absurd t
  whole (Err (Undefined i)) h t = (h, t.0, t.1, t.2)

  pub decodes : Decodes bs (decoded bs)
  decodes =
      ⊎_elim
      (λ (h : fit bs ≡ true). subst (Decodes bs) (sym (decoded-fit bs h)) (whole (steps_to bs (steps_told bs)) h (to (steps_told bs))))
      (λ (h : fit bs ≡ false). subst (Decodes bs) (sym (cond-false (fit bs) (steps_to bs (steps_told bs)) (Err (Unfit (length bs))) h)) (h, refl))
      (cases_Bool (fit bs))
