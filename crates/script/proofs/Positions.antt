-- Decoding and the positions of bytes say the same. Assumes nothing.
use Rattle.std.proofs.Common.{◌≡◌, ℕ, zero, suc, ◌+◌, ◌*◌, ◌/◌, ◌%◌, ◌<◌, true, cond, ◌&&◌, ◌⊎◌, ◌↔◌, eqb, leb, List, length, is_some, Some, None, Ok, Err, Option, Result, sym, refl, ap, ◌∙◌, subst, ⊎_elim, arith, slice_index}
use Rattle.std.proofs.lemmas.List.{ext_get_or}
use Rattle.std.proofs.lemmas.Option.{cond_some, same_Some, none-some, slice_get-get_or, slice_get_within}
use Rattle.std.proofs.lemmas.Bool.{and_parts, and_from, cond-true, cases_order, leb-true, le-leb, eqb-true, eq-eqb, true≢false}
use Rattle.arithmetic.specs.Words.{number, from_number}
use Rattle.arithmetic.specs.declared.Operation.{Operation}
use Rattle.arithmetic.specs.declared.Operation.TheVariants.{Zero, One, Two}
use Rattle.script.specs.declared.Register.{Register}
use Rattle.script.specs.declared.Register.TheVariants.{R0, R1, R2, R3}
use Rattle.script.specs.declared.Action.{Action}
use Rattle.script.specs.declared.Action.TheVariants.{Read, ReadIndexed, Write, WriteIndexed, Set, Combine, Skip}
use Rattle.script.specs.declared.Step.{Step}
use Rattle.script.specs.declared.ScriptFault.{ScriptFault}
use Rattle.script.specs.declared.ScriptFault.TheVariants.{Unfit, Undefined}
use Rattle.script.specs.Script.{register, index, fit, steps_told, code_at, operand_at, step_with, combining, defined, step_of, step_at, decoded}
use Rattle.script.specs.Laws.{Decodes}
use Rattle.script.specs.Positions.{code, code_of, Takes, number_at, StandsAt, IsFit, IsScript, FirstBare, DecodesTo}
use Rattle.script.proofs.Decoded.{decodes, fit-is}

-- registers and their numbers
register-index : (r : Register) → register (index r) ≡ r
register-index R0 = refl
register-index R1 = refl
register-index R2 = refl
register-index R3 = refl

index-register : (k : ℕ) → k < 4 → index (register k) ≡ k
index-register zero l = refl
index-register (suc zero) l = refl
index-register (suc (suc zero)) l = refl
index-register (suc (suc (suc zero))) l = refl
index-register (suc (suc (suc (suc k)))) l = absurd (omega arith)

index_low : (r : Register) → index r < 4
index_low R0 = omega arith
index_low R1 = omega arith
index_low R2 = omega arith
index_low R3 = omega arith

-- operations and their numbers
from-number : (op : Operation) → from_number (number op) ≡ Some op
from-number Zero = refl
from-number One = refl
from-number Two = refl

number-from : (k : ℕ) (op : Operation) → from_number k ≡ Some op → k ≡ number op
number-from zero op e = ap number (same_Some _ _ e)
number-from (suc zero) op e = ap number (same_Some _ _ e)
number-from (suc (suc zero)) op e = ap number (same_Some _ _ e)
number-from (suc (suc (suc k))) op e = absurd (none-some op e)

-- a code byte cut into its parts, and joined from them
action_in : (action a b : ℕ) → a < 4 → b < 4 → code action a b / 16 ≡ action
action_in action a b l m = omega arith

first_in : (action a b : ℕ) → a < 4 → b < 4 → code action a b / 4 % 4 ≡ a
first_in action a b l m = omega arith

second_in : (action a b : ℕ) → b < 4 → code action a b % 4 ≡ b
second_in action a b m = omega arith

joined : (c : ℕ) → c ≡ code (c / 16) (c / 4 % 4) (c % 4)
joined c = omega arith

-- step i of n with this code and operand
record Says (n i c w : ℕ) (s : Step) : Type 0 where
  coded : c ≡ code_of s.action
  beside : w ≡ s.operand
  taken : Takes n i s.action s.operand

module _ (n i a b w : ℕ) (l : a < 4) (m : b < 4) (s : Step) where
  abbrev From : ℕ → Option Step → Type 0
  From action o = o ≡ Some s → Says n i (code action a b) w s

  one_of : (action : ℕ) (x : Step) → Says n i (code action a b) w x → Some x ≡ Some s → Says n i (code action a b) w s
  one_of action x h e = subst (Says n i (code action a b) w) (same_Some x s e) h

  a_is : a ≡ index (register a)
  a_is = sym (index-register a l)

  b_is : b ≡ index (register b)
  b_is = sym (index-register b m)

  coded_two : (action : ℕ) → code action a b ≡ code action (index (register a)) (index (register b))
  coded_two action = ap (λ k. code action k b) a_is ∙ ap (code action (index (register a))) b_is

  coded_one : (action : ℕ) → eqb b 0 ≡ true → code action a b ≡ code action (index (register a)) 0
  coded_one action e = ap (λ k. code action k b) a_is ∙ ap (code action (index (register a))) (eqb-true b 0 e)

  bare : (action : ℕ) (x : Step) → (eqb b 0 ≡ true → Says n i (code action a b) w x) → From action (cond (eqb b 0) (Some x) None)
  bare action x h e = let q = cond_some (eqb b 0) x s e in one_of action x (h q.0) (ap Some q.1)

  combined : (o : Option Operation) → from_number w ≡ o → From 5 (combining w (register a) (register b) o)
  combined None f = λ e. absurd (none-some s e)
  combined (Some op) f = one_of 5 _ (record { coded = coded_two 5; beside = refl; taken = number-from w op f })

  skipped : From 6 (cond (leb 1 w && (leb w 15 && leb (i + 1 + w) n)) (step_with (Skip (register a) (register b)) w) None)
  skipped e =
      let x : Step = record { action = Skip (register a) (register b); operand = w } in
      let q = cond_some (leb 1 w && (leb w 15 && leb (i + 1 + w) n)) x s e in
      let p = and_parts (leb 1 w) (leb w 15 && leb (i + 1 + w) n) q.0 in
      let r = and_parts (leb w 15) (leb (i + 1 + w) n) p.1 in
      one_of 6 x (record { coded = coded_two 6; beside = refl; taken = (leb-true 1 w p.0, leb-true w 15 r.0, leb-true (i + 1 + w) n r.1) }) (ap Some q.1)

  from_defined : (action : ℕ) → From action (defined n i action a b w)
  from_defined zero = bare 0 _ (λ t. record { coded = coded_one 0 t; beside = refl; taken = tt })
  from_defined (suc zero) = one_of 1 _ (record { coded = coded_two 1; beside = refl; taken = tt })
  from_defined (suc (suc zero)) = bare 2 _ (λ t. record { coded = coded_one 2 t; beside = refl; taken = tt })
  from_defined (suc (suc (suc zero))) = one_of 3 _ (record { coded = coded_two 3; beside = refl; taken = tt })
  from_defined (suc (suc (suc (suc zero)))) = bare 4 _ (λ t. record { coded = coded_one 4 t; beside = refl; taken = tt })
  from_defined (suc (suc (suc (suc (suc zero))))) = combined (from_number w) refl
  from_defined (suc (suc (suc (suc (suc (suc zero)))))) = skipped
  from_defined (suc (suc (suc (suc (suc (suc (suc action))))))) = λ e. absurd (none-some s e)

-- what the rule finds is said so
found : (n i c w : ℕ) (s : Step) → step_of n i c w ≡ Some s → Says n i c w s
found n i c w s e =
    let l : c / 4 % 4 < 4 = omega arith in
    let m : c % 4 < 4 = omega arith in
    subst (λ k. Says n i k w s) (sym (joined c)) (from_defined n i (c / 4 % 4) (c % 4) w l m s (c / 16) e)

-- and what is said so the rule finds
module _ (n i : ℕ) where
  cut : (action a b w : ℕ) → a < 4 → b < 4 → step_of n i (code action a b) w ≡ defined n i action a b w
  cut action a b w l m =
      ap (λ k. defined n i k (code action a b / 4 % 4) (code action a b % 4) w) (action_in action a b l m)
      ∙ ap (λ k. defined n i action k (code action a b % 4) w) (first_in action a b l m)
      ∙ ap (λ k. defined n i action a k w) (second_in action a b m)

  one : (action w : ℕ) (a : Register) → step_of n i (code action (index a) 0) w ≡ defined n i action (index a) 0 w
  one action w a = cut action (index a) 0 w (index_low a) (omega arith)

  two : (action w : ℕ) (a b : Register) → step_of n i (code action (index a) (index b)) w ≡ defined n i action (index a) (index b) w
  two action w a b = cut action (index a) (index b) w (index_low a) (index_low b)

  same_two : (make : Register → Register → Action) (w : ℕ) (a b : Register) → step_with (make (register (index a)) (register (index b))) w ≡ step_with (make a b) w
  same_two make w a b =
      ap (λ x. step_with (make x (register (index b))) w) (register-index a) ∙ ap (λ x. step_with (make a x) w) (register-index b)

  to_defined : (action : Action) (w : ℕ) → Takes n i action w → step_of n i (code_of action) w ≡ step_with action w
  to_defined (Read a) w t = one 0 w a ∙ ap (λ x. step_with (Read x) w) (register-index a)
  to_defined (ReadIndexed a b) w t = two 1 w a b ∙ same_two ReadIndexed w a b
  to_defined (Write a) w t = one 2 w a ∙ ap (λ x. step_with (Write x) w) (register-index a)
  to_defined (WriteIndexed a b) w t = two 3 w a b ∙ same_two WriteIndexed w a b
  to_defined (Set a) w t = one 4 w a ∙ ap (λ x. step_with (Set x) w) (register-index a)
  to_defined (Combine op a b) w t =
      two 5 w a b ∙ ap (combining w (register (index a)) (register (index b))) (ap from_number t ∙ from-number op)
      ∙ same_two (λ x y. Combine op x y) w a b
  to_defined (Skip a b) w t =
      two 6 w a b
      ∙ cond-true _ (step_with (Skip (register (index a)) (register (index b))) w) None
      (and_from (leb 1 w) (leb w 15 && leb (i + 1 + w) n) (le-leb 1 w t.0) (and_from (leb w 15) (leb (i + 1 + w) n) (le-leb w 15 t.1) (le-leb (i + 1 + w) n t.2)))
      ∙ same_two Skip w a b

module _ (bs : List ℕ) (i : ℕ) where
  same_number : operand_at bs i ≡ number_at bs (1 + steps_told bs + 4 * i)
  same_number = omega arith

  stands : (s : Step) → step_at bs i ≡ Some s → StandsAt bs (slice_index bs 0) i s
  stands s e =
      let says = found (steps_told bs) i (code_at bs i) (operand_at bs i) s e in
      record { coded = says.coded; beside = sym same_number ∙ says.beside; operand_fits = says.taken }

  stood : (s : Step) → StandsAt bs (slice_index bs 0) i s → step_at bs i ≡ Some s
  stood s h =
      ap (λ c. step_of (steps_told bs) i c (operand_at bs i)) h.coded
      ∙ ap (step_of (steps_told bs) i (code_of s.action)) (same_number ∙ h.beside)
      ∙ to_defined (steps_told bs) i s.action s.operand h.operand_fits

-- one step at most stands at a place
one_step : (bs : List ℕ) (i : ℕ) (s t : Step) → StandsAt bs (slice_index bs 0) i s → StandsAt bs (slice_index bs 0) i t → s ≡ t
one_step bs i s t h k = same_Some s t (sym (stood bs i s h) ∙ stood bs i t k)

is-fit : (bs : List ℕ) → IsFit bs → fit bs ≡ true
is-fit bs f =
    let n = steps_told bs in
    and_from (leb 1 n) (leb n 16 && eqb (length bs) (1 + 5 * n)) (le-leb 1 n f.some)
    (and_from (leb n 16) (eqb (length bs) (1 + 5 * n)) (le-leb n 16 f.few) (eq-eqb (length bs) (1 + 5 * n) f.long))

-- decoding comes to what is said by position
module _ (bs : List ℕ) where
  some_step : (o : Option Step) (k : ℕ) → step_at bs k ≡ o → is_some o ≡ true → (s : Step) × StandsAt bs (slice_index bs 0) k s
  some_step (Some s) k e h = (s, stands bs k s e)
  some_step None k e h = absurd (true≢false (sym h))

  comes : (r : Result (List Step) ScriptFault) → Decodes bs r → DecodesTo bs r
  comes (Ok ss) d = record {
    fits = fit-is bs d.0;
    count = d.1;
    steps = λ i s e. stands bs i s (d.2 i (omega (arith, slice_get_within ss i s e, d.1)) ∙ e);
  }
  comes (Err (Unfit n)) d = (λ f. true≢false (sym (is-fit bs f) ∙ d.0), d.1)
  comes (Err (Undefined i)) d = record {
    fits = fit-is bs d.0;
    within = d.1;
    bare = λ s h. none-some s (sym d.2 ∙ stood bs i s h);
    before = λ k l. some_step (step_at bs k) k refl (d.3 k l);
  }

  UNUSED : Step
  UNUSED = record { action = Set R0; operand = 0 }

  same_steps : (ss ts : List Step) → IsScript bs ss → IsScript bs ts → ss ≡ ts
  same_steps ss ts h k =
      ext_get_or UNUSED ss ts (h.count ∙ sym k.count)
      (λ i l.
      let there = slice_get-get_or ss i UNUSED l in
      let here = slice_get-get_or ts i UNUSED (omega (arith, h.count, k.count)) in
      one_step bs i _ _ (h.steps i _ there) (k.steps i _ here))

  all_stand : (ss : List Step) (i : ℕ) → IsScript bs ss → FirstBare bs i → ⊥
  all_stand ss i h b = b.bare _ (h.steps i _ (slice_get-get_or ss i UNUSED (omega (arith, h.count, b.within))))

  not_before : (i k : ℕ) → FirstBare bs i → FirstBare bs k → i < k → ⊥
  not_before i k b c l = let s = c.before i l in b.bare s.0 s.1

  same_bare : (i k : ℕ) → FirstBare bs i → FirstBare bs k → i ≡ k
  same_bare i k b c =
      ⊎_elim (λ (e : i ≡ k). e)
      (λ (x : (i < k) ⊎ (k < i)). ⊎_elim (λ (l : i < k). absurd (not_before i k b c l)) (λ (l : k < i). absurd (not_before k i c b l)) x)
      (cases_order i k)

  -- bytes come to one thing
  one_thing : (r t : Result (List Step) ScriptFault) → DecodesTo bs r → DecodesTo bs t → r ≡ t
  one_thing (Ok ss) (Ok ts) h k = ap Ok (same_steps ss ts h k)
  one_thing (Ok ss) (Err (Unfit n)) h k = absurd (k.0 h.fits)
  one_thing (Ok ss) (Err (Undefined i)) h k = absurd (all_stand ss i h k)
  one_thing (Err (Unfit n)) (Ok ts) h k = absurd (h.0 k.fits)
  one_thing (Err (Unfit n)) (Err (Unfit m)) h k = ap (λ x. Err (Unfit x)) (h.1 ∙ sym k.1)
  one_thing (Err (Unfit n)) (Err (Undefined i)) h k = absurd (h.0 k.fits)
  one_thing (Err (Undefined i)) (Ok ts) h k = absurd (all_stand ts i k h)
  one_thing (Err (Undefined i)) (Err (Unfit m)) h k = absurd (k.0 h.fits)
  one_thing (Err (Undefined i)) (Err (Undefined k)) h c = ap (λ x. Err (Undefined x)) (same_bare i k h c)

  pub comes_to : (r : Result (List Step) ScriptFault) → decoded bs ≡ r → DecodesTo bs r
  comes_to r e = comes r (subst (Decodes bs) e (decodes bs))

  pub decoded_by_position : (r : Result (List Step) ScriptFault) → (decoded bs ≡ r) ↔ DecodesTo bs r
  decoded_by_position r = (comes_to r, λ h. one_thing (decoded bs) r (comes_to (decoded bs) refl) h)
