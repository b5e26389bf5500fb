-- One step is what the words say, and nothing else. Assumes nothing.
use Rattle.std.proofs.Common.{◌≡◌, ℕ, zero, suc, ◌+◌, ◌%◌, ◌^◌, ◌<◌, ◌≤◌, cond, eqb, ltb, ◌≢◌, ◌⊎◌, List, [], ◌∷◌, length, get_or, set, Some, None, Option, sym, refl, ap, ◌∙◌, subst, inl, inr, ⊎_elim, arith, length-set, get_or-set_same, get_or-set_other}
use Rattle.std.specs.List.{slice_get}
use Rattle.std.proofs.lemmas.List.{ext_get_or}
use Rattle.std.proofs.lemmas.Bool.{cases_eq, cases_lt, cond-true, cond-false, lt-ltb, le-ltb, eq-eqb, ne_eqb}
use Rattle.std.proofs.lemmas.Option.{slice_get_within}
use Rattle.arithmetic.specs.declared.Operation.{Operation}
use Rattle.pages.specs.declared.WriteEntry.{WriteEntry}
use Rattle.script.specs.Script.{register, index}
use Rattle.script.specs.declared.Register.{Register}
use Rattle.script.specs.declared.Register.TheVariants.{R0, R1, R2, R3}
use Rattle.script.specs.declared.Action.{Action}
use Rattle.script.specs.declared.Action.TheVariants.{Read, ReadIndexed, Write, WriteIndexed, Set, Combine, Skip}
use Rattle.script.specs.declared.Step.{Step}
use Rattle.serial.specs.declared.ReadEntry.{ReadEntry}
use Rattle.serial.specs.Machine.{Meaning, Stand, start, holds, written, reading, writing, setting, leaving, does_action, effect, with_register, recorded, with_write, Taken, moved, off_pages, take_read, take_effect, takes, page_read, page_written, unless_own, from_store, store_read, write_of}
use Rattle.serial.specs.Alone.{try_step, next}
use Rattle.serial.specs.OneStep.{NotOnList, Once, HasFour, Reads, Writes, Sets, LeavesOut, RegisterTakes, ComesTo, StepsComeTo, StepsHaveOneOutcome, NextSo, NextInWords, Begins, StoreReadsInWords, WritesInWords}
use Rattle.serial.proofs.Table.{none_is_some}
use Rattle.serial.proofs.PageLists.{Found, Missing, looked, off_told, stands_told, write-takes, takes_one_way}

-- registers and their places
register-index : (r : Register) → register (index r) ≡ r
register-index R0 = refl
register-index R1 = refl
register-index R2 = refl
register-index R3 = refl

index_below : (r : Register) → index r < 4
index_below R0 = omega arith
index_below R1 = omega arith
index_below R2 = omega arith
index_below R3 = omega arith

index-register : (i : ℕ) → i < 4 → index (register i) ≡ i
index-register zero l = refl
index-register (suc zero) l = refl
index-register (suc (suc zero)) l = refl
index-register (suc (suc (suc zero))) l = refl
index-register (suc (suc (suc (suc i)))) l = absurd (omega arith)

same_register : (r a : Register) → index r ≡ index a → r ≡ a
same_register r a e = sym (register-index r) ∙ ap register e ∙ register-index a

cases_register : (r a : Register) → (r ≡ a) ⊎ (r ≡ a → ⊥)
cases_register r a = ⊎_elim (λ (e : index r ≡ index a). inl (same_register r a e)) (λ (n : index r ≡ index a → ⊥). inr (λ e. n (ap index e))) (cases_eq (index r) (index a))

-- a word put into a register of four
register-takes : (s t : Stand) (a : Register) (w : ℕ) → HasFour s → t.registers ≡ set s.registers (index a) w → RegisterTakes s a w t
register-takes s t a w four e = record {
  four = ap length e ∙ length-set s.registers (index a) w ∙ four;
  taken = ap (λ rs. get_or rs (index a) 0) e ∙ get_or-set_same s.registers (index a) w 0 (let i = index_below a in omega arith);
  others = λ r ne. ap (λ rs. get_or rs (index r) 0) e ∙ get_or-set_other s.registers (index a) (index r) w 0 (λ q. ne (same_register r a q));
}

-- what four registers hold is determined
registers_one_way : (s t u : Stand) (a : Register) (v w : ℕ) → v ≡ w → RegisterTakes s a v t → RegisterTakes s a w u → t.registers ≡ u.registers
registers_one_way s t u a v w same x y =
    ext_get_or 0 t.registers u.registers (x.four ∙ sym y.four)
    (λ i l. let four : length t.registers ≡ 4 = x.four in let k = index-register i (omega arith) in sym (ap (λ n. get_or t.registers n 0) k) ∙ at (register i) ∙ ap (λ n. get_or u.registers n 0) k)
  where
    at : (r : Register) → holds t r ≡ holds u r
    at r =
        ⊎_elim
        (λ (e : r ≡ a). ap (holds t) e ∙ x.taken ∙ same ∙ sym y.taken ∙ ap (holds u) (sym e))
        (λ (n : r ≡ a → ⊥). x.others r n ∙ sym (y.others r n))
        (cases_register r a)

abbrev of_parts : ℕ → List ℕ → List ReadEntry → List WriteEntry → Stand
of_parts n rs reads own = record { step = n; registers = rs; reads = reads; own = own }

same_stand : (s t : Stand) → s.step ≡ t.step → s.registers ≡ t.registers → s.reads ≡ t.reads → s.own ≡ t.own → s ≡ t
same_stand s t a b c d =
    ap (λ n. of_parts n s.registers s.reads s.own) a
    ∙ ap (λ rs. of_parts t.step rs s.reads s.own) b
    ∙ ap (λ rs. of_parts t.step t.registers rs s.own) c
    ∙ ap (of_parts t.step t.registers t.reads) d

-- each kind of step, by its effect
module _ (ar : Meaning) (st : Step) (s : Stand) where
  pub reads-effect : (a : Register) (p : ℕ) → Reads st s a p → effect ar st s ≡ reading a p
  reads-effect a p h =
      ⊎_elim
      (λ (r : (st.action ≡ Read a) × (p ≡ st.operand)). ap (λ x. does_action ar x st.operand s) r.0 ∙ ap (reading a) (sym r.1))
      (λ (r : (b : Register) × (st.action ≡ ReadIndexed a b) × (p ≡ (st.operand + holds s b) % 2 ^ 32)). ap (λ x. does_action ar x st.operand s) r.1 ∙ ap (reading a) (sym r.2))
      h

  pub writes-effect : (p w : ℕ) → Writes st s p w → effect ar st s ≡ writing p w
  writes-effect p w h =
      ⊎_elim
      (λ (r : (a : Register) × (st.action ≡ Write a) × (p ≡ st.operand) × (w ≡ holds s a)).
      ap (λ x. does_action ar x st.operand s) r.1 ∙ ap (λ x. writing x (holds s r.0)) (sym r.2) ∙ ap (writing p) (sym r.3))
      (λ (r : (a : Register) × (b : Register) × (st.action ≡ WriteIndexed a b) × (p ≡ (st.operand + holds s b) % 2 ^ 32) × (w ≡ holds s a)).
      ap (λ x. does_action ar x st.operand s) r.2 ∙ ap (λ x. writing x (holds s r.0)) (sym r.3) ∙ ap (writing p) (sym r.4))
      h

  pub sets-effect : (a : Register) (w : ℕ) → Sets ar st s a w → effect ar st s ≡ setting a w
  sets-effect a w h =
      ⊎_elim
      (λ (r : (st.action ≡ Set a) × (w ≡ st.operand)). ap (λ x. does_action ar x st.operand s) r.0 ∙ ap (setting a) (sym r.1))
      (λ (r : (op : Operation) × (b : Register) × (st.action ≡ Combine op a b) × (w ≡ ar op (holds s a) (holds s b))). ap (λ x. does_action ar x st.operand s) r.2 ∙ ap (setting a) (sym r.3))
      h

  pub leaves-effect : (n : ℕ) → LeavesOut st s n → effect ar st s ≡ leaving n
  leaves-effect n h =
      ap (λ x. does_action ar x st.operand s) h.2
      ∙ ap leaving (⊎_elim
      (λ (q : (holds s h.0 ≡ holds s h.1) × (n ≡ st.operand)). cond-true (eqb (holds s h.0) (holds s h.1)) st.operand 0 (eq-eqb (holds s h.0) (holds s h.1) q.0) ∙ sym q.1)
      (λ (q : (holds s h.0 ≢ holds s h.1) × (n ≡ 0)). cond-false (eqb (holds s h.0) (holds s h.1)) st.operand 0 (ne_eqb (holds s h.0) (holds s h.1) q.0) ∙ sym q.1)
      h.3)

-- every step is of one of the kinds
pub data Kind (ar : Meaning) (st : Step) (s : Stand) : Type 0 where
  reads : (a : Register) (p : ℕ) → Reads st s a p → Kind ar st s
  writes : (p w : ℕ) → Writes st s p w → Kind ar st s
  sets : (a : Register) (w : ℕ) → Sets ar st s a w → Kind ar st s
  leaves : (n : ℕ) → LeavesOut st s n → Kind ar st s

kind_of : (ar : Meaning) (act : Action) (operand : ℕ) (s : Stand) → Kind ar (record { action = act; operand = operand }) s
kind_of ar (Read a) o s = reads a o (inl (refl, refl))
kind_of ar (ReadIndexed a b) o s = reads a ((o + holds s b) % 2 ^ 32) (inr (b, refl, refl))
kind_of ar (Write a) o s = writes o (holds s a) (inl (a, refl, refl, refl))
kind_of ar (WriteIndexed a b) o s = writes ((o + holds s b) % 2 ^ 32) (holds s a) (inr (a, b, refl, refl, refl))
kind_of ar (Set a) o s = sets a o (inl (refl, refl))
kind_of ar (Combine op a b) o s = sets a (ar op (holds s a) (holds s b)) (inr (op, b, refl, refl))
kind_of ar (Skip a b) o s =
    ⊎_elim
    (λ (e : holds s a ≡ holds s b). leaves o (a, b, refl, inl (e, refl)))
    (λ (n : holds s a ≡ holds s b → ⊥). leaves 0 (a, b, refl, inr (n, refl)))
    (cases_eq (holds s a) (holds s b))

pub kind : (ar : Meaning) (st : Step) (s : Stand) → Kind ar st s
kind ar st s = kind_of ar st.action st.operand s

-- what a step is taken to
module _ (ar : Meaning) (pages : List ℕ) (st : Step) (s : Stand) where
  takes_read : (a : Register) (p : ℕ) (o : Option ℕ) → Reads st s a p → written s.own p ≡ o → takes ar pages st s ≡ take_read pages s a p o
  takes_read a p o h e = ap (take_effect pages s) (reads-effect ar st s a p h) ∙ ap (take_read pages s a p) e

  takes_store : (a : Register) (p : ℕ) → Reads st s a p → NotOnList s.own p → takes ar pages st s ≡ cond (ltb p (length pages)) (moved (with_register (recorded s p) a (get_or pages p 0))) (off_pages p)
  takes_store a p h off = takes_read a p None h (off_told s.own p off).told

  takes_write : (p w : ℕ) → Writes st s p w → takes ar pages st s ≡ cond (ltb p (length pages)) (moved (with_write s p w)) (off_pages p)
  takes_write p w h = ap (take_effect pages s) (writes-effect ar st s p w h)

  pub comes_to : HasFour s → Once s.own → ComesTo ar pages st s (takes ar pages st s)
  comes_to four once = record {
    own_read = λ a p w h on. (
      with_register s a w,
      takes_read a p (Some w) h (stands_told s.own once p w on),
      refl,
      register-takes s (with_register s a w) a w four refl,
      refl,
      refl,
    );
    read = λ a p h off l. (
      with_register (recorded s p) a (get_or pages p 0),
      takes_store a p h off ∙ cond-true (ltb p (length pages)) _ (off_pages p) (lt-ltb p (length pages) l),
      refl,
      register-takes s (with_register (recorded s p) a (get_or pages p 0)) a (get_or pages p 0) four refl,
      refl,
      refl,
    );
    none_to_read = λ a p h off l. takes_store a p h off ∙ cond-false (ltb p (length pages)) _ (off_pages p) (le-ltb p (length pages) l);
    written = λ p w h l. (
      with_write s p w,
      takes_write p w h ∙ cond-true (ltb p (length pages)) _ (off_pages p) (lt-ltb p (length pages) l),
      refl,
      refl,
      refl,
      write-takes s.own p w once,
    );
    none_to_write = λ p w h l. takes_write p w h ∙ cond-false (ltb p (length pages)) _ (off_pages p) (le-ltb p (length pages) l);
    set = λ a w h. (
      with_register s a w,
      ap (take_effect pages s) (sets-effect ar st s a w h),
      refl,
      register-takes s (with_register s a w) a w four refl,
      refl,
      refl,
    );
    left_out = λ n h. (
      record { step = s.step + 1 + n; registers = s.registers; reads = s.reads; own = s.own },
      ap (take_effect pages s) (leaves-effect ar st s n h),
      refl,
      refl,
      refl,
      refl,
    );
  }

  -- two outcomes are one, whatever kind of step it is
  module _ (d d' : Taken) (x : ComesTo ar pages st s d) (y : ComesTo ar pages st s d') where
    one_by : (k : Kind ar st s) → d ≡ d'
    one_by (reads a p h) =
        ⊎_elim
        (λ (f : Found s.own p).
        let m = x.own_read a p f.word h f.stands in
        let n = y.own_read a p f.word h f.stands in
        m.1 ∙ ap moved (same_stand m.0 n.0 (m.2 ∙ sym n.2) (registers_one_way s m.0 n.0 a f.word f.word refl m.3 n.3) (m.4 ∙ sym n.4) (m.5 ∙ sym n.5)) ∙ sym n.1)
        (λ (q : Missing s.own p).
        ⊎_elim
        (λ (l : p < length pages).
        let m = x.read a p h q.off l in
        let n = y.read a p h q.off l in
        m.1 ∙ ap moved (same_stand m.0 n.0 (m.2 ∙ sym n.2) (registers_one_way s m.0 n.0 a (get_or pages p 0) (get_or pages p 0) refl m.3 n.3) (m.4 ∙ sym n.4) (m.5 ∙ sym n.5)) ∙ sym n.1)
        (λ (l : length pages ≤ p). x.none_to_read a p h q.off l ∙ sym (y.none_to_read a p h q.off l))
        (cases_lt p (length pages)))
        (looked s.own p)
    one_by (writes p w h) =
        ⊎_elim
        (λ (l : p < length pages).
        let m = x.written p w h l in
        let n = y.written p w h l in
        m.1 ∙ ap moved (same_stand m.0 n.0 (m.2 ∙ sym n.2) (m.3 ∙ sym n.3) (m.4 ∙ sym n.4) (takes_one_way s.own m.0.own n.0.own p w m.5 n.5)) ∙ sym n.1)
        (λ (l : length pages ≤ p). x.none_to_write p w h l ∙ sym (y.none_to_write p w h l))
        (cases_lt p (length pages))
    one_by (sets a w h) =
        let m = x.set a w h in
        let n = y.set a w h in
        m.1 ∙ ap moved (same_stand m.0 n.0 (m.2 ∙ sym n.2) (registers_one_way s m.0 n.0 a w w refl m.3 n.3) (m.4 ∙ sym n.4) (m.5 ∙ sym n.5)) ∙ sym n.1
    one_by (leaves k h) =
        let m = x.left_out k h in
        let n = y.left_out k h in
        m.1 ∙ ap moved (same_stand m.0 n.0 (m.2 ∙ sym n.2) (m.3 ∙ sym n.3) (m.4 ∙ sym n.4) (m.5 ∙ sym n.5)) ∙ sym n.1

pub steps_have_one_outcome : StepsHaveOneOutcome
steps_have_one_outcome ar pages st s d d' x y = one_by ar pages st s d d' x y (kind ar st s)

pub steps_come_to : StepsComeTo
steps_come_to ar pages st s d four once = (
  λ e. subst (ComesTo ar pages st s) e (comes_to ar pages st s four once),
  λ x. steps_have_one_outcome ar pages st s (takes ar pages st s) d (comes_to ar pages st s four once) x,
)

-- the next step
past_none : {X : Type 0} (xs : List X) (i : ℕ) → slice_get xs i ≡ None → length xs ≤ i
past_none [] i h = omega arith
past_none (x ∷ xs) zero h = none_is_some x (sym h)
past_none (x ∷ xs) (suc i) h = let l = past_none xs i h in omega arith

pub next_in_words : NextInWords
next_in_words ar script pages s four once = by (slice_get script s.step) refl
  where
    by : (o : Option Step) → slice_get script s.step ≡ o → NextSo ar script pages s
    by None q = record {
      taken = λ d. (λ h. none_is_some d (sym (ap (try_step ar pages s) q) ∙ h), λ x. none_is_some x.0 (sym q ∙ x.1));
      ended = (λ h. past_none script s.step q, λ l. ap (try_step ar pages s) q);
    }
    by (Some st) q =
        let next_is : next ar script pages s ≡ Some (takes ar pages st s) = ap (try_step ar pages s) q in
        record {
          taken = λ d. (
            λ h. let e : takes ar pages st s ≡ d = let z : Some (takes ar pages st s) ≡ Some d = sym next_is ∙ h in cc in (st, q, (steps_come_to ar pages st s d four once).0 e),
            λ x.
                let same : st ≡ x.0 = let z : Some st ≡ Some x.0 = sym q ∙ x.1 in cc in
                next_is ∙ ap Some ((steps_come_to ar pages st s d four once).1 (subst (λ y. ComesTo ar pages y s d) (sym same) x.2)),
          );
          ended = (λ h. none_is_some (takes ar pages st s) (sym h ∙ next_is), λ l. let k = slice_get_within script s.step st q in absurd (omega arith));
        }

pub start_begins : Begins start
start_begins = record { step = refl; four = refl; zeros = zeros; unread = refl; unwritten = refl }
  where
    zeros : (r : Register) → holds start r ≡ 0
    zeros R0 = refl
    zeros R1 = refl
    zeros R2 = refl
    zeros R3 = refl

-- store reads
unless-own : (own : List WriteEntry) (q p : ℕ) → unless_own q (written own q) ≡ Some p → (q ≡ p) × NotOnList own q
unless-own own q p h =
    ⊎_elim
    (λ (f : Found own q). none_is_some p (sym (ap (unless_own q) f.told) ∙ h))
    (λ (m : Missing own q). let e : Some q ≡ Some p = sym (ap (unless_own q) m.told) ∙ h in (cc, m.off))
    (looked own q)

module _ (s : Stand) (p : ℕ) where
  abbrev StoreRead : Step → Type 0
  StoreRead st = (a : Register) × Reads st s a p × NotOnList s.own p

  read_told : (act : Action) (o : ℕ) → from_store s.own (page_read act o s) ≡ Some p → StoreRead (record { action = act; operand = o })
  read_told (Read a) o h = let u = unless-own s.own o p h in (a, inl (refl, sym u.0), subst (NotOnList s.own) u.0 u.1)
  read_told (ReadIndexed a b) o h = let u = unless-own s.own ((o + holds s b) % 2 ^ 32) p h in (a, inr (b, refl, sym u.0), subst (NotOnList s.own) u.0 u.1)
  read_told (Write a) o h = none_is_some p h
  read_told (WriteIndexed a b) o h = none_is_some p h
  read_told (Set a) o h = none_is_some p h
  read_told (Combine op a b) o h = none_is_some p h
  read_told (Skip a b) o h = none_is_some p h

  reads_page : (st : Step) (a : Register) → Reads st s a p → page_read st.action st.operand s ≡ Some p
  reads_page st a h =
      ⊎_elim
      (λ (r : (st.action ≡ Read a) × (p ≡ st.operand)). ap (λ x. page_read x st.operand s) r.0 ∙ ap Some (sym r.1))
      (λ (r : (b : Register) × (st.action ≡ ReadIndexed a b) × (p ≡ (st.operand + holds s b) % 2 ^ 32)). ap (λ x. page_read x st.operand s) r.1 ∙ ap Some (sym r.2))
      h

  write_told : (act : Action) (o : ℕ) → page_written act o s ≡ Some p → (w : ℕ) × Writes (record { action = act; operand = o }) s p w
  write_told (Read a) o h = none_is_some p h
  write_told (ReadIndexed a b) o h = none_is_some p h
  write_told (Write a) o h = (holds s a, inl (a, refl, cc, refl))
  write_told (WriteIndexed a b) o h = (holds s a, inr (a, b, refl, let e : Some ((o + holds s b) % 2 ^ 32) ≡ Some p = h in cc, refl))
  write_told (Set a) o h = none_is_some p h
  write_told (Combine op a b) o h = none_is_some p h
  write_told (Skip a b) o h = none_is_some p h

  writes_page : (st : Step) (w : ℕ) → Writes st s p w → page_written st.action st.operand s ≡ Some p
  writes_page st w h =
      ⊎_elim
      (λ (r : (a : Register) × (st.action ≡ Write a) × (p ≡ st.operand) × (w ≡ holds s a)). ap (λ x. page_written x st.operand s) r.1 ∙ ap Some (sym r.2))
      (λ (r : (a : Register) × (b : Register) × (st.action ≡ WriteIndexed a b) × (p ≡ (st.operand + holds s b) % 2 ^ 32) × (w ≡ holds s a)). ap (λ x. page_written x st.operand s) r.2 ∙ ap Some (sym r.3))
      h

pub store_reads_in_words : StoreReadsInWords
store_reads_in_words next s p = (there next, λ h. ap (λ o. store_read o s) h.2 ∙ ap (from_store s.own) (reads_page s p h.0 h.1 h.3) ∙ ap (unless_own p) (off_told s.own p h.4).told)
  where
    there : (next : Option Step) → store_read next s ≡ Some p → (st : Step) × (a : Register) × (next ≡ Some st) × Reads st s a p × NotOnList s.own p
    there None h = none_is_some p h
    there (Some st) h = let r = read_told s p st.action st.operand h in (st, r.0, refl, r.1, r.2)

pub writes_in_words : WritesInWords
writes_in_words next s p = (there next, λ h. ap (λ o. write_of o s) h.2 ∙ writes_page s p h.0 h.1 h.3)
  where
    there : (next : Option Step) → write_of next s ≡ Some p → (st : Step) × (w : ℕ) × (next ≡ Some st) × Writes st s p w
    there None h = none_is_some p h
    there (Some st) h = let r = write_told s p st.action st.operand h in (st, r.0, refl, r.1)
