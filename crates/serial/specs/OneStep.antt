-- What one step comes to, in words: which page it reads or writes, what is recorded, and what stays. These definitions use
-- none that computes a step; only the laws at the end name those. Assumes nothing.
use Rattle.std.specs.Prelude.{◌≡◌, ℕ, ◌+◌, ◌%◌, ◌^◌, ◌<◌, ◌≤◌, ◌≢◌, ◌⊎◌, ◌↔◌, List, [], ◌∷◌, ◌++◌, length, Some, None, Option, slice_index}
use Rattle.std.specs.List.{slice_get}
use Rattle.arithmetic.specs.declared.Operation.{Operation}
use Rattle.pages.specs.Pages.{entry}
use Rattle.pages.specs.declared.WriteEntry.{WriteEntry}
use Rattle.script.specs.declared.Register.{Register}
use Rattle.script.specs.declared.Action.TheVariants.{Read, ReadIndexed, Write, WriteIndexed, Set, Combine, Skip}
use Rattle.script.specs.declared.Step.{Step}
use Rattle.serial.specs.Machine.{Meaning, Steps, Stand, start, holds, Taken, moved, off_pages, takes, store_read, write_of}
use Rattle.serial.specs.Alone.{next}
use Rattle.serial.specs.Laws.{Leads}
use Rattle.serial.specs.Rules.{Engine, shadow}
use Rattle.serial.specs.Sound.{SoundEngine}

-- an entry of the list names the page, with this word
abbrev pub OnList : List WriteEntry → ℕ → ℕ → Type 0
OnList own p w = (i : ℕ) × (slice_get own i ≡ Some (entry p w))

-- no entry of the list names the page
abbrev pub NotOnList : List WriteEntry → ℕ → Type 0
NotOnList own p = (w : ℕ) → OnList own p w → ⊥

-- a page stands on the list once: entries at two places name two pages
abbrev pub Once : List WriteEntry → Type 0
Once own =
    (i j : ℕ) (x y : WriteEntry) → i ≢ j → slice_get own i ≡ Some x → slice_get own j ≡ Some y → x.page ≢ y.page

-- there are four registers
abbrev pub HasFour : Stand → Type 0
HasFour s = length s.registers ≡ 4

-- the step reads page p into register a: p is the operand; with an index, the remainder by 2^32 of the operand and register
-- b together
abbrev pub Reads : Step → Stand → Register → ℕ → Type 0
Reads st s a p =
    ((st.action ≡ Read a) × (p ≡ st.operand))
    ⊎ ((b : Register) × (st.action ≡ ReadIndexed a b) × (p ≡ (st.operand + holds s b) % 2 ^ 32))

-- the step writes w, the word of its register a, to page p, which is told as for a read
abbrev pub Writes : Step → Stand → ℕ → ℕ → Type 0
Writes st s p w =
    ((a : Register) × (st.action ≡ Write a) × (p ≡ st.operand) × (w ≡ holds s a))
    ⊎ ((a : Register) × (b : Register) × (st.action ≡ WriteIndexed a b) × (p ≡ (st.operand + holds s b) % 2 ^ 32) × (w ≡ holds s a))

-- the step sets register a to w: to the operand, or to what the arithmetic makes of the words of a and b
abbrev pub Sets : Meaning → Step → Stand → Register → ℕ → Type 0
Sets ar st s a w =
    ((st.action ≡ Set a) × (w ≡ st.operand))
    ⊎ ((op : Operation) × (b : Register) × (st.action ≡ Combine op a b) × (w ≡ ar op (holds s a) (holds s b)))

-- the step leaves out the next n: a skip leaves out as many as the operand says if its registers hold the same word, else
-- none
abbrev pub LeavesOut : Step → Stand → ℕ → Type 0
LeavesOut st s n =
    (a : Register) × (b : Register) × (st.action ≡ Skip a b)
    × (((holds s a ≡ holds s b) × (n ≡ st.operand)) ⊎ ((holds s a ≢ holds s b) × (n ≡ 0)))

-- register a takes the word, and the other registers are as they were
pub record RegisterTakes (s : Stand) (a : Register) (w : ℕ) (t : Stand) : Type 0 where
  pub four : HasFour t
  pub taken : holds t a ≡ w
  pub others : (r : Register) → r ≢ a → holds t r ≡ holds s r

-- the list takes a word for a page: if the page is on the list, that entry's word is replaced in its place, and every other
-- entry stays; else page and word come last
pub record ListTakes (own : List WriteEntry) (p w : ℕ) (own' : List WriteEntry) : Type 0 where
  pub in_place : (i before : ℕ) → slice_get own i ≡ Some (entry p before)
      → (slice_get own' i ≡ Some (entry p w)) × ((j : ℕ) → j ≢ i → slice_get own' j ≡ slice_get own j)
  pub added : NotOnList own p → own' ≡ own ++ (entry p w ∷ [])

-- what a step comes to that is taken at s over the pages: each field speaks of one kind of step, and says all of it
pub record ComesTo (ar : Meaning) (pages : List ℕ) (st : Step) (s : Stand) (d : Taken) : Type 0 where
  -- a read of a page on the own list takes the word there, and is not recorded
  pub own_read : (a : Register) (p w : ℕ) → Reads st s a p → OnList s.own p w
      → (t : Stand) × (d ≡ moved t) × (t.step ≡ s.step + 1) × RegisterTakes s a w t × (t.reads ≡ s.reads) × (t.own ≡ s.own)
  -- a read of any other page of the store takes its word there, and is recorded last, with its step and its page
  pub read : (a : Register) (p : ℕ) → Reads st s a p → NotOnList s.own p → p < length pages
      → (t : Stand) × (d ≡ moved t) × (t.step ≡ s.step + 1) × RegisterTakes s a (slice_index pages p) t
      × (t.reads ≡ s.reads ++ (record { step = s.step; page = p } ∷ [])) × (t.own ≡ s.own)
  -- a page that is neither on the own list nor in the store is missing, and then nothing has moved
  pub none_to_read : (a : Register) (p : ℕ) → Reads st s a p → NotOnList s.own p → length pages ≤ p → d ≡ off_pages p
  -- a write of a page of the store goes to the own list
  pub written : (p w : ℕ) → Writes st s p w → p < length pages
      → (t : Stand) × (d ≡ moved t) × (t.step ≡ s.step + 1) × (t.registers ≡ s.registers) × (t.reads ≡ s.reads) × ListTakes s.own p w t.own
  -- a page that is not in the store is missing, even if it is on the own list
  pub none_to_write : (p w : ℕ) → Writes st s p w → length pages ≤ p → d ≡ off_pages p
  -- a set or a combine changes one register
  pub set : (a : Register) (w : ℕ) → Sets ar st s a w
      → (t : Stand) × (d ≡ moved t) × (t.step ≡ s.step + 1) × RegisterTakes s a w t × (t.reads ≡ s.reads) × (t.own ≡ s.own)
  -- a skip goes on past the steps that are left out
  pub left_out : (n : ℕ) → LeavesOut st s n
      → (t : Stand) × (d ≡ moved t) × (t.step ≡ s.step + 1 + n) × (t.registers ≡ s.registers) × (t.reads ≡ s.reads) × (t.own ≡ s.own)

-- taking a step comes to that and to nothing else, with four registers and a page on the own list once, as every stand of a
-- run has them
abbrev pub StepsComeTo : Type 0
StepsComeTo =
    (ar : Meaning) (pages : List ℕ) (st : Step) (s : Stand) (d : Taken) → HasFour s → Once s.own
    → (takes ar pages st s ≡ d) ↔ ComesTo ar pages st s d

-- the words leave nothing open: what a step comes to is one and the same
abbrev pub StepsHaveOneOutcome : Type 0
StepsHaveOneOutcome =
    (ar : Meaning) (pages : List ℕ) (st : Step) (s : Stand) (d d' : Taken)
    → ComesTo ar pages st s d → ComesTo ar pages st s d' → d ≡ d'

-- the next step is the one of the script at the step where the run stands; past the last there is none
pub record NextSo (ar : Meaning) (script : Steps) (pages : List ℕ) (s : Stand) : Type 0 where
  pub taken : (d : Taken) → (next ar script pages s ≡ Some d)
      ↔ ((st : Step) × (slice_get script s.step ≡ Some st) × ComesTo ar pages st s d)
  pub ended : (next ar script pages s ≡ None) ↔ (length script ≤ s.step)

abbrev pub NextInWords : Type 0
NextInWords =
    (ar : Meaning) (script : Steps) (pages : List ℕ) (s : Stand) → HasFour s → Once s.own → NextSo ar script pages s

-- a run begins at step 0, with 0 in each of the four registers, and nothing recorded or written
pub record Begins (s : Stand) : Type 0 where
  pub step : s.step ≡ 0
  pub four : HasFour s
  pub zeros : (r : Register) → holds s r ≡ 0
  pub unread : s.reads ≡ []
  pub unwritten : s.own ≡ []

-- every stand of a run has four registers
abbrev pub FourRegisters : Type 0
FourRegisters =
    (ar : Meaning) (script : Steps) (pages : List ℕ) (s : Stand) → Leads ar script pages start s → HasFour s

-- and every shadow in every engine, whatever store it was called with, stands so that these words fix its next step: it has
-- four registers, and a page stands on its own list once
abbrev pub ShadowsStandSo : Type 0
ShadowsStandSo = (e : Engine) (t u : ℕ) (s : Stand) → SoundEngine e → shadow e t u ≡ Some s → HasFour s × Once s.own

-- the next step, where there is one, is a store read of the page that it reads, unless that page is on the own list
abbrev pub StoreReadsInWords : Type 0
StoreReadsInWords =
    (next : Option Step) (s : Stand) (p : ℕ)
    → (store_read next s ≡ Some p) ↔ ((st : Step) × (a : Register) × (next ≡ Some st) × Reads st s a p × NotOnList s.own p)

-- and it is a write of the page that it writes
abbrev pub WritesInWords : Type 0
WritesInWords =
    (next : Option Step) (s : Stand) (p : ℕ)
    → (write_of next s ≡ Some p) ↔ ((st : Step) × (w : ℕ) × (next ≡ Some st) × Writes st s p w)
