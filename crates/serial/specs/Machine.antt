-- Where a shadow stands, and what taking one step does. Assumes nothing.
use Rattle.std.specs.Prelude.{ℕ, ◌+◌, ◌%◌, ◌^◌, Bool, cond, List, [], ◌∷◌, ◌++◌, length, Some, None, Option, ◌==◌, nat_lt, slice_index, slice_set}
use Rattle.std.specs.List.{list_any}
use Rattle.arithmetic.specs.declared.Operation.{Operation}
use Rattle.pages.specs.Pages.{entry}
use Rattle.pages.specs.declared.WriteEntry.{WriteEntry}
use Rattle.script.specs.Script.{index}
use Rattle.script.specs.declared.Register.{Register}
use Rattle.script.specs.declared.Action.{Action}
use Rattle.script.specs.declared.Action.TheVariants.{Read, ReadIndexed, Write, WriteIndexed, Set, Combine, Skip}
use Rattle.script.specs.declared.Step.{Step}
use Rattle.serial.specs.declared.ReadEntry.{ReadEntry}

-- what an arithmetic means
abbrev pub Meaning : Type 0
Meaning = Operation → ℕ → ℕ → ℕ

abbrev pub Steps : Type 0
Steps = List Step

-- where a shadow stands: its step, four registers, the recorded reads in order, and its own list of writes
pub record Stand : Type 0 where
  pub step : ℕ
  pub registers : List ℕ
  pub reads : List ReadEntry
  pub own : List WriteEntry

-- at step 0 all registers are 0, and nothing is read or written
abbrev pub start : Stand
start = record { step = 0; registers = 0 ∷ 0 ∷ 0 ∷ 0 ∷ []; reads = []; own = [] }

abbrev pub holds : Stand → Register → ℕ
holds s r = slice_index s.registers (index r)

-- the word of page p on an own list, where p stands there
abbrev pub written : List WriteEntry → ℕ → Option ℕ
written [] p = None
written (e ∷ es) p = cond (e.page == p) (Some e.word) (written es p)

-- a page stands on the own list once, in order of first write, with its latest word
abbrev pub write : List WriteEntry → ℕ → ℕ → List WriteEntry
write [] p w = entry p w ∷ []
write (e ∷ es) p w = cond (e.page == p) (entry p w ∷ es) (e ∷ write es p w)

-- what a step is about to do where the shadow stands: a register takes a page; a page takes a word; a register takes a
-- word; some of the next steps are left out
pub data Effect : Type 0 where
  reading : Register → ℕ → Effect
  writing : ℕ → ℕ → Effect
  setting : Register → ℕ → Effect
  leaving : ℕ → Effect

-- an indexed page number is the operand and the register, modulo 2^32
abbrev pub indexed : ℕ → ℕ → ℕ
indexed operand b = (operand + b) % 2 ^ 32

abbrev pub does_action : Meaning → Action → ℕ → Stand → Effect
does_action ar (Read a) operand s = reading a operand
does_action ar (ReadIndexed a b) operand s = reading a (indexed operand (holds s b))
does_action ar (Write a) operand s = writing operand (holds s a)
does_action ar (WriteIndexed a b) operand s = writing (indexed operand (holds s b)) (holds s a)
does_action ar (Set a) operand s = setting a operand
does_action ar (Combine op a b) operand s = setting a (ar op (holds s a) (holds s b))
does_action ar (Skip a b) operand s = leaving (cond (holds s a == holds s b) operand 0)

abbrev pub effect : Meaning → Step → Stand → Effect
effect ar st s = does_action ar st.action st.operand s

-- the shadow one step on, with a word in a register
abbrev pub with_register : Stand → Register → ℕ → Stand
with_register s r w =
    record { step = s.step + 1; registers = slice_set s.registers (index r) w; reads = s.reads; own = s.own }

abbrev pub recorded : Stand → ℕ → Stand
recorded s p =
    record { step = s.step; registers = s.registers; reads = s.reads ++ record { step = s.step; page = p } ∷ []; own = s.own }

abbrev pub with_write : Stand → ℕ → ℕ → Stand
with_write s p w =
    record { step = s.step + 1; registers = s.registers; reads = s.reads; own = write s.own p w }

-- how taking a step ends: the shadow stands elsewhere, or the step is for a page that the store does not have
pub data Taken : Type 0 where
  moved : Stand → Taken
  off_pages : ℕ → Taken

-- a read of a page on the own list takes that word; every other is a store read, recorded with its step and page
abbrev pub take_read : List ℕ → Stand → Register → ℕ → Option ℕ → Taken
take_read pages s a p (Some w) = moved (with_register s a w)
take_read pages s a p None =
    cond (nat_lt p (length pages)) (moved (with_register (recorded s p) a (slice_index pages p))) (off_pages p)

abbrev pub take_effect : List ℕ → Stand → Effect → Taken
take_effect pages s (reading a p) = take_read pages s a p (written s.own p)
take_effect pages s (writing p w) = cond (nat_lt p (length pages)) (moved (with_write s p w)) (off_pages p)
take_effect pages s (setting a w) = moved (with_register s a w)
take_effect pages s (leaving n) =
    moved (record { step = s.step + 1 + n; registers = s.registers; reads = s.reads; own = s.own })

-- one step taken over fixed pages
abbrev pub takes : Meaning → List ℕ → Step → Stand → Taken
takes ar pages st s = take_effect pages s (effect ar st s)

-- the page that a step reads, from the store or the own list
abbrev pub page_read : Action → ℕ → Stand → Option ℕ
page_read (Read a) operand s = Some operand
page_read (ReadIndexed a b) operand s = Some (indexed operand (holds s b))
page_read (Write a) operand s = None
page_read (WriteIndexed a b) operand s = None
page_read (Set a) operand s = None
page_read (Combine op a b) operand s = None
page_read (Skip a b) operand s = None

-- the page that a step writes
abbrev pub page_written : Action → ℕ → Stand → Option ℕ
page_written (Read a) operand s = None
page_written (ReadIndexed a b) operand s = None
page_written (Write a) operand s = Some operand
page_written (WriteIndexed a b) operand s = Some (indexed operand (holds s b))
page_written (Set a) operand s = None
page_written (Combine op a b) operand s = None
page_written (Skip a b) operand s = None

-- a read is a store read unless its page stands on the own list
abbrev pub unless_own : ℕ → Option ℕ → Option ℕ
unless_own p (Some w) = None
unless_own p None = Some p

abbrev pub from_store : List WriteEntry → Option ℕ → Option ℕ
from_store own None = None
from_store own (Some p) = unless_own p (written own p)

-- the page of the store read that the next step is, where it is one
abbrev pub store_read : Option Step → Stand → Option ℕ
store_read None s = None
store_read (Some st) s = from_store s.own (page_read st.action st.operand s)

-- the page that the next step writes, where it is a write
abbrev pub write_of : Option Step → Stand → Option ℕ
write_of None s = None
write_of (Some st) s = page_written st.action st.operand s

-- whether some recorded read names the page
abbrev pub has_read : List ReadEntry → ℕ → Bool
has_read rs p = list_any (λ r. r.page == p) rs

-- whether the page stands on the list
abbrev pub has_written : List WriteEntry → ℕ → Bool
has_written es p = list_any (λ e. e.page == p) es

-- whether some recorded read names a page of the list
abbrev pub has_read_any : List ReadEntry → List WriteEntry → Bool
has_read_any rs es = list_any (λ r. has_written es r.page) rs
