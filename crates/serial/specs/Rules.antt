-- The rules of the engine, as definitions that compute. Assumes nothing.
--
-- Up to eight slots hold transactions. Row t of the table has the shadows of slot t: place t is its leading shadow, and
-- place u its shadow for slot u, which guesses that u commits first.
use Rattle.std.specs.Prelude.{ℕ, suc, Bool, true, false, if◌then◌else◌, not, ◌&&◌, ◌||◌, List, [], ◌∷◌, ◌++◌, map, length, replicate, is_some, Some, None, Ok, Err, Option, Result, ◌==◌, nat_le, nat_lt, slice_index_or, slice_set}
use Rattle.std.specs.List.{slice_get}
use Rattle.std.specs.Option.{unwrap_or}
use Rattle.pages.specs.Pages.{fault_at}
use Rattle.pages.specs.declared.WriteEntry.{WriteEntry}
use Rattle.script.specs.declared.Register.TheVariants.{R0}
use Rattle.script.specs.Script.{decoded}
use Rattle.serial.specs.declared.ReadEntry.{ReadEntry}
use Rattle.serial.specs.declared.fault.CallFault.{CallFault}
use Rattle.serial.specs.declared.fault.CallFault.TheVariants.{NoSlot, BadAllowance, SlotsOpen, AlreadyOpen, Undecoded, NotOpen, NoShadow, OffPages, NotEnded, Unwritable}
use Rattle.serial.specs.declared.fault.Turned.TheVariants.{Moved, Ended, Waiting}
use Rattle.serial.specs.declared.fault.Standing.{Standing}
use Rattle.serial.specs.declared.fault.Standing.TheVariants.{AtEnd, Halted, Ready}
use Rattle.serial.specs.declared.fault.Accepted.{Accepted}
use Rattle.serial.specs.declared.fault.Accepted.TheVariants.{Allowed, Begun, Took, Committed, Aborted}
use Rattle.serial.specs.Faults.{Answer, step_fault}
use Rattle.serial.specs.Machine.{Meaning, Steps, Stand, start, holds, Taken, moved, off_pages, store_read, write_of, has_read, has_written, has_read_any}
use Rattle.serial.specs.Alone.{next, on_list, put_all}

abbrev pub Row : Type 0
Row = List (Option Stand)

-- the allowance, the script of each open slot, and the table of shadows
pub record Engine : Type 0 where
  pub allowance : ℕ
  pub scripts : List (Option Steps)
  pub shadows : List Row

-- the engine, and the pages of the store that it is called with
pub record State : Type 0 where
  pub engine : Engine
  pub pages : List ℕ

abbrev pub slots : List ℕ
slots = 0 ∷ 1 ∷ 2 ∷ 3 ∷ 4 ∷ 5 ∷ 6 ∷ 7 ∷ []

-- no shadow at all
abbrev pub no_shadows : Row
no_shadows = replicate 8 None

-- a fresh engine has allowance 2 and all slots closed
abbrev pub fresh_engine : Engine
fresh_engine = record { allowance = 2; scripts = replicate 8 None; shadows = replicate 8 no_shadows }

abbrev pub fresh : List ℕ → State
fresh pages = record { engine = fresh_engine; pages = pages }

abbrev pub script_of : Engine → ℕ → Option Steps
script_of e t = slice_index_or e.scripts t None

abbrev pub is_open : Engine → ℕ → Bool
is_open e t = is_some (script_of e t)

abbrev pub row : Engine → ℕ → Row
row e t = slice_index_or e.shadows t []

abbrev pub shadow : Engine → ℕ → ℕ → Option Stand
shadow e t u = slice_index_or (row e t) u None

abbrev pub with_shadow : Engine → ℕ → ℕ → Option Stand → Engine
with_shadow e t u x = record e { shadows = slice_set e.shadows t (slice_set (row e t) u x) }

-- what a shadow that may not be there has written, has read, and where it stands
abbrev pub own_of : Option Stand → List WriteEntry
own_of None = []
own_of (Some s) = s.own

abbrev pub reads_of : Option Stand → List ReadEntry
reads_of None = []
reads_of (Some s) = s.reads

abbrev pub place_of : Option Stand → ℕ
place_of None = 0
place_of (Some s) = s.step

-- what u's leading shadow has written
abbrev pub lead_writes : Engine → ℕ → List WriteEntry
lead_writes e u = own_of (shadow e u u)

-- a shadow is clean for u if none of its recorded reads names a page that u's leading shadow has written
abbrev pub clean : Engine → ℕ → Stand → Bool
clean e u s = not (has_read_any s.reads (lead_writes e u))

abbrev pub any_shadow : Stand → Bool
any_shadow s = true

-- a later one is better only at a strictly higher step
abbrev pub ahead : Stand → Option Stand → Bool
ahead s None = true
ahead s (Some best) = nat_lt best.step s.step

abbrev pub better : (Stand → Bool) → Option Stand → Option Stand → Option Stand
better test best None = best
better test best (Some s) = if test s && ahead s best then Some s else best

abbrev pub furthest : (Stand → Bool) → Option Stand → Row → Option Stand
furthest test best [] = best
furthest test best (c ∷ cs) = furthest test (better test best c) cs

-- the furthest of slot t's shadows that pass: the highest step; among equals the leading one, then the one for the
-- smallest slot
abbrev pub furthest_of : (Stand → Bool) → ℕ → Row → Option Stand
furthest_of test t shadows = furthest test None (slice_index_or shadows t None ∷ shadows)

abbrev pub count : Row → ℕ
count [] = 0
count (None ∷ cs) = count cs
count (Some s ∷ cs) = suc (count cs)

-- t has a shadow for u, or fewer than the allowance
abbrev pub has_room : Engine → ℕ → ℕ → Bool
has_room e t u = is_some (shadow e t u) || nat_lt (count (row e t)) e.allowance

-- to account for u, t's shadow for u becomes a copy of t's furthest shadow that is clean for u, else a start at step 0;
-- with no room for it nothing is done
abbrev pub account : Engine → ℕ → ℕ → Engine
account e t u =
    if has_room e t u then with_shadow e t u (Some (unwrap_or (furthest_of (clean e u) t (row e t)) start)) else e

-- before a store read of p by t's leading shadow: another open slot u that t has no shadow for, and whose leading shadow
-- has written p
abbrev pub read_conflict : Engine → ℕ → ℕ → ℕ → Bool
read_conflict e t p u =
    not (u == t) && (is_open e u && (not (is_some (shadow e t u)) && has_written (lead_writes e u) p))

abbrev pub account_read : Engine → ℕ → ℕ → ℕ → Engine
account_read e t p u = if read_conflict e t p u then account e t u else e

abbrev pub account_reads : Engine → ℕ → ℕ → List ℕ → Engine
account_reads e t p [] = e
account_reads e t p (u ∷ us) = account_reads (account_read e t p u) t p us

-- after a write of p by t's leading shadow: another open slot v whose leading shadow has read p, and that has no shadow
-- for t or one that has read p
abbrev pub write_conflict : Engine → ℕ → ℕ → ℕ → Bool
write_conflict e t p v =
    not (v == t) && (is_open e v && (has_read (reads_of (shadow e v v)) p
    && (not (is_some (shadow e v t)) || has_read (reads_of (shadow e v t)) p)))

abbrev pub account_write : Engine → ℕ → ℕ → ℕ → Engine
account_write e t p v = if write_conflict e t p v then account e v t else e

abbrev pub account_writes : Engine → ℕ → ℕ → List ℕ → Engine
account_writes e t p [] = e
account_writes e t p (v ∷ vs) = account_writes (account_write e t p v) t p vs

abbrev pub before_step : Engine → ℕ → Option ℕ → Engine
before_step e t None = e
before_step e t (Some p) = account_reads e t p slots

abbrev pub after_step : Engine → ℕ → Option ℕ → Engine
after_step e t None = e
after_step e t (Some p) = account_writes e t p slots

-- t's leading shadow moves from s to `to`, with the accounting before a store read and after a write
abbrev pub lead_moves : Engine → ℕ → Steps → Stand → Stand → Engine
lead_moves e t script s to =
    after_step (with_shadow (before_step e t (store_read (slice_get script s.step) s)) t t (Some to)) t (write_of (slice_get script s.step) s)

-- steps of the other shadows set off no rule
abbrev pub shadow_moves : Engine → ℕ → ℕ → Steps → Stand → Stand → Engine
shadow_moves e t u script s to = if u == t then lead_moves e t script s to else with_shadow e t u (Some to)

-- a shadow of t for u waits if it is at or past the step of t's leading shadow, or if its next step is a store read of a
-- page that u's leading shadow has written
abbrev pub waits : Engine → ℕ → ℕ → Steps → Stand → Bool
waits e t u script s =
    nat_le (place_of (shadow e t t)) s.step || on_list (lead_writes e u) (store_read (slice_get script s.step) s)

-- what a shadow's next turn finds
abbrev pub standing : Engine → ℕ → ℕ → Steps → Stand → Standing
standing e t u script s =
    if u == t then (if nat_le (length script) s.step then AtEnd else Ready) else (if waits e t u script s then Halted else Ready)

-- what a call does and answers
abbrev pub Done : Type 0
Done = State × Answer

-- A call makes its checks in order, and the first that fails gives its refusal. Where all pass there is the state after the
-- call, and what it answers.
abbrev pub Checked : Type 0 → Type 0
Checked X = Result X CallFault

-- what comes after a check
infixl 10 ◌>>=◌
abbrev pub ◌>>=◌ : {X Y : Type 0} → Checked X → (X → Checked Y) → Checked Y
(Ok x) >>= rest = rest x
(Err fault) >>= rest = Err fault

infixl 10 ◌>>◌
abbrev pub ◌>>◌ : {X Y : Type 0} → Checked X → Checked Y → Checked Y
(Ok x) >> rest = rest
(Err fault) >> rest = Err fault

-- a test has to be true; something has to be there; nothing may be there; a result has to be one
infix 20 check◌else◌
abbrev pub check◌else◌ : Bool → CallFault → Checked (Unit {0})
check true else fault = Ok tt
check false else fault = Err fault

infix 20 some◌else◌
abbrev pub some◌else◌ : {X : Type 0} → Option X → CallFault → Checked X
some (Some x) else fault = Ok x
some None else fault = Err fault

infix 20 none◌else◌
abbrev pub none◌else◌ : {X : Type 0} → Option X → (X → CallFault) → Checked (Unit {0})
none None else fault = Ok tt
none (Some x) else fault = Err (fault x)

infix 20 ok◌else◌
abbrev pub ok◌else◌ : {X E : Type 0} → Result X E → (E → CallFault) → Checked X
ok (Ok x) else fault = Ok x
ok (Err e) else fault = Err (fault e)

-- a refused call leaves the state as it was
abbrev pub called : State → Checked (State × Accepted) → Done
called s (Ok x) = (x.0, Ok x.1)
called s (Err fault) = (s, Err fault)

-- the lowest open slot, of those from n on
abbrev pub first_open : ℕ → List (Option Steps) → Option ℕ
first_open n [] = None
first_open n (None ∷ scripts) = first_open (suc n) scripts
first_open n (Some script ∷ scripts) = Some n

-- set allowance: k is 1 to 8, and no slot is open
abbrev pub allows : State → ℕ → Done
allows s k = called s do
  check (nat_le 1 k && nat_le k 8) else BadAllowance k
  none (first_open 0 s.engine.scripts) else SlotsOpen
  Ok (record s { engine = record s.engine { allowance = k } }, Allowed)

-- begin: the slot is closed and the bytes are a script; the slot opens with a leading shadow at step 0
abbrev pub begun : Engine → ℕ → Steps → Engine
begun e t script = with_shadow (record e { scripts = slice_set e.scripts t (Some script) }) t t (Some start)

abbrev pub begins : State → ℕ → List ℕ → Done
begins s t bytes = called s do
  check (nat_le t 7) else NoSlot t
  check (not (is_open s.engine t)) else AlreadyOpen t
  script ← ok (decoded bytes) else Undecoded
  Ok (record s { engine = begun s.engine t script }, Begun)

-- a step that is tried: to another stand, or for a page that the store does not have. In every engine a shadow that is able to
-- try a step is before its script's end, so that there is always one to take
abbrev pub tries : State → ℕ → ℕ → Steps → Stand → Option Taken → Checked (State × Accepted)
tries s t u script at None = Ok (s, Took Ended)
tries s t u script at (Some (off_pages p)) = Err (OffPages (step_fault t at.step (fault_at p)))
tries s t u script at (Some (moved to)) = Ok (record s { engine = shadow_moves s.engine t u script at to }, Took Moved)

-- a turn of a shadow, by what it finds
abbrev pub turns_at : Meaning → State → ℕ → ℕ → Steps → Stand → Standing → Checked (State × Accepted)
turns_at ar s t u script at AtEnd = Ok (s, Took Ended)
turns_at ar s t u script at Halted = Ok (s, Took Waiting)
turns_at ar s t u script at Ready = tries s t u script at (next ar script s.pages at)

-- turn: a leading shadow at its end has ended, a waiting shadow waits; else one step is taken
abbrev pub turns : Meaning → State → ℕ → ℕ → Done
turns ar s t u = called s do
  check (nat_le t 7) else NoSlot t
  check (nat_le u 7) else NoSlot u
  script ← some (script_of s.engine t) else NotOpen t
  at ← some (shadow s.engine t u) else NoShadow u
  turns_at ar s t u script at (standing s.engine t u script at)

-- closing t: its row goes, and every shadow for t
abbrev pub cleared : ℕ → Row → Row
cleared t shadows = slice_set shadows t None

abbrev pub without : List Row → ℕ → List Row
without rows t = slice_set (map (cleared t) rows) t no_shadows

abbrev pub closed : Engine → ℕ → List Row → Engine
closed e t rows = record e { scripts = slice_set e.scripts t None; shadows = without rows t }

-- a commit drops each shadow that has read a page just put
abbrev pub kept : List WriteEntry → Option Stand → Option Stand
kept own None = None
kept own (Some s) = if has_read_any s.reads own then None else Some s

abbrev pub remaining : List WriteEntry → Row → Row
remaining own shadows = map (kept own) shadows

-- a slot that loses its leading shadow so is spoiled
abbrev pub spoils : List WriteEntry → Option Stand → Bool
spoils own None = false
spoils own (Some lead) = has_read_any lead.reads own

-- a spoiled slot goes on from a copy of its furthest remaining shadow, else from a start at step 0
abbrev pub renewed : List WriteEntry → ℕ → Row → Row
renewed own v shadows =
    if spoils own (slice_index_or shadows v None)
    then slice_set (remaining own shadows) v (Some (unwrap_or (furthest_of any_shadow v (remaining own shadows)) start))
    else remaining own shadows

abbrev pub renew : List WriteEntry → ℕ → List Row → List Row
renew own v [] = []
renew own v (shadows ∷ rows) = renewed own v shadows ∷ renew own (suc v) rows

abbrev pub committed : Engine → ℕ → List WriteEntry → Engine
committed e t own = closed e t (renew own 0 e.shadows)

-- the first written page that is not below the size
abbrev pub first_off : ℕ → List WriteEntry → Option ℕ
first_off size [] = None
first_off size (w ∷ own) = if nat_lt w.page size then first_off size own else Some w.page

-- commit: the list of t's leading shadow, at its end, is put in its order, and t closes. (Every open slot has its leading
-- shadow)
abbrev pub commits : State → ℕ → Done
commits s t = called s do
  check (nat_le t 7) else NoSlot t
  script ← some (script_of s.engine t) else NotOpen t
  lead ← some (shadow s.engine t t) else NotOpen t
  check (nat_le (length script) lead.step) else NotEnded lead.step
  none (first_off (length s.pages) lead.own) else λ p. Unwritable t (fault_at p)
  Ok (record { engine = committed s.engine t lead.own; pages = put_all lead.own s.pages }, Committed (holds lead R0) (length lead.own))

-- abort: t closes, and no page changes
abbrev pub aborts : State → ℕ → Done
aborts s t = called s do
  check (nat_le t 7) else NoSlot t
  check (is_open s.engine t) else NotOpen t
  Ok (record s { engine = closed s.engine t s.engine.shadows }, Aborted)

-- the five calls, with their arguments
pub data Call : Type 0 where
  set_allowance : ℕ → Call
  begin : ℕ → List ℕ → Call
  turn : ℕ → ℕ → Call
  commit : ℕ → Call
  abort : ℕ → Call

-- what a call does and answers
abbrev pub does : Meaning → Call → State → Done
does ar (set_allowance k) s = allows s k
does ar (begin t bytes) s = begins s t bytes
does ar (turn t u) s = turns ar s t u
does ar (commit t) s = commits s t
does ar (abort t) s = aborts s t

-- the state after a list of calls, and what they answered
abbrev pub after : Meaning → List Call → State → State
after ar [] s = s
after ar (c ∷ cs) s = after ar cs (does ar c s).0

abbrev pub answers : Meaning → List Call → State → List Answer
answers ar [] s = []
answers ar (c ∷ cs) s = (does ar c s).1 ∷ answers ar cs (does ar c s).0

-- what an accepted commit puts: its slot's leading shadow's list; any other call puts nothing
abbrev pub list_put : Engine → Call → Answer → List WriteEntry
list_put e (commit t) (Ok (Committed r n)) = lead_writes e t
list_put e (commit t) (Err f) = []
list_put e (commit t) (Ok Allowed) = []
list_put e (commit t) (Ok Begun) = []
list_put e (commit t) (Ok (Took how)) = []
list_put e (commit t) (Ok Aborted) = []
list_put e (set_allowance k) a = []
list_put e (begin t bytes) a = []
list_put e (turn t u) a = []
list_put e (abort t) a = []

-- what a list of calls puts, in order
abbrev pub lists_put : Meaning → List Call → State → List WriteEntry
lists_put ar [] s = []
lists_put ar (c ∷ cs) s = list_put s.engine c (does ar c s).1 ++ lists_put ar cs (does ar c s).0
