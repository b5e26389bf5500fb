-- What a call comes to where its checks are known to pass, as an equation. Assumes nothing.
use Rattle.std.proofs.Common.{◌≡◌, ℕ, ◌<◌, ◌≤◌, Bool, true, false, cond, not, ◌&&◌, eqb, leb, List, length, is_some, Some, Ok, Option, Result, sym, refl, ap, ◌∙◌, ⊎_elim, arith}
use Rattle.std.proofs.lemmas.Bool.{cases_eq, cond-true, cond-false, and_from, or_parts, le-leb, leb-false, not_from_false, eq-eqb, ne_eqb}
use Rattle.pages.specs.Pages.{fault_at}
use Rattle.script.specs.Script.{decoded}
use Rattle.script.specs.declared.Register.TheVariants.{R0}
use Rattle.script.specs.declared.ScriptFault.{ScriptFault}
use Rattle.serial.specs.declared.fault.CallFault.TheVariants.{NoSlot, BadAllowance, SlotsOpen, AlreadyOpen, Undecoded, NotOpen, NoShadow, NotEnded, Unwritable}
use Rattle.serial.specs.declared.fault.Standing.TheVariants.{AtEnd, Halted, Ready}
use Rattle.serial.specs.declared.fault.Accepted.{Accepted}
use Rattle.serial.specs.declared.fault.Accepted.TheVariants.{Allowed, Begun, Committed, Aborted}
use Rattle.serial.specs.Machine.{Meaning, Steps, Stand, holds, Taken}
use Rattle.serial.specs.Alone.{next, put_all}
use Rattle.serial.specs.Rules.{Engine, State, Checked, ◌>>=◌, ◌>>◌, check◌else◌, some◌else◌, none◌else◌, ok◌else◌, called, script_of, is_open, shadow, place_of, waits, standing, first_open, allows, begun, begins, tries, turns_at, turns, closed, committed, first_off, commits, aborts}
use Rattle.serial.specs.Sound.{SoundEngine}
use Rattle.serial.proofs.Table.{some_is}
use Rattle.serial.proofs.Calls.{not_halted}
use Rattle.serial.proofs.Sound.{ok_from}

module _ (s : State) where
  -- a check that passes
  passed : (b : Bool) (rest : Bool → Checked (State × Accepted)) → b ≡ true → called s (rest b) ≡ called s (rest true)
  passed b rest h = ap (λ x. called s (rest x)) h

  slot_passed : (t : ℕ) (rest : Checked (State × Accepted)) → t ≤ 7 → called s ((check (leb t 7) else NoSlot t) >> rest) ≡ called s rest
  slot_passed t rest l = passed (leb t 7) (λ x. (check x else NoSlot t) >> rest) (le-leb t 7 l)

  -- set allowance
  abbrev allowed : ℕ → Checked (State × Accepted)
  allowed k = Ok (record s { engine = record s.engine { allowance = k } }, Allowed)

  pub allow_by : (k : ℕ) (o : Option ℕ) → 1 ≤ k → k ≤ 8 → first_open 0 s.engine.scripts ≡ o → allows s k ≡ called s ((none o else SlotsOpen) >> allowed k)
  allow_by k o a b h =
      passed (leb 1 k && leb k 8) (λ x. (check x else BadAllowance k) >> ((none (first_open 0 s.engine.scripts) else SlotsOpen) >> allowed k)) (and_from (leb 1 k) (leb k 8) (le-leb 1 k a) (le-leb k 8 b))
      ∙ ap (λ x. called s ((none x else SlotsOpen) >> allowed k)) h

  -- begin
  abbrev opened : ℕ → Steps → Checked (State × Accepted)
  opened t sc = Ok (record s { engine = begun s.engine t sc }, Begun)

  pub begin_by : (t : ℕ) (bytes : List ℕ) (r : Result Steps ScriptFault) → t ≤ 7 → is_open s.engine t ≡ false → decoded bytes ≡ r → begins s t bytes ≡ called s ((ok r else Undecoded) >>= opened t)
  begin_by t bytes r l h d =
      slot_passed t ((check (not (is_open s.engine t)) else AlreadyOpen t) >> ((ok (decoded bytes) else Undecoded) >>= opened t)) l
      ∙ passed (not (is_open s.engine t)) (λ x. (check x else AlreadyOpen t) >> ((ok (decoded bytes) else Undecoded) >>= opened t)) (not_from_false (is_open s.engine t) h)
      ∙ ap (λ x. called s ((ok x else Undecoded) >>= opened t)) d

  -- turn
  module _ (ar : Meaning) (t u : ℕ) where
    abbrev found : Steps → Stand → Checked (State × Accepted)
    found sc at = turns_at ar s t u sc at (standing s.engine t u sc at)

    abbrev of_shadow : Steps → Option Stand → Checked (State × Accepted)
    of_shadow sc o = (some o else NoShadow u) >>= found sc

    pub turn_by_step : (sc : Steps) (at : Stand) (x : Option Taken) → t ≤ 7 → u ≤ 7 → script_of s.engine t ≡ Some sc → shadow s.engine t u ≡ Some at → standing s.engine t u sc at ≡ Ready → next ar sc s.pages at ≡ x → turns ar s t u ≡ called s (tries s t u sc at x)
    turn_by_step sc at x l k h q w n =
        slot_passed t ((check (leb u 7) else NoSlot u) >> ((some (script_of s.engine t) else NotOpen t) >>= λ y. of_shadow y (shadow s.engine t u))) l
        ∙ slot_passed u ((some (script_of s.engine t) else NotOpen t) >>= λ y. of_shadow y (shadow s.engine t u)) k
        ∙ ap (λ o. called s ((some o else NotOpen t) >>= λ y. of_shadow y (shadow s.engine t u))) h
        ∙ ap (λ o. called s (of_shadow sc o)) q
        ∙ ap (λ z. called s (turns_at ar s t u sc at z)) w
        ∙ ap (λ z. called s (tries s t u sc at z)) n

  -- commit
  module _ (t : ℕ) where
    abbrev put : Stand → Option ℕ → Checked (State × Accepted)
    put lead o =
        (none o else λ p. Unwritable t (fault_at p))
        >> Ok (record { engine = committed s.engine t lead.own; pages = put_all lead.own s.pages }, Committed (holds lead R0) (length lead.own))

    abbrev of_lead : Steps → Stand → Checked (State × Accepted)
    of_lead sc lead = (check (leb (length sc) lead.step) else NotEnded lead.step) >> put lead (first_off (length s.pages) lead.own)

    pub commit_by_puts : (sc : Steps) (lead : Stand) (o : Option ℕ) → t ≤ 7 → script_of s.engine t ≡ Some sc → shadow s.engine t t ≡ Some lead → length sc ≤ lead.step → first_off (length s.pages) lead.own ≡ o → commits s t ≡ called s (put lead o)
    commit_by_puts sc lead o l h q k f =
        slot_passed t ((some (script_of s.engine t) else NotOpen t) >>= λ y. (some (shadow s.engine t t) else NotOpen t) >>= of_lead y) l
        ∙ ap (λ x. called s ((some x else NotOpen t) >>= λ y. (some (shadow s.engine t t) else NotOpen t) >>= of_lead y)) h
        ∙ ap (λ x. called s ((some x else NotOpen t) >>= of_lead sc)) q
        ∙ passed (leb (length sc) lead.step) (λ x. (check x else NotEnded lead.step) >> put lead (first_off (length s.pages) lead.own)) (le-leb (length sc) lead.step k)
        ∙ ap (λ x. called s (put lead x)) f

    -- abort
    pub abort_by : t ≤ 7 → is_open s.engine t ≡ true → aborts s t ≡ (record s { engine = closed s.engine t s.engine.shadows }, Ok Aborted)
    abort_by l h =
        slot_passed t ((check (is_open s.engine t) else NotOpen t) >> Ok (record s { engine = closed s.engine t s.engine.shadows }, Aborted)) l
        ∙ passed (is_open s.engine t) (λ x. (check x else NotOpen t) >> Ok (record s { engine = closed s.engine t s.engine.shadows }, Aborted)) h

-- a shadow that is able to try a step is before its script's end, in every engine
pub ready_before_end : (e : Engine) → SoundEngine e → (t u : ℕ) (sc : Steps) (at : Stand) → script_of e t ≡ Some sc → shadow e t u ≡ Some at → standing e t u sc at ≡ Ready → at.step < length sc
ready_before_end e sound t u sc at script h ready =
    let o = ok_from e sound in
    ⊎_elim
    (λ (q : u ≡ t).
    let w : cond (leb (length sc) at.step) AtEnd Ready ≡ Ready = sym (cond-true (eqb u t) (cond (leb (length sc) at.step) AtEnd Ready) (cond (waits e t u sc at) Halted Ready) (eq-eqb u t q)) ∙ ready in
    leb-false (length sc) at.step (not_end (leb (length sc) at.step) w))
    (λ (q : u ≡ t → ⊥).
    let w : cond (waits e t u sc at) Halted Ready ≡ Ready = sym (cond-false (eqb u t) (cond (leb (length sc) at.step) AtEnd Ready) (cond (waits e t u sc at) Halted Ready) (ne_eqb u t q)) ∙ ready in
    let lead = some_is (shadow e t t) (o.led t (ap is_some script)) in
    let low = leb-false (place_of (shadow e t t)) at.step (or_parts (leb (place_of (shadow e t t)) at.step) _ (not_halted (waits e t u sc at) w)).0 in
    let z : place_of (shadow e t t) ≡ lead.0.step = ap place_of lead.1 in
    let far = (o.shadows t t sc lead.0 script lead.1).0 in
    omega arith)
    (cases_eq u t)
  where
    not_end : (b : Bool) → cond b AtEnd Ready ≡ Ready → b ≡ false
    not_end true h = let z : ◌≡◌ {A = ℕ} 0 1 = cc in absurd (omega arith)
    not_end false h = refl
