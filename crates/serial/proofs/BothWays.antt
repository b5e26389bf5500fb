-- What a call comes to in words is what the rules make of it, and nothing else is. Assumes nothing.
use Rattle.std.proofs.Common.{◌≡◌, ℕ, zero, suc, ◌<◌, ◌≤◌, true, false, cond, eqb, leb, ◌≢◌, ◌⊎◌, ◌↔◌, List, [], ◌∷◌, ◌++◌, map, length, get_or, is_some, Some, None, Ok, Err, Option, Result, sym, refl, ap, ◌∙◌, subst, inl, inr, ⊎_elim, arith}
use Rattle.std.specs.List.{slice_get}
use Rattle.std.proofs.lemmas.Option.{slice_get_cases, slice_get_past}
use Rattle.std.proofs.lemmas.Bool.{cond_both, or_cases, or_left, or_right, leb-true, leb-false, le-leb, eqb-true, eqb-false, both_ways, true≢false}
use Rattle.pages.specs.Pages.{fault_at}
use Rattle.pages.specs.declared.StoreFault.{StoreFault}
use Rattle.pages.specs.declared.WriteEntry.{WriteEntry}
use Rattle.script.specs.declared.Register.TheVariants.{R0}
use Rattle.script.specs.declared.ScriptFault.{ScriptFault}
use Rattle.script.specs.declared.Step.{Step}
use Rattle.serial.specs.declared.ReadEntry.{ReadEntry}
use Rattle.serial.specs.declared.fault.Turned.TheVariants.{Moved, Ended, Waiting}
use Rattle.serial.specs.declared.fault.Standing.{Standing}
use Rattle.serial.specs.declared.fault.Standing.TheVariants.{AtEnd, Halted, Ready}
use Rattle.serial.specs.declared.fault.Accepted.{Accepted}
use Rattle.serial.specs.declared.fault.Accepted.TheVariants.{Allowed, Begun, Took, Committed, Aborted}
use Rattle.serial.specs.declared.fault.StepFault.{StepFault}
use Rattle.serial.specs.declared.fault.CallFault.{CallFault}
use Rattle.serial.specs.declared.fault.CallFault.TheVariants.{NoSlot, BadAllowance, SlotsOpen, AlreadyOpen, Undecoded, NotOpen, NoShadow, OffPages, NotEnded, Unwritable}
use Rattle.serial.specs.Faults.{step_fault, call_cause}
use Rattle.serial.specs.Machine.{Meaning, Steps, Stand, holds, moved, off_pages, takes, store_read, has_written}
use Rattle.serial.specs.Alone.{next, try_step, on_list, put_all}
use Rattle.serial.specs.Rules.{Engine, State, Done, script_of, is_open, shadow, place_of, lead_writes, waits, standing, allows, begins, shadow_moves, turns, commits, aborts, Call, set_allowance, begin, turn, commit, abort, does, after, answers}
use Rattle.serial.specs.Questions.{of_shadow, of_open, asked, stand_told, entry_told}
use Rattle.serial.specs.Sound.{SoundEngine}
use Rattle.serial.specs.Words.{Waits, Finds, ShadowMoves, TurnAccepted, Commits, Opens, Accepts}
use Rattle.serial.specs.Refused.{Asked, made, question, named, FirstNotBelow, StepOff, BeforeEnd, ListOff, Fits, LeastFits, NoneFits}
use Rattle.serial.specs.Outcome.{Outcome, OneOutcome, DeclinedExactly, AcceptedExactly, OneRun, AnswersQuestion, EntryAt, StandInWords, ReadEntryInWords}
use Rattle.serial.proofs.Table.{none_is_some, some_is}
use Rattle.serial.proofs.Calls.{none_open}
use Rattle.serial.proofs.Opened.{allows-opened, begins-opened, turns-opened, turn-found, commits-opened, aborts-opened}
use Rattle.serial.proofs.Outcomes.{ready_before_end}
use Rattle.serial.proofs.Sound.{ok_from, sound_from, Holds, does-sound}
use Rattle.serial.proofs.Relations.{moves-one, commits-one, aborts-one, opens-one, allows-one}
use Rattle.serial.proofs.Words.{moves_so, commits_so, aborts_so, opens_so}
use Rattle.serial.proofs.Missing.{off_touches, touches_off}
use Rattle.serial.proofs.Refused.{cause_low, off_first, none_off, first_open_lowest, lowest-one, slot_least, allow_fits, begin_fits, turn_fits, commit_fits, abort_fits, question_fits, one_in, both_in, step_off-one, before_end-one, list_off-one}

-- what a shadow's next turn finds is one thing
finds-one : (e : Engine) (t u : ℕ) (sc : Steps) (s : Stand) (x y : Standing) → Finds e t u sc s x → Finds e t u sc s y → x ≡ y
finds-one e t u sc s AtEnd AtEnd a b = refl
finds-one e t u sc s AtEnd Halted a b = absurd (b.0 a.0)
finds-one e t u sc s AtEnd Ready a b = let l = b.0 a.0 in let k = a.1 in absurd (omega arith)
finds-one e t u sc s Halted AtEnd a b = absurd (a.0 b.0)
finds-one e t u sc s Halted Halted a b = refl
finds-one e t u sc s Halted Ready a b = absurd (b.1 a.0 a.1)
finds-one e t u sc s Ready AtEnd a b = let l = a.0 b.0 in let k = b.1 in absurd (omega arith)
finds-one e t u sc s Ready Halted a b = absurd (a.1 b.0 b.1)
finds-one e t u sc s Ready Ready a b = refl

-- the rule's test of waiting is waiting
on_page : (es : List WriteEntry) (o : Option ℕ) → on_list es o ≡ true → (p : ℕ) × (o ≡ Some p) × (has_written es p ≡ true)
on_page es None h = absurd (true≢false (sym h))
on_page es (Some p) h = (p, refl, h)

waits_so : (e : Engine) (t u : ℕ) (sc : Steps) (s lead : Stand) → shadow e t t ≡ Some lead → waits e t u sc s ≡ true → Waits e t u sc s
waits_so e t u sc s lead h w =
    ⊎_elim
    (λ (l : leb (place_of (shadow e t t)) s.step ≡ true). inl (lead, h, leb-true lead.step s.step (ap (λ o. leb (place_of o) s.step) (sym h) ∙ l)))
    (λ (l : on_list (lead_writes e u) (store_read (slice_get sc s.step) s) ≡ true). inr (on_page (lead_writes e u) (store_read (slice_get sc s.step) s) l))
    (or_cases (leb (place_of (shadow e t t)) s.step) (on_list (lead_writes e u) (store_read (slice_get sc s.step) s)) w)

so_waits : (e : Engine) (t u : ℕ) (sc : Steps) (s : Stand) → Waits e t u sc s → waits e t u sc s ≡ true
so_waits e t u sc s w =
    ⊎_elim
    (λ (l : (lead : Stand) × (shadow e t t ≡ Some lead) × (lead.step ≤ s.step)). or_left (leb (place_of (shadow e t t)) s.step) _ (ap (λ o. leb (place_of o) s.step) l.1 ∙ le-leb l.0.step s.step l.2))
    (λ (l : (p : ℕ) × (store_read (slice_get sc s.step) s ≡ Some p) × (has_written (lead_writes e u) p ≡ true)). or_right (leb (place_of (shadow e t t)) s.step) _ (ap (on_list (lead_writes e u)) l.1 ∙ l.2))
    w

module _ (e : Engine) (o : Holds e) (t u : ℕ) (sc : Steps) (s : Stand) (script : script_of e t ≡ Some sc) where
  pub finds_standing : Finds e t u sc s (standing e t u sc s)
  finds_standing =
      let lead = some_is (shadow e t t) (o.led t (ap is_some script)) in
      cond_both (eqb u t) (cond (leb (length sc) s.step) AtEnd Ready) (cond (waits e t u sc s) Halted Ready) (Finds e t u sc s)
      (λ q. let same = eqb-true u t q in cond_both (leb (length sc) s.step) AtEnd Ready (Finds e t u sc s) (λ l. (same, leb-true (length sc) s.step l)) (λ l. (λ _. leb-false (length sc) s.step l, λ ne. absurd (ne same))))
      (λ q. let ne = eqb-false u t q in cond_both (waits e t u sc s) Halted Ready (Finds e t u sc s) (λ w. (ne, waits_so e t u sc s lead.0 lead.1 w)) (λ w. (λ z. absurd (ne z), λ _ z. both_ways (waits e t u sc s) w (so_waits e t u sc s z))))

-- equal engines, pages and answers
done_with : (d d' : Done) → d.0.engine ≡ d'.0.engine → d.0.pages ≡ d'.0.pages → d.1 ≡ d'.1 → d ≡ d'
done_with d d' e p a =
    let one : Done = (record { engine = d'.0.engine; pages = d.0.pages }, d.1) in
    let first : d ≡ one = ap (λ x. let y : Done = (record { engine = x; pages = d.0.pages }, d.1) in y) e in
    first
    ∙ ap (λ x. let y : Done = (record { engine = d'.0.engine; pages = x }, d.1) in y) p
    ∙ ap (λ x. let y : Done = (d'.0, x) in y) a

module _ (ar : Meaning) (s : State) (o : Holds s.engine) where
  -- an accepted turn, by what it finds
  abbrev TurnsAt : ℕ → ℕ → Steps → Stand → Done → Type 0
  TurnsAt t u sc at d =
      (Finds s.engine t u sc at AtEnd → d ≡ (s, Ok (Took Ended)))
      × (Finds s.engine t u sc at Halted → d ≡ (s, Ok (Took Waiting)))
      × (Finds s.engine t u sc at Ready
      → (to : Stand) × (next ar sc s.pages at ≡ Some (moved to)) × ShadowMoves s.engine t u sc at to d.0.engine × (d.0.pages ≡ s.pages) × (d.1 ≡ Ok (Took Moved)))

  turns_at : (t u : ℕ) (d : Done) (x : TurnAccepted ar s t u d) (sc : Steps) (at : Stand) → script_of s.engine t ≡ Some sc → shadow s.engine t u ≡ Some at → TurnsAt t u sc at d
  turns_at t u d x sc at script stands =
      let scripts : Some x.script ≡ Some sc = sym x.runs ∙ script in
      let ats : Some x.at ≡ Some at = sym x.stands ∙ stands in
      let same : x.script ≡ sc = cc in
      let same_at : x.at ≡ at = cc in
      subst (λ z. TurnsAt t u sc z d) same_at (subst (λ z. TurnsAt t u z x.at d) same (x.ended, x.waiting, x.moves))

  turns-one : (t u : ℕ) (d d' : Done) → TurnAccepted ar s t u d → TurnAccepted ar s t u d' → d ≡ d'
  turns-one t u d d' x y = by (standing s.engine t u x.script x.at) (finds_standing s.engine o t u x.script x.at x.runs)
    where
      by : (how : Standing) → Finds s.engine t u x.script x.at how → d ≡ d'
      by AtEnd f = x.ended f ∙ sym ((turns_at t u d' y x.script x.at x.runs x.stands).0 f)
      by Halted f = x.waiting f ∙ sym ((turns_at t u d' y x.script x.at x.runs x.stands).1 f)
      by Ready f =
          let a = x.moves f in
          let b = (turns_at t u d' y x.script x.at x.runs x.stands).2 f in
          let tos : Some (moved a.0) ≡ Some (moved b.0) = sym a.1 ∙ b.1 in
          let to : a.0 ≡ b.0 = cc in
          done_with d d' (moves-one s.engine t u x.script x.at b.0 d.0.engine d'.0.engine (subst (λ z. ShadowMoves s.engine t u x.script x.at z d.0.engine) to a.2) b.2) (a.3 ∙ sym b.3) (a.4 ∙ sym b.4)

  -- two accepted outcomes are the same
  accepts-one : (c : Call) (d d' : Done) → Accepts ar c s d → Accepts ar c s d' → d ≡ d'
  accepts-one (set_allowance k) d d' x y = done_with d d' (allows-one s.engine k d.0.engine d'.0.engine x.0 y.0) (x.1 ∙ sym y.1) (x.2 ∙ sym y.2)
  accepts-one (begin t bytes) d d' x y =
      let scripts : Ok x.0 ≡ Ok y.0 = sym x.1 ∙ y.1 in
      let same : x.0 ≡ y.0 = cc in
      done_with d d' (opens-one s.engine t y.0 d.0.engine d'.0.engine (subst (λ z. Opens s.engine t z d.0.engine) same x.2) y.2) (x.3 ∙ sym y.3) (x.4 ∙ sym y.4)
  accepts-one (turn t u) d d' x y = turns-one t u d d' x y
  accepts-one (commit t) d d' x y =
      let leads : Some x.0 ≡ Some y.0 = sym x.1 ∙ y.1 in
      let same : x.0 ≡ y.0 = cc in
      done_with d d' (commits-one s.engine t y.0.own d.0.engine d'.0.engine (subst (λ z. Commits s.engine t z.own d.0.engine) same x.2) y.2)
      (x.3 ∙ ap (λ z. put_all z.own s.pages) same ∙ sym y.3) (x.4 ∙ ap (λ z. Ok (Committed (holds z R0) (length z.own))) same ∙ sym y.4)
  accepts-one (abort t) d d' x y = done_with d d' (aborts-one s.engine t d.0.engine d'.0.engine x.0 y.0) (x.1 ∙ sym y.1) (x.2 ∙ sym y.2)

  least-one : (a : Asked) (f g : CallFault) → LeastFits a s f → LeastFits a s g → f ≡ g
  least-one a f g x y =
      ⊎_elim
      (λ (h : g ≡ f). sym h)
      (λ (h : call_cause f < call_cause g). ⊎_elim (λ (k : f ≡ g). k) (λ (k : call_cause g < call_cause f). absurd (omega arith)) (y.1 f x.0))
      (x.1 g y.0)

  outcome-one : (c : Call) (d d' : Done) → Outcome ar c s d → Outcome ar c s d' → d ≡ d'
  outcome-one c d d' x y =
      ⊎_elim
      (λ (a : NoneFits (made c) s × Accepts ar c s d). ⊎_elim
      (λ (b : NoneFits (made c) s × Accepts ar c s d'). accepts-one c d d' a.1 b.1)
      (λ (b : (f : CallFault) × LeastFits (made c) s f × (d' ≡ (s, Err f))). absurd (a.0 b.0 b.1.0))
      y)
      (λ (a : (f : CallFault) × LeastFits (made c) s f × (d ≡ (s, Err f))). ⊎_elim
      (λ (b : NoneFits (made c) s × Accepts ar c s d'). absurd (b.0 a.0 a.1.0))
      (λ (b : (f : CallFault) × LeastFits (made c) s f × (d' ≡ (s, Err f))). a.2 ∙ ap (λ f. let z : Done = (s, Err f) in z) (least-one (made c) a.0 b.0 a.1 b.1) ∙ sym b.2)
      y)
      x

  -- what is declined with the least refusal that fits has its outcome
  declined : (c : Call) (f : CallFault) → LeastFits (made c) s f → Outcome ar c s (s, Err f)
  declined c f h = inr (f, h, refl)

  no_slot : (c : Call) (n : ℕ) → FirstNotBelow 8 (named (made c)) n → Outcome ar c s (s, Err (NoSlot n))
  no_slot c n h = declined c (NoSlot n) (slot_least s (made c) n h)

  allow_outcome : (k : ℕ) → Outcome ar (set_allowance k) s (allows s k)
  allow_outcome k =
      allows-opened s (Outcome ar (set_allowance k) s) k
      (λ bad. declined (set_allowance k) (BadAllowance k) ((refl, bad), λ g h. allow_fits s (λ g. (g ≡ BadAllowance k) ⊎ (2 < call_cause g)) k (λ _. inl refl) (λ t _. inr (omega arith)) g h))
      (λ t a b h.
      let low = first_open_lowest s.engine t h in
      declined (set_allowance k) (SlotsOpen t) ((k, refl, low), λ g z. allow_fits s (λ g. (g ≡ SlotsOpen t) ⊎ (3 < call_cause g)) k (λ bad. not_bad a b bad) (λ v other. inl (ap SlotsOpen (lowest-one s.engine v t other low))) g z))
      (λ a b h. inl (
        λ g z. allow_fits s (λ g. ⊥) k (λ bad. not_bad a b bad) (λ t low. true≢false (sym low.0 ∙ ap is_some (none_open ar 0 s.engine.scripts h t))) g z,
        (record { allowance = refl; scripts = refl; shadows = refl }, refl, refl),
      ))
    where
      not_bad : {A : Type 0} → 1 ≤ k → k ≤ 8 → (k < 1) ⊎ (8 < k) → A
      not_bad a b h = ⊎_elim (λ (l : k < 1). absurd (omega arith)) (λ (l : 8 < k). absurd (omega arith)) h

  begin_outcome : (t : ℕ) (bytes : List ℕ) → Outcome ar (begin t bytes) s (begins s t bytes)
  begin_outcome t bytes =
      begins-opened s (Outcome ar (begin t bytes) s) t bytes
      (λ l. no_slot (begin t bytes) t (inl (l, refl)))
      (λ l full. declined (begin t bytes) (AlreadyOpen t) ((bytes, refl, full), λ g h. begin_fits s (λ g. (g ≡ AlreadyOpen t) ⊎ (4 < call_cause g)) t bytes (λ n f. absurd (one_in s t n l f)) (λ _. inl refl) (λ f _. inr (after_four f)) g h))
      (λ l shut f h. declined (begin t bytes) (Undecoded f) (
        (t, bytes, refl, h),
        λ g z. begin_fits s (λ g. (g ≡ Undecoded f) ⊎ (call_cause (Undecoded f) < call_cause g)) t bytes (λ n x. absurd (one_in s t n l x)) (λ full. absurd (both_ways (is_open s.engine t) shut full))
            (λ g k. let m : Err f ≡ Err g = sym h ∙ k in let same : f ≡ g = cc in inl (ap Undecoded (sym same))) g z,
      ))
      (λ l shut sc h. inl (
        λ g z. begin_fits s (λ g. ⊥) t bytes (λ n x. one_in s t n l x) (λ full. both_ways (is_open s.engine t) shut full) (λ g k. let m : Ok sc ≡ Err g = sym h ∙ k in let no : ◌≡◌ {A = ℕ} 0 1 = cc in omega arith) g z,
        (sc, h, opens_so s.engine o t l sc, refl, refl),
      ))
    where
      after_four : (f : ScriptFault) → 4 < call_cause (Undecoded f)
      after_four f = (cause_low f).0

  -- a turn of a shadow that is there
  module _ (t u : ℕ) (l : t < 8) (k : u < 8) (sc : Steps) (at : Stand) (script : script_of s.engine t ≡ Some sc) (stands : shadow s.engine t u ≡ Some at) where
    -- of all refusals only a step for a missing page is left
    turn_left : (P : CallFault → Type 0) → ((f : StepFault) → StepOff s t u f → P (OffPages f)) → (g : CallFault) → Fits (made (turn t u)) s g → P g
    turn_left P h g z = turn_fits s P t u (λ n x. absurd (both_in s t u n l k x)) (λ x. absurd (both_ways (is_open s.engine t) x (ap is_some script))) (λ x. none_is_some at (sym x ∙ stands)) h g z

    -- one that is off is ready, and its step leads off
    off_there : (f : StepFault) (x : StepOff s t u f) → Finds s.engine t u sc at Ready × (next ar sc s.pages at ≡ Some (off_pages x.page))
    off_there f x =
        let scripts : Some x.script ≡ Some sc = sym x.runs ∙ script in
        let ats : Some x.at ≡ Some at = sym x.stands ∙ stands in
        let same : x.script ≡ sc = cc in
        let same_at : x.at ≡ at = cc in (
          subst (λ z. Finds s.engine t u sc z Ready) same_at (subst (λ z. Finds s.engine t u z x.at Ready) same x.ready),
          subst (λ z. next ar sc s.pages z ≡ Some (off_pages x.page)) same_at (subst (λ z. next ar z s.pages x.at ≡ Some (off_pages x.page)) same (touches_off s.pages x.at ar (slice_get x.script x.at.step) x.page x.touches x.off)),
        )

    -- it finds what the rule says
    found : (how : Standing) → standing s.engine t u sc at ≡ how → Finds s.engine t u sc at how
    found how h = subst (Finds s.engine t u sc at) h (finds_standing s.engine o t u sc at script)

    still_outcome : (how : Standing) (d : Done) → standing s.engine t u sc at ≡ how → how ≢ Ready → (how ≡ AtEnd → d ≡ (s, Ok (Took Ended))) → (how ≡ Halted → d ≡ (s, Ok (Took Waiting))) → Outcome ar (turn t u) s d
    still_outcome how d h ne ended waiting =
        let f = found how h in
        inl (
          turn_left (λ g. ⊥) (λ g x. ne (finds-one s.engine t u sc at how Ready f (off_there g x).0)),
          record {
            script = sc;
            at = at;
            runs = script;
            stands = stands;
            ended = λ z. ended (finds-one s.engine t u sc at how AtEnd f z);
            waiting = λ z. waiting (finds-one s.engine t u sc at how Halted f z);
            moves = λ z. absurd (ne (finds-one s.engine t u sc at how Ready f z));
          },
        )

    -- one that is able to try a step has one
    has_step : {A : Type 0} → standing s.engine t u sc at ≡ Ready → next ar sc s.pages at ≡ None → A
    has_step ready h =
        let before = ready_before_end s.engine (sound_from s.engine o) t u sc at script stands ready in
        ⊎_elim
        (λ (x : (st : Step) × (at.step < length sc) × (slice_get sc at.step ≡ Some st) × (get_or sc at.step st ≡ st)). none_is_some (takes ar s.pages x.0 at) (sym h ∙ ap (try_step ar s.pages at) x.2))
        (λ (x : (length sc ≤ at.step) × (slice_get sc at.step ≡ None)). let far = x.0 in absurd (omega arith))
        (slice_get_cases sc at.step).1

    off_outcome : standing s.engine t u sc at ≡ Ready → (p : ℕ) → next ar sc s.pages at ≡ Some (off_pages p) → Outcome ar (turn t u) s (s, Err (OffPages (step_fault t at.step (fault_at p))))
    off_outcome ready p h =
        let lacks = off_touches s.pages at ar (slice_get sc at.step) p h in
        let here : StepOff s t u (step_fault t at.step (fault_at p)) = record { script = sc; at = at; page = p; runs = script; stands = stands; ready = found Ready ready; touches = lacks.0; off = lacks.1; told = refl } in
        declined (turn t u) (OffPages (step_fault t at.step (fault_at p))) ((t, u, refl, here), turn_left (λ g. (g ≡ OffPages (step_fault t at.step (fault_at p))) ⊎ (9 < call_cause g)) (λ g x. inl (ap OffPages (step_off-one s t u _ g here x))))

    moved_outcome : standing s.engine t u sc at ≡ Ready → (to : Stand) → next ar sc s.pages at ≡ Some (moved to) → Outcome ar (turn t u) s (record s { engine = shadow_moves s.engine t u sc at to }, Ok (Took Moved))
    moved_outcome ready to h =
        let f = found Ready ready in
        inl (
          turn_left (λ g. ⊥) (λ g x. let m : Some (moved to) ≡ Some (off_pages x.page) = sym h ∙ (off_there g x).1 in let no : ◌≡◌ {A = ℕ} 0 1 = cc in omega arith),
          record {
            script = sc;
            at = at;
            runs = script;
            stands = stands;
            ended = λ z. let q = finds-one s.engine t u sc at Ready AtEnd f z in let no : ◌≡◌ {A = ℕ} 0 1 = cc in absurd (omega arith);
            waiting = λ z. let q = finds-one s.engine t u sc at Ready Halted f z in let no : ◌≡◌ {A = ℕ} 0 1 = cc in absurd (omega arith);
            moves = λ z. (to, h, moves_so ar s o t u sc at to script stands h, refl, refl);
          },
        )

  turn_outcome : (t u : ℕ) → Outcome ar (turn t u) s (turns ar s t u)
  turn_outcome t u =
      turns-opened s (Outcome ar (turn t u) s) ar t u
      (λ l. no_slot (turn t u) t (inl (l, refl)))
      (λ l k. no_slot (turn t u) u (inr (l, inl (k, refl))))
      (λ l k h. declined (turn t u) (NotOpen t) ((refl, ap is_some h), λ g z. turn_fits s (λ g. (g ≡ NotOpen t) ⊎ (7 < call_cause g)) t u (λ n x. absurd (both_in s t u n l k x)) (λ _. inl refl) (λ _. inr (omega arith)) (λ f _. inr (omega arith)) g z))
      (λ l k sc script h. declined (turn t u) (NoShadow u) ((t, refl, h), λ g z. turn_fits s (λ g. (g ≡ NoShadow u) ⊎ (8 < call_cause g)) t u (λ n x. absurd (both_in s t u n l k x)) (λ x. absurd (both_ways (is_open s.engine t) x (ap is_some script))) (λ _. inl refl) (λ f _. inr (omega arith)) g z))
      (λ l k sc script at h. turn-found s (Outcome ar (turn t u) s) ar t u sc at
      (λ e. still_outcome t u l k sc at script h AtEnd (s, Ok (Took Ended)) e (λ q. let no : ◌≡◌ {A = ℕ} 0 1 = cc in omega arith) (λ q. refl) (λ q. let no : ◌≡◌ {A = ℕ} 0 1 = cc in absurd (omega arith)))
      (λ e. still_outcome t u l k sc at script h Halted (s, Ok (Took Waiting)) e (λ q. let no : ◌≡◌ {A = ℕ} 0 1 = cc in omega arith) (λ q. let no : ◌≡◌ {A = ℕ} 0 1 = cc in absurd (omega arith)) (λ q. refl))
      (λ ready q. has_step t u l k sc at script h ready q)
      (off_outcome t u l k sc at script h)
      (moved_outcome t u l k sc at script h))

  -- a commit of a slot whose leading shadow is at its end
  commit_left : (t : ℕ) → t < 8 → (sc : Steps) (lead : Stand) → script_of s.engine t ≡ Some sc → shadow s.engine t t ≡ Some lead → length sc ≤ lead.step → (P : CallFault → Type 0) → ((f : StoreFault) → ListOff s t f → P (Unwritable t f)) → (g : CallFault) → Fits (made (commit t)) s g → P g
  commit_left t l sc lead script leads far P f g z = commit_fits s P t (λ n q. absurd (one_in s t n l q)) (λ q. absurd (both_ways (is_open s.engine t) q (ap is_some script))) (λ n b. not_early n b) f g z
    where
      not_early : {A : Type 0} (n : ℕ) → BeforeEnd s t n → A
      not_early n b =
          let scripts : Some b.script ≡ Some sc = sym b.runs ∙ script in
          let stands : Some b.lead ≡ Some lead = sym b.leads ∙ leads in
          let same : b.script ≡ sc = cc in
          let same_at : b.lead ≡ lead = cc in
          let before : lead.step < length sc = subst (λ z. lead.step < length z) same (subst (λ z. z.step < length b.script) same_at b.before) in
          absurd (omega arith)

  commit_outcome : (t : ℕ) → Outcome ar (commit t) s (commits s t)
  commit_outcome t =
      commits-opened s (Outcome ar (commit t) s) t
      (λ l. no_slot (commit t) t (inl (l, refl)))
      (λ l h. shut l (ap is_some h))
      (λ l sc script none_leads. absurd (true≢false (sym (o.led t (ap is_some script)) ∙ ap is_some none_leads)))
      (λ l sc script lead leads early.
      let here : BeforeEnd s t lead.step = record { script = sc; lead = lead; runs = script; leads = leads; before = early; told = refl } in
      declined (commit t) (NotEnded lead.step) ((t, refl, here), λ g z. commit_fits s (λ g. (g ≡ NotEnded lead.step) ⊎ (10 < call_cause g)) t (λ n q. absurd (one_in s t n l q)) (λ q. absurd (both_ways (is_open s.engine t) q (ap is_some script))) (λ n b. inl (ap NotEnded (before_end-one s t lead.step n here b))) (λ f _. inr (omega arith)) g z))
      (λ l sc script lead leads far p h.
      let here : ListOff s t (fault_at p) = record { lead = lead; page = p; leads = leads; off = off_first (length s.pages) lead.own p h; told = refl } in
      declined (commit t) (Unwritable t (fault_at p)) ((refl, here), commit_left t l sc lead script leads far (λ g. (g ≡ Unwritable t (fault_at p)) ⊎ (11 < call_cause g)) (λ f z. inl (ap (Unwritable t) (list_off-one s t (fault_at p) f here z)))))
      (λ l sc script lead leads far h. inl (
        commit_left t l sc lead script leads far (λ g. ⊥) (λ f z.
            let stands : Some z.lead ≡ Some lead = sym z.leads ∙ leads in
            let same : z.lead ≡ lead = cc in
            none_off (length s.pages) lead.own z.page h (subst (λ y. FirstNotBelow (length s.pages) (map (λ w. w.page) y.own) z.page) same z.off)),
        (lead, leads, commits_so s.engine o t l lead.own, refl, refl),
      ))
    where
      shut : t < 8 → is_open s.engine t ≡ false → Outcome ar (commit t) s (s, Err (NotOpen t))
      shut l h = declined (commit t) (NotOpen t) ((refl, h), λ g z. commit_fits s (λ g. (g ≡ NotOpen t) ⊎ (7 < call_cause g)) t (λ n q. absurd (one_in s t n l q)) (λ _. inl refl) (λ n _. inr (omega arith)) (λ f _. inr (omega arith)) g z)

  abort_outcome : (t : ℕ) → Outcome ar (abort t) s (aborts s t)
  abort_outcome t =
      aborts-opened s (Outcome ar (abort t) s) t
      (λ l. no_slot (abort t) t (inl (l, refl)))
      (λ l h. declined (abort t) (NotOpen t) ((refl, h), λ g z. abort_fits s (λ g. (g ≡ NotOpen t) ⊎ (7 < call_cause g)) t (λ n q. absurd (one_in s t n l q)) (λ _. inl refl) g z))
      (λ l h. inl (λ g z. abort_fits s (λ g. ⊥) t (λ n q. one_in s t n l q) (λ q. both_ways (is_open s.engine t) q h) g z, (aborts_so s.engine o t l, refl, refl)))

  pub outcome : (c : Call) → Outcome ar c s (does ar c s)
  outcome (set_allowance k) = allow_outcome k
  outcome (begin t bytes) = begin_outcome t bytes
  outcome (turn t u) = turn_outcome t u
  outcome (commit t) = commit_outcome t
  outcome (abort t) = abort_outcome t

  -- an accepted outcome answers so
  accepts_ok : (c : Call) (d : Done) → Accepts ar c s d → (how : Accepted) × (d.1 ≡ Ok how)
  accepts_ok (set_allowance k) d x = (Allowed, x.2)
  accepts_ok (begin t bytes) d x = (Begun, x.4)
  accepts_ok (turn t u) d x = by (standing s.engine t u x.script x.at) (finds_standing s.engine o t u x.script x.at x.runs)
    where
      by : (how : Standing) → Finds s.engine t u x.script x.at how → (how : Accepted) × (d.1 ≡ Ok how)
      by AtEnd f = (Took Ended, ap (λ z. z.1) (x.ended f))
      by Halted f = (Took Waiting, ap (λ z. z.1) (x.waiting f))
      by Ready f = (Took Moved, (x.moves f).4)
  accepts_ok (commit t) d x = (Committed _ _, x.4)
  accepts_ok (abort t) d x = (Aborted, x.2)

  -- a question, where what it answers of a shadow is so
  module _ {X : Type 0} (t u : ℕ) (So : Steps → Stand → X → Type 0) where
    abbrev Told : Result X CallFault → Type 0
    Told r = AnswersQuestion s t u So r

    asked_told : (f : Steps → Stand → X) → ((sc : Steps) (at : Stand) → script_of s.engine t ≡ Some sc → shadow s.engine t u ≡ Some at → So sc at (f sc at)) → Told (asked s.engine t u f)
    asked_told f so =
        cond_both {A = Result X CallFault} (leb t 7) _ _ Told
        (λ e. let l = leb-true t 7 e in cond_both {A = Result X CallFault} (leb u 7) _ _ Told
        (λ q. let k = leb-true u 7 q in by (omega arith) (omega arith) (script_of s.engine t) refl)
        (λ q. let k = leb-false u 7 q in slot_least s (question t u) u (inr (omega arith, inl (omega arith, refl)))))
        (λ e. let l = leb-false t 7 e in slot_least s (question t u) t (inl (omega arith, refl)))
      where
        there : t < 8 → u < 8 → (sc : Steps) → script_of s.engine t ≡ Some sc → (x : Option Stand) → shadow s.engine t u ≡ x → Told (of_shadow u x (f sc))
        there l k sc script None h = (
          (t, refl, h),
          λ g z. question_fits s (λ g. (g ≡ NoShadow u) ⊎ (8 < call_cause g)) t u (λ n q. absurd (both_in s t u n l k q)) (λ q. absurd (both_ways (is_open s.engine t) q (ap is_some script))) (λ _. inl refl) g z,
        )
        there l k sc script (Some at) h = (
          λ g z. question_fits s (λ g. ⊥) t u (λ n q. both_in s t u n l k q) (λ q. both_ways (is_open s.engine t) q (ap is_some script)) (λ q. none_is_some at (sym q ∙ h)) g z,
          (sc, at, script, h, so sc at script h),
        )

        by : t < 8 → u < 8 → (x : Option Steps) → script_of s.engine t ≡ x → Told (of_open t u x (shadow s.engine t u) f)
        by l k None h = (
          (refl, ap is_some h),
          λ g z. question_fits s (λ g. (g ≡ NotOpen t) ⊎ (7 < call_cause g)) t u (λ n q. absurd (both_in s t u n l k q)) (λ _. inl refl) (λ _. inr (omega arith)) g z,
        )
        by l k (Some sc) h = there l k sc h (shadow s.engine t u) refl

    told-one : ((sc : Steps) (at : Stand) (x y : X) → script_of s.engine t ≡ Some sc → So sc at x → So sc at y → x ≡ y) → (r r' : Result X CallFault) → Told r → Told r' → r ≡ r'
    told-one one (Ok x) (Ok y) a b =
        let p = a.1 in
        let q = b.1 in
        let scripts : Some q.0 ≡ Some p.0 = sym q.2 ∙ p.2 in
        let ats : Some q.1 ≡ Some p.1 = sym q.3 ∙ p.3 in
        let same : q.0 ≡ p.0 = cc in
        let same_at : q.1 ≡ p.1 = cc in
        ap Ok (one p.0 p.1 x y p.2 p.4 (subst (λ z. So p.0 z y) same_at (subst (λ z. So z q.1 y) same q.4)))
    told-one one (Ok x) (Err g) a b = absurd (a.0 g b.0)
    told-one one (Err f) (Ok y) a b = absurd (b.0 f a.0)
    told-one one (Err f) (Err g) a b = ap Err (least-one (question t u) f g a b)

-- both ways, where the rules meet what leaves one
both : {X : Type 0} (P : X → Type 0) (x : X) → P x → ((a b : X) → P a → P b → a ≡ b) → (y : X) → P y ↔ (x ≡ y)
both P x so one y = (λ h. one x y so h, λ q. subst P q so)

pub one_outcome : (c : Call) → OneOutcome c
one_outcome c ar s d sound = let o = ok_from s.engine sound in both (Outcome ar c s) (does ar c s) (outcome ar s o c) (outcome-one ar s o c) d

pub declined_exactly : DeclinedExactly
declined_exactly ar c s f sound = (
  λ h. ⊎_elim
      (λ (a : NoneFits (made c) s × Accepts ar c s (does ar c s)). let ok = accepts_ok ar s (ok_from s.engine sound) c (does ar c s) a.1 in let m : Ok ok.0 ≡ Err f = sym ok.1 ∙ h in let no : ◌≡◌ {A = ℕ} 0 1 = cc in absurd (omega arith))
      (λ (a : (g : CallFault) × LeastFits (made c) s g × (does ar c s ≡ (s, Err g))). let m : Err a.0 ≡ Err f = sym (ap (λ d. d.1) a.2) ∙ h in let same : a.0 ≡ f = cc in subst (LeastFits (made c) s) same a.1)
      (outcome ar s (ok_from s.engine sound) c),
  λ h. ap (λ d. d.1) ((one_outcome c ar s (s, Err f) sound).0 (inr (f, h, refl))),
)

pub accepted_exactly : AcceptedExactly
accepted_exactly ar c s sound = (
  λ h. ⊎_elim
      (λ (a : NoneFits (made c) s × Accepts ar c s (does ar c s)). a.0)
      (λ (a : (g : CallFault) × LeastFits (made c) s g × (does ar c s ≡ (s, Err g))). let m : Err a.0 ≡ Ok h.0 = sym (ap (λ d. d.1) a.2) ∙ h.1 in let no : ◌≡◌ {A = ℕ} 0 1 = cc in absurd (omega arith))
      (outcome ar s (ok_from s.engine sound) c),
  λ none. ⊎_elim
      (λ (a : NoneFits (made c) s × Accepts ar c s (does ar c s)). accepts_ok ar s (ok_from s.engine sound) c (does ar c s) a.1)
      (λ (a : (g : CallFault) × LeastFits (made c) s g × (does ar c s ≡ (s, Err g))). absurd (none a.0 a.1.0))
      (outcome ar s (ok_from s.engine sound) c),
)

pub one_run : OneRun
one_run ar [] s [] s' sound = (λ h. (refl, sym h), λ h. sym h.1)
one_run ar [] s (a ∷ told) s' sound = (λ h. absurd h, λ h. let q = h.0 in let no : ◌≡◌ {A = ℕ} 0 1 = cc in absurd (omega arith))
one_run ar (c ∷ cs) s [] s' sound = (λ h. absurd h, λ h. let q = h.0 in let no : ◌≡◌ {A = ℕ} 0 1 = cc in absurd (omega arith))
one_run ar (c ∷ cs) s (a ∷ told) s' sound = (
  λ h.
      let d : does ar c s ≡ (h.0, a) = (one_outcome c ar s (h.0, a) sound).0 h.1 in
      let rest = (one_run ar cs h.0 told s' (subst (λ z. SoundEngine z.0.engine) d (does-sound ar c s sound))).0 h.2 in
      (ap (λ z. z.1 ∷ answers ar cs z.0) d ∙ ap (λ z. a ∷ z) rest.0, ap (λ z. after ar cs z.0) d ∙ rest.1),
  λ h.
      let q = h.0 in
      let first : (does ar c s).1 ≡ a = cc in
      let later : answers ar cs (does ar c s).0 ≡ told = cc in (
        (does ar c s).0,
        subst (λ z. Outcome ar c s ((does ar c s).0, z)) first (outcome ar s (ok_from s.engine sound) c),
        (one_run ar cs (does ar c s).0 told s' (does-sound ar c s sound)).1 (later, h.1),
      ),
)

-- a question uses no arithmetic
no_arithmetic : Meaning
no_arithmetic op a b = 0

pub stand_in_words : StandInWords
stand_in_words s t u r sound =
    let o = ok_from s.engine sound in
    both (AnswersQuestion s t u (λ script at x. (x.0 ≡ at.step) × Finds s.engine t u script at x.1)) (stand_told s.engine t u)
    (asked_told no_arithmetic s o t u (λ script at x. (x.0 ≡ at.step) × Finds s.engine t u script at x.1) (λ script at. (at.step, standing s.engine t u script at)) (λ sc at script h. (refl, finds_standing s.engine o t u sc at script)))
    (told-one no_arithmetic s o t u (λ script at x. (x.0 ≡ at.step) × Finds s.engine t u script at x.1) (λ sc at x y script a b. pair x y (a.0 ∙ sym b.0) (finds-one s.engine t u sc at x.1 y.1 a.1 b.1)))
    r
  where
    pair : (x y : ℕ × Standing) → x.0 ≡ y.0 → x.1 ≡ y.1 → x ≡ y
    pair x y a b = ap (λ z. let w : ℕ × Standing = (z, x.1) in w) a ∙ ap (λ z. let w : ℕ × Standing = (y.0, z) in w) b

-- the entry at an index is what is found there
entry_found : (reads : List ReadEntry) (i : ℕ) → EntryAt reads i (slice_get reads i)
entry_found [] i = omega arith
entry_found (r ∷ rs) zero = ([], rs, refl, refl)
entry_found (r ∷ rs) (suc i) = by (slice_get rs i) (entry_found rs i)
  where
    by : (o : Option ReadEntry) → EntryAt rs i o → EntryAt (r ∷ rs) (suc i) o
    by None h = omega arith
    by (Some x) h = (r ∷ h.0, h.1, ap (λ z. r ∷ z) h.2, ap suc h.3)

entry_is : (reads : List ReadEntry) (i : ℕ) (o : Option ReadEntry) → EntryAt reads i o → o ≡ slice_get reads i
entry_is reads i None h = sym (slice_get_past reads i h)
entry_is reads i (Some x) h = sym (ap (λ z. slice_get z i) h.2 ∙ at h.0 i h.3)
  where
    at : (first : List ReadEntry) (i : ℕ) → length first ≡ i → slice_get (first ++ x ∷ h.1) i ≡ Some x
    at [] i q = ap (slice_get (x ∷ h.1)) (sym q)
    at (y ∷ ys) i q = ap (slice_get (y ∷ ys ++ x ∷ h.1)) (sym q) ∙ at ys (length ys) refl

pub read_entry_in_words : ReadEntryInWords
read_entry_in_words s t u i r sound =
    let o = ok_from s.engine sound in
    both (AnswersQuestion s t u (λ script at x. EntryAt at.reads i x)) (entry_told s.engine t u i)
    (asked_told no_arithmetic s o t u (λ script at x. EntryAt at.reads i x) (λ script at. slice_get at.reads i) (λ sc at script h. entry_found at.reads i))
    (told-one no_arithmetic s o t u (λ script at x. EntryAt at.reads i x) (λ sc at x y script a b. entry_is at.reads i x a ∙ sym (entry_is at.reads i y b)))
    r
