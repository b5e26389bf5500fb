-- What may fit each call, by the table of refusals. Assumes nothing.
use Rattle.std.proofs.Common.{◌≡◌, ℕ, zero, suc, ◌+◌, ◌<◌, ◌≤◌, true, false, ltb, ◌⊎◌, List, [], ◌∷◌, map, length, get_or, is_some, Some, None, Err, Option, sym, refl, ap, ◌∙◌, subst, inl, inr, ⊎_elim, arith}
use Rattle.std.specs.List.{slice_get}
use Rattle.std.proofs.lemmas.Bool.{cases_Bool, cases_lt, cond-true, cond-false, ltb-true, ltb-false, both_ways}
use Rattle.pages.specs.Pages.{fault_at}
use Rattle.pages.specs.declared.StoreFault.{StoreFault}
use Rattle.pages.specs.declared.WriteEntry.{WriteEntry}
use Rattle.script.specs.Script.{decoded}
use Rattle.script.specs.declared.ScriptFault.{ScriptFault}
use Rattle.script.specs.declared.ScriptFault.TheVariants.{Unfit, Undefined}
use Rattle.serial.specs.declared.fault.StepFault.{StepFault}
use Rattle.serial.specs.declared.fault.CallFault.{CallFault}
use Rattle.serial.specs.declared.fault.CallFault.TheVariants.{NoSlot, BadAllowance, SlotsOpen, AlreadyOpen, Undecoded, NotOpen, NoShadow, OffPages, NotEnded, Unwritable}
use Rattle.serial.specs.Faults.{step_fault, call_cause, call_returned}
use Rattle.serial.specs.Machine.{Meaning, Steps, Stand, off_pages}
use Rattle.serial.specs.Alone.{next}
use Rattle.serial.specs.Rules.{Engine, State, set_allowance, begin, turn, commit, abort, is_open, shadow, first_open, first_off}
use Rattle.serial.specs.Refused.{Asked, made, question, named, FirstNotBelow, LowestOpen, StepOff, BeforeEnd, ListOff, Fits, LeastFits, FaultsTold}
use Rattle.serial.proofs.Table.{none_is_some}
use Rattle.serial.proofs.Missing.{touches_off}

-- one number is the first from a limit on
pub first_from-one : (limit : ℕ) (xs : List ℕ) (n m : ℕ) → FirstNotBelow limit xs n → FirstNotBelow limit xs m → n ≡ m
first_from-one limit [] n m h k = absurd h
first_from-one limit (x ∷ xs) n m h k =
    ⊎_elim
    (λ (a : (limit ≤ x) × (n ≡ x)). ⊎_elim (λ (b : (limit ≤ x) × (m ≡ x)). a.1 ∙ sym b.1) (λ (b : (x < limit) × FirstNotBelow limit xs m). let l = a.0 in let r = b.0 in absurd (omega arith)) k)
    (λ (a : (x < limit) × FirstNotBelow limit xs n). ⊎_elim (λ (b : (limit ≤ x) × (m ≡ x)). let l = a.0 in let r = b.0 in absurd (omega arith)) (λ (b : (x < limit) × FirstNotBelow limit xs m). first_from-one limit xs n m a.1 b.1) k)
    h

-- the first page of a list that is not below the size
pub off_first : (size : ℕ) (own : List WriteEntry) (p : ℕ) → first_off size own ≡ Some p → FirstNotBelow size (map (λ w. w.page) own) p
off_first size [] p h = none_is_some p h
off_first size (w ∷ own) p h =
    ⊎_elim
    (λ (l : ltb w.page size ≡ true). inr (ltb-true w.page size l, off_first size own p (sym (cond-true (ltb w.page size) (first_off size own) (Some w.page) l) ∙ h)))
    (λ (l : ltb w.page size ≡ false). inl (ltb-false w.page size l, let m : Some w.page ≡ Some p = sym (cond-false (ltb w.page size) (first_off size own) (Some w.page) l) ∙ h in let e : w.page ≡ p = cc in sym e))
    (cases_Bool (ltb w.page size))

pub none_off : (size : ℕ) (own : List WriteEntry) (p : ℕ) → first_off size own ≡ None → FirstNotBelow size (map (λ w. w.page) own) p → ⊥
none_off size [] p h k = k
none_off size (w ∷ own) p h k =
    ⊎_elim
    (λ (l : ltb w.page size ≡ true).
    let below = ltb-true w.page size l in
    ⊎_elim
    (λ (b : (size ≤ w.page) × (p ≡ w.page)). let x = b.0 in omega arith)
    (λ (b : (w.page < size) × FirstNotBelow size (map (λ w. w.page) own) p). none_off size own p (sym (cond-true (ltb w.page size) (first_off size own) (Some w.page) l) ∙ h) b.1)
    k)
    (λ (l : ltb w.page size ≡ false). none_is_some w.page (sym h ∙ cond-false (ltb w.page size) (first_off size own) (Some w.page) l))
    (cases_Bool (ltb w.page size))

-- the lowest open slot
record FirstOpen (n : ℕ) (scripts : List (Option Steps)) (t : ℕ) : Type 0 where
  place : ℕ
  counted : t ≡ n + place
  opened : is_some (get_or scripts place None) ≡ true
  closed_below : (v : ℕ) → v < place → is_some (get_or scripts v None) ≡ false

first_open_at : (n : ℕ) (scripts : List (Option Steps)) (t : ℕ) → first_open n scripts ≡ Some t → FirstOpen n scripts t
first_open_at n [] t h = none_is_some t h
first_open_at n (None ∷ xs) t h =
    let r = first_open_at (suc n) xs t h in
    let c = r.counted in
    record { place = suc r.place; counted = omega arith; opened = r.opened; closed_below = below r.place r.closed_below }
  where
    below : (k : ℕ) → ((v : ℕ) → v < k → is_some (get_or xs v None) ≡ false) → (v : ℕ) → v < suc k → is_some (get_or (None ∷ xs) v None) ≡ false
    below k f zero l = refl
    below k f (suc v) l = f v (omega arith)
first_open_at n (Some x ∷ xs) t h = record { place = 0; counted = let m : n ≡ t = cc in omega arith; opened = refl; closed_below = λ v l. absurd (omega arith) }

pub first_open_lowest : (e : Engine) (t : ℕ) → first_open 0 e.scripts ≡ Some t → LowestOpen e t
first_open_lowest e t h =
    let r = first_open_at 0 e.scripts t h in
    let at : t ≡ r.place = let c = r.counted in omega arith in
    (ap (λ k. is_open e k) at ∙ r.opened, λ v l. r.closed_below v (omega arith))

pub lowest-one : (e : Engine) (t v : ℕ) → LowestOpen e t → LowestOpen e v → t ≡ v
lowest-one e t v a b =
    ⊎_elim
    (λ (l : t < v). absurd (both_ways (is_open e t) (b.1 t l) a.0))
    (λ (l : v ≤ t). ⊎_elim (λ (k : v < t). absurd (both_ways (is_open e v) (a.1 v k) b.0)) (λ (k : t ≤ v). omega arith) (cases_lt v t))
    (cases_lt t v)

-- number and values tell which refusal it is
pub cause_low : (f : ScriptFault) → (4 < call_cause (Undecoded f)) × (call_cause (Undecoded f) < 7)
cause_low (Unfit n) = (omega arith, omega arith)
cause_low (Undefined i) = (omega arith, omega arith)

-- every refusal but for a slot number has a higher number
above_one : (g : CallFault) → ((n : ℕ) × (g ≡ NoSlot n)) ⊎ (1 < call_cause g)
above_one (NoSlot n) = inl (n, refl)
above_one (BadAllowance k) = inr (omega arith)
above_one (SlotsOpen t) = inr (omega arith)
above_one (AlreadyOpen t) = inr (omega arith)
above_one (Undecoded f) = inr (let l = (cause_low f).0 in omega arith)
above_one (NotOpen t) = inr (omega arith)
above_one (NoShadow u) = inr (omega arith)
above_one (OffPages f) = inr (omega arith)
above_one (NotEnded n) = inr (omega arith)
above_one (Unwritable t f) = inr (omega arith)

-- the refusal that a number and values tell
abbrev fault_told : ℕ → List ℕ → Option CallFault
fault_told (suc zero) (n ∷ []) = Some (NoSlot n)
fault_told (suc (suc zero)) (n ∷ []) = Some (BadAllowance n)
fault_told (suc (suc (suc zero))) (n ∷ []) = Some (SlotsOpen n)
fault_told (suc (suc (suc (suc zero)))) (n ∷ []) = Some (AlreadyOpen n)
fault_told (suc (suc (suc (suc (suc zero))))) (n ∷ []) = Some (Undecoded (Unfit n))
fault_told (suc (suc (suc (suc (suc (suc zero)))))) (n ∷ []) = Some (Undecoded (Undefined n))
fault_told (suc (suc (suc (suc (suc (suc (suc zero))))))) (n ∷ []) = Some (NotOpen n)
fault_told (suc (suc (suc (suc (suc (suc (suc (suc zero)))))))) (n ∷ []) = Some (NoShadow n)
fault_told (suc (suc (suc (suc (suc (suc (suc (suc (suc zero))))))))) (a ∷ b ∷ c ∷ []) = Some (OffPages (step_fault a b (fault_at c)))
fault_told (suc (suc (suc (suc (suc (suc (suc (suc (suc (suc zero)))))))))) (n ∷ []) = Some (NotEnded n)
fault_told (suc (suc (suc (suc (suc (suc (suc (suc (suc (suc (suc zero))))))))))) (a ∷ b ∷ []) = Some (Unwritable a (fault_at b))
fault_told k values = None

told_back : (f : CallFault) → fault_told (call_cause f) (call_returned f) ≡ Some f
told_back (NoSlot n) = refl
told_back (BadAllowance n) = refl
told_back (SlotsOpen n) = refl
told_back (AlreadyOpen n) = refl
told_back (Undecoded (Unfit n)) = refl
told_back (Undecoded (Undefined n)) = refl
told_back (NotOpen n) = refl
told_back (NoShadow n) = refl
told_back (OffPages f) = refl
told_back (NotEnded n) = refl
told_back (Unwritable t f) = refl

pub faults_told : FaultsTold
faults_told f g h k =
    let same : Some f ≡ Some g = sym (told_back f) ∙ ap (λ n. fault_told n (call_returned f)) h ∙ ap (fault_told (call_cause g)) k ∙ told_back g in
    cc

-- what may fit a call, one by one: P is shown of each refusal that may
module _ (s : State) where
  -- a slot number comes first
  pub slot_least : (a : Asked) (n : ℕ) → FirstNotBelow 8 (named a) n → LeastFits a s (NoSlot n)
  slot_least a n h = (
    h,
    λ g k. ⊎_elim
        (λ (b : (m : ℕ) × (g ≡ NoSlot m)). inl (b.1 ∙ ap NoSlot (first_from-one 8 (named a) b.0 n (subst (Fits a s) b.1 k) h)))
        (λ (b : 1 < call_cause g). inr b)
        (above_one g),
  )

  module _ (P : CallFault → Type 0) where
    never : {A : Type 0} → ◌≡◌ {A = ℕ} 0 1 → A
    never z = absurd (omega arith)

    pub allow_fits : (k : ℕ) → ((k < 1) ⊎ (8 < k) → P (BadAllowance k)) → ((t : ℕ) → LowestOpen s.engine t → P (SlotsOpen t)) → (g : CallFault) → Fits (made (set_allowance k)) s g → P g
    allow_fits k a b (NoSlot n) h = absurd h
    allow_fits k a b (BadAllowance j) h =
        let m = h.0 in
        let same : k ≡ j = cc in
        subst (λ x. P (BadAllowance x)) same (a (subst (λ x. (x < 1) ⊎ (8 < x)) (sym same) h.1))
    allow_fits k a b (SlotsOpen t) h = b t h.2
    allow_fits k a b (AlreadyOpen t) h = let m = h.1 in never (cc)
    allow_fits k a b (Undecoded f) h = let m = h.2 in never (cc)
    allow_fits k a b (NotOpen t) h = none_is_some t h.0
    allow_fits k a b (NoShadow u) h = none_is_some (h.0, u) h.1
    allow_fits k a b (OffPages f) h = let m = h.2 in never (cc)
    allow_fits k a b (NotEnded n) h = let m = h.1 in never (cc)
    allow_fits k a b (Unwritable t f) h = let m = h.0 in never (cc)

    pub begin_fits : (t : ℕ) (bytes : List ℕ) → ((n : ℕ) → FirstNotBelow 8 (t ∷ []) n → P (NoSlot n)) → (is_open s.engine t ≡ true → P (AlreadyOpen t)) → ((f : ScriptFault) → decoded bytes ≡ Err f → P (Undecoded f))
        → (g : CallFault) → Fits (made (begin t bytes)) s g → P g
    begin_fits t bytes a b c (NoSlot n) h = a n h
    begin_fits t bytes a b c (BadAllowance j) h = let m = h.0 in never (cc)
    begin_fits t bytes a b c (SlotsOpen v) h = let m = h.1 in never (cc)
    begin_fits t bytes a b c (AlreadyOpen v) h =
        let m = h.1 in
        let same : t ≡ v = cc in
        subst (λ x. P (AlreadyOpen x)) same (b (ap (is_open s.engine) same ∙ h.2))
    begin_fits t bytes a b c (Undecoded f) h = let m = h.2 in let same : bytes ≡ h.1 = cc in c f (ap decoded same ∙ h.3)
    begin_fits t bytes a b c (NotOpen v) h = none_is_some v h.0
    begin_fits t bytes a b c (NoShadow u) h = none_is_some (h.0, u) h.1
    begin_fits t bytes a b c (OffPages f) h = let m = h.2 in never (cc)
    begin_fits t bytes a b c (NotEnded n) h = let m = h.1 in never (cc)
    begin_fits t bytes a b c (Unwritable v f) h = let m = h.0 in never (cc)

    -- a closed slot, and a shadow that is not there
    closed_fits : (t v : ℕ) → ◌≡◌ {A = Option ℕ} (Some t) (Some v) → is_open s.engine v ≡ false → (is_open s.engine t ≡ false → P (NotOpen t)) → P (NotOpen v)
    closed_fits t v m h f = let same : t ≡ v = cc in subst (λ x. P (NotOpen x)) same (f (ap (is_open s.engine) same ∙ h))

    gone_fits : (t u v w : ℕ) → ◌≡◌ {A = Option (ℕ × ℕ)} (Some (t, u)) (Some (v, w)) → shadow s.engine v w ≡ None → (shadow s.engine t u ≡ None → P (NoShadow u)) → P (NoShadow w)
    gone_fits t u v w m h f =
        let pair : ◌≡◌ {A = ℕ × ℕ} (t, u) (v, w) = cc in
        let same_slot : t ≡ v = ap (λ x. x.0) pair in
        let same : u ≡ w = ap (λ x. x.1) pair in
        subst (λ x. P (NoShadow x)) same (f (ap (λ x. shadow s.engine x u) same_slot ∙ ap (shadow s.engine v) same ∙ h))

    pub turn_fits : (t u : ℕ) → ((n : ℕ) → FirstNotBelow 8 (t ∷ u ∷ []) n → P (NoSlot n)) → (is_open s.engine t ≡ false → P (NotOpen t)) → (shadow s.engine t u ≡ None → P (NoShadow u)) → ((f : StepFault) → StepOff s t u f → P (OffPages f))
        → (g : CallFault) → Fits (made (turn t u)) s g → P g
    turn_fits t u a b c d (NoSlot n) h = a n h
    turn_fits t u a b c d (BadAllowance j) h = let m = h.0 in never (cc)
    turn_fits t u a b c d (SlotsOpen v) h = let m = h.1 in never (cc)
    turn_fits t u a b c d (AlreadyOpen v) h = let m = h.1 in never (cc)
    turn_fits t u a b c d (Undecoded f) h = let m = h.2 in never (cc)
    turn_fits t u a b c d (NotOpen v) h = closed_fits t v h.0 h.1 b
    turn_fits t u a b c d (NoShadow w) h = gone_fits t u h.0 w h.1 h.2 c
    turn_fits t u a b c d (OffPages f) h =
        let m = h.2 in
        let same_slot : h.0 ≡ t = cc in
        let same : h.1 ≡ u = cc in
        d f (subst (λ x. StepOff s t x f) same (subst (λ x. StepOff s x h.1 f) same_slot h.3))
    turn_fits t u a b c d (NotEnded n) h = let m = h.1 in never (cc)
    turn_fits t u a b c d (Unwritable v f) h = let m = h.0 in never (cc)

    pub commit_fits : (t : ℕ) → ((n : ℕ) → FirstNotBelow 8 (t ∷ []) n → P (NoSlot n)) → (is_open s.engine t ≡ false → P (NotOpen t)) → ((n : ℕ) → BeforeEnd s t n → P (NotEnded n)) → ((f : StoreFault) → ListOff s t f → P (Unwritable t f))
        → (g : CallFault) → Fits (made (commit t)) s g → P g
    commit_fits t a b c d (NoSlot n) h = a n h
    commit_fits t a b c d (BadAllowance j) h = let m = h.0 in never (cc)
    commit_fits t a b c d (SlotsOpen v) h = let m = h.1 in never (cc)
    commit_fits t a b c d (AlreadyOpen v) h = let m = h.1 in never (cc)
    commit_fits t a b c d (Undecoded f) h = let m = h.2 in never (cc)
    commit_fits t a b c d (NotOpen v) h = closed_fits t v h.0 h.1 b
    commit_fits t a b c d (NoShadow w) h = none_is_some (h.0, w) h.1
    commit_fits t a b c d (OffPages f) h = let m = h.2 in never (cc)
    commit_fits t a b c d (NotEnded n) h = let m = h.1 in let same : h.0 ≡ t = cc in c n (subst (λ x. BeforeEnd s x n) same h.2)
    commit_fits t a b c d (Unwritable v f) h =
        let m = h.0 in
        let same : t ≡ v = cc in
        subst (λ x. P (Unwritable x f)) same (d f (subst (λ x. ListOff s x f) (sym same) h.1))

    pub abort_fits : (t : ℕ) → ((n : ℕ) → FirstNotBelow 8 (t ∷ []) n → P (NoSlot n)) → (is_open s.engine t ≡ false → P (NotOpen t)) → (g : CallFault) → Fits (made (abort t)) s g → P g
    abort_fits t a b (NoSlot n) h = a n h
    abort_fits t a b (BadAllowance j) h = let m = h.0 in never (cc)
    abort_fits t a b (SlotsOpen v) h = let m = h.1 in never (cc)
    abort_fits t a b (AlreadyOpen v) h = let m = h.1 in never (cc)
    abort_fits t a b (Undecoded f) h = let m = h.2 in never (cc)
    abort_fits t a b (NotOpen v) h = closed_fits t v h.0 h.1 b
    abort_fits t a b (NoShadow w) h = none_is_some (h.0, w) h.1
    abort_fits t a b (OffPages f) h = let m = h.2 in never (cc)
    abort_fits t a b (NotEnded n) h = let m = h.1 in never (cc)
    abort_fits t a b (Unwritable v f) h = let m = h.0 in never (cc)

    pub question_fits : (t u : ℕ) → ((n : ℕ) → FirstNotBelow 8 (t ∷ u ∷ []) n → P (NoSlot n)) → (is_open s.engine t ≡ false → P (NotOpen t)) → (shadow s.engine t u ≡ None → P (NoShadow u)) → (g : CallFault) → Fits (question t u) s g → P g
    question_fits t u a b c (NoSlot n) h = a n h
    question_fits t u a b c (BadAllowance j) h = let m = h.0 in never (cc)
    question_fits t u a b c (SlotsOpen v) h = let m = h.1 in never (cc)
    question_fits t u a b c (AlreadyOpen v) h = let m = h.1 in never (cc)
    question_fits t u a b c (Undecoded f) h = let m = h.2 in never (cc)
    question_fits t u a b c (NotOpen v) h = closed_fits t v h.0 h.1 b
    question_fits t u a b c (NoShadow w) h = gone_fits t u h.0 w h.1 h.2 c
    question_fits t u a b c (OffPages f) h = let m = h.2 in never (cc)
    question_fits t u a b c (NotEnded n) h = let m = h.1 in never (cc)
    question_fits t u a b c (Unwritable v f) h = let m = h.0 in never (cc)

  -- numbers below 8 are no refusal
  pub one_in : (t n : ℕ) → t < 8 → FirstNotBelow 8 (t ∷ []) n → ⊥
  one_in t n l h = ⊎_elim (λ (a : (8 ≤ t) × (n ≡ t)). let k = a.0 in omega arith) (λ (a : (t < 8) × ⊥). a.1) h

  pub both_in : (t u n : ℕ) → t < 8 → u < 8 → FirstNotBelow 8 (t ∷ u ∷ []) n → ⊥
  both_in t u n l k h = ⊎_elim (λ (a : (8 ≤ t) × (n ≡ t)). let m = a.0 in omega arith) (λ (a : (t < 8) × FirstNotBelow 8 (u ∷ []) n). one_in u n k a.1) h

  -- of each of the three facts about a slot one refusal tells
  pub step_off-one : (t u : ℕ) (f g : StepFault) → StepOff s t u f → StepOff s t u g → g ≡ f
  step_off-one t u f g a b =
      let scripts : Some b.script ≡ Some a.script = sym b.runs ∙ a.runs in
      let stands : Some b.at ≡ Some a.at = sym b.stands ∙ a.stands in
      let script : b.script ≡ a.script = cc in
      let at : b.at ≡ a.at = cc in
      let ar : Meaning = λ op x y. 0 in
      let off : (x : Steps) (y : Stand) → b.script ≡ x → b.at ≡ y → next ar x s.pages y ≡ Some (off_pages b.page) = λ x y p q.
      ap (λ z. next ar z s.pages y) (sym p) ∙ ap (next ar b.script s.pages) (sym q) ∙ touches_off s.pages b.at ar (slice_get b.script b.at.step) b.page b.touches b.off in
      let offs : Some (off_pages b.page) ≡ Some (off_pages a.page) = sym (off a.script a.at script at) ∙ touches_off s.pages a.at ar (slice_get a.script a.at.step) a.page a.touches a.off in
      let page : b.page ≡ a.page = cc in
      b.told ∙ ap (λ x. step_fault t x.step (fault_at b.page)) at ∙ ap (λ p. step_fault t a.at.step (fault_at p)) page ∙ sym a.told

  pub before_end-one : (t n m : ℕ) → BeforeEnd s t n → BeforeEnd s t m → m ≡ n
  before_end-one t n m a b =
      let leads : Some b.lead ≡ Some a.lead = sym b.leads ∙ a.leads in
      let lead : b.lead ≡ a.lead = cc in
      b.told ∙ ap (λ x. x.step) lead ∙ sym a.told

  pub list_off-one : (t : ℕ) (f g : StoreFault) → ListOff s t f → ListOff s t g → g ≡ f
  list_off-one t f g a b =
      let leads : Some b.lead ≡ Some a.lead = sym b.leads ∙ a.leads in
      let lead : b.lead ≡ a.lead = cc in
      let page = first_from-one (length s.pages) (map (λ w. w.page) a.lead.own) b.page a.page (subst (λ x. FirstNotBelow (length s.pages) (map (λ w. w.page) x.own) b.page) lead b.off) a.off in
      b.told ∙ ap fault_at page ∙ sym a.told
