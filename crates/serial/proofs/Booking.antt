-- Every list of calls books serially. Assumes nothing.
use Rattle.std.proofs.Common.{◌≡◌, ℕ, suc, ◌<◌, ◌≤◌, Bool, true, false, cond, eqb, leb, ◌≢◌, List, [], ◌∷◌, ◌++◌, length, set, Some, None, Ok, Err, sym, refl, ap, ◌∙◌, subst, ⊎_elim, arith}
use Rattle.std.specs.List.{slice_get}
use Rattle.std.proofs.lemmas.List.{append-nil, append_assoc}
use Rattle.std.proofs.lemmas.Bool.{cases_lt, cond-false, or_cases, leb-true, ne_eqb, both_ways}
use Rattle.pages.specs.Pages.{fault_at}
use Rattle.serial.specs.declared.fault.CallFault.{CallFault}
use Rattle.serial.specs.declared.fault.CallFault.TheVariants.{NoSlot, NotOpen, NoShadow, OffPages, NotEnded, Unwritable}
use Rattle.serial.specs.declared.fault.Turned.TheVariants.{Moved, Ended, Waiting}
use Rattle.serial.specs.declared.fault.Standing.TheVariants.{AtEnd, Halted, Ready}
use Rattle.serial.specs.declared.fault.Accepted.TheVariants.{Allowed, Begun, Took, Committed, Aborted}
use Rattle.serial.specs.Faults.{Answer, step_fault}
use Rattle.serial.specs.Machine.{Meaning, Steps, Stand, start, store_read, has_read_any}
use Rattle.serial.specs.Alone.{there, stand_at, whole_run, on_list, before_read_of, put_all}
use Rattle.serial.specs.Laws.{Leads}
use Rattle.serial.specs.Rules.{State, Done, fresh, script_of, shadow, place_of, lead_writes, own_of, waits, standing, committed, Call, set_allowance, begin, turn, commit, abort, does, after, answers}
use Rattle.serial.specs.Book.{Ledger, enters, books_run, books_commit, books, book_after, commits_among, Tidy, Rescued, EveryListBooked}
use Rattle.serial.proofs.Opened.{allows-opened, begins-opened, turns-opened, turn-found, commits-opened, aborts-opened}
use Rattle.serial.proofs.Runs.{leads-ends, reached_stand, reached_same, reached_later, past_read, first_reached, First}
use Rattle.serial.proofs.Table.{none_is_some, some_is, none_is, some_or_none, shadow-within}
use Rattle.serial.proofs.Turns.{moves-scripts}
use Rattle.serial.proofs.Commits.{new_lead}
use Rattle.serial.proofs.Calls.{Good, fresh_good, does_good, after_good}

-- the book agrees with the state, and has noted these answers
abbrev Agrees : State → List (ℕ × ℕ) → Ledger
Agrees s notes = record { pages = s.pages; scripts = s.engine.scripts; notes = notes }

-- the answer of a commit, as the book notes it
abbrev noted_answer : Answer → List (ℕ × ℕ)
noted_answer a = commits_among (a ∷ [])

module _ (ar : Meaning) where
  -- a call with its answer keeps book and state in agreement
  abbrev Keeps : Call → State → List (ℕ × ℕ) → Done → Type 0
  Keeps c s notes d = books ar c d.1 (Agrees s notes) ≡ Some (Agrees d.0 (notes ++ noted_answer d.1))

  -- a call that leaves the state and the book as they are
  same_notes : (s : State) (notes : List (ℕ × ℕ)) → Some (Agrees s notes) ≡ Some (Agrees s (notes ++ []))
  same_notes s notes = ap (λ n. Some (Agrees s n)) (sym (append-nil notes))

  -- a leading shadow at its end stands where the whole run alone ends
  pub lead_ends : (s : State) (t : ℕ) (sc : Steps) (lead : Stand) → Good ar s → script_of s.engine t ≡ Some sc → shadow s.engine t t ≡ Some lead → length sc ≤ lead.step → whole_run ar sc s.pages ≡ there lead
  lead_ends s t sc lead g script h far =
      let l = (g.rows t).reached sc t lead script h in
      let near : lead.step ≤ length sc = leads-ends ar sc s.pages ((g.rows t).ends sc script) (omega arith) l in
      let e : length sc ≡ lead.step = omega arith in
      ap (stand_at ar sc s.pages) e ∙ reached_stand ar sc s.pages lead l near

  keeps : (c : Call) (s : State) (notes : List (ℕ × ℕ)) → Good ar s → Keeps c s notes (does ar c s)
  keeps (set_allowance k) s notes g = let same = same_notes s notes in allows-opened s (Keeps (set_allowance k) s notes) k (λ _. same) (λ _ _ _ _. same) (λ _ _ _. same)
  keeps (begin t bytes) s notes g = let same = same_notes s notes in begins-opened s (Keeps (begin t bytes) s notes) t bytes (λ _. same) (λ _ _. same) (λ _ _ _ _. same)
      (λ _ _ sc h. ap (enters (Agrees s notes) t) h ∙ ap (λ n. Some (record { pages = s.pages; scripts = set s.engine.scripts t (Some sc); notes = n })) (sym (append-nil notes)))
  keeps (turn t u) s notes g = let same = same_notes s notes in turns-opened s (Keeps (turn t u) s notes) ar t u (λ _. same) (λ _ _. same) (λ _ _ _. same) (λ _ _ _ _ _. same)
      (λ _ _ sc script at h. turn-found s (Keeps (turn t u) s notes) ar t u sc at (λ _. same) (λ _. same) (λ _ _. same) (λ _ _ _. same)
      (λ _ to _. same ∙ ap (λ x. Some (record { pages = s.pages; scripts = x; notes = notes ++ [] })) (sym (moves-scripts s.engine t u sc at to))))
  keeps (commit t) s notes g = let same = same_notes s notes in commits-opened s (Keeps (commit t) s notes) t (λ _. same) (λ _ _. same) (λ _ _ _ _. same) (λ _ _ _ _ _ _. same) (λ _ _ _ _ _ _ _ _. same)
      (λ _ sc script lead leads far _. ap (books_commit ar (Agrees s notes) t) script ∙ ap (books_run (Agrees s notes) t) (lead_ends s t sc lead g script leads far))
  keeps (abort t) s notes g = let same = same_notes s notes in aborts-opened s (Keeps (abort t) s notes) t (λ _. same) (λ _ _. same)
      (λ _ _. ap (λ n. Some (record { pages = s.pages; scripts = set s.engine.scripts t None; notes = n })) (sym (append-nil notes)))

  among_more : (a : Answer) (rest : List Answer) → noted_answer a ++ commits_among rest ≡ commits_among (a ∷ rest)
  among_more (Ok (Committed r n)) rest = refl
  among_more (Err f) rest = refl
  among_more (Ok Allowed) rest = refl
  among_more (Ok Begun) rest = refl
  among_more (Ok (Took how)) rest = refl
  among_more (Ok Aborted) rest = refl

  book-kept : (cs : List Call) (s : State) (notes : List (ℕ × ℕ)) → Good ar s → book_after ar cs (answers ar cs s) (Some (Agrees s notes)) ≡ Some (Agrees (after ar cs s) (notes ++ commits_among (answers ar cs s)))
  book-kept [] s notes g = ap (λ n. Some (Agrees s n)) (sym (append-nil notes))
  book-kept (c ∷ cs) s notes g =
      let d = does ar c s in
      ap (book_after ar cs (answers ar cs d.0)) (keeps c s notes g)
      ∙ book-kept cs d.0 (notes ++ noted_answer d.1) (does_good ar c s g)
      ∙ ap (λ n. Some (Agrees (after ar cs d.0) n)) (append_assoc notes (noted_answer d.1) (commits_among (answers ar cs d.0)) ∙ ap (λ n. notes ++ n) (among_more d.1 (answers ar cs d.0)))

  -- a shadow that a turn finds waiting is waiting
  waiting_waits : (s : State) (v t : ℕ) (sc : Steps) (r : Stand) → t ≢ v → script_of s.engine v ≡ Some sc → shadow s.engine v t ≡ Some r → (does ar (turn v t) s).1 ≡ Ok (Took Waiting) → waits s.engine v t sc r ≡ true
  waiting_waits s v t sc r ne script here_now =
      turns-opened s Waited ar v t (λ _. refused (NoSlot v)) (λ _ _. refused (NoSlot t)) (λ _ _ _. refused (NotOpen v)) (λ _ _ _ _ _. refused (NoShadow t))
      (λ _ _ sc' script' r' here'. turn-found s Waited ar v t sc' r' (λ _. ended) (λ h _. halted sc' r' script' here' h) (λ _ _. ended) (λ _ p _. refused (OffPages (step_fault v r'.step (fault_at p)))) (λ _ to _. moved_on s))
    where
      Waited : Done → Type 0
      Waited d = d.1 ≡ Ok (Took Waiting) → waits s.engine v t sc r ≡ true

      refused : (f : CallFault) → Err f ≡ Ok (Took Waiting) → waits s.engine v t sc r ≡ true
      refused f e = let z : ◌≡◌ {A = ℕ} 0 1 = cc in absurd (omega arith)

      ended : ◌≡◌ {A = Answer} (Ok (Took Ended)) (Ok (Took Waiting)) → waits s.engine v t sc r ≡ true
      ended e = let z : ◌≡◌ {A = ℕ} 0 1 = cc in absurd (omega arith)

      moved_on : (x : State) → ◌≡◌ {A = Answer} (Ok (Took Moved)) (Ok (Took Waiting)) → waits s.engine v t sc r ≡ true
      moved_on x e = let z : ◌≡◌ {A = ℕ} 0 1 = cc in absurd (omega arith)

      halted_waits : (b : Bool) → cond b Halted Ready ≡ Halted → b ≡ true
      halted_waits true h = refl
      halted_waits false h = let z : ◌≡◌ {A = ℕ} 0 1 = cc in absurd (omega arith)

      halted : (sc' : Steps) (r' : Stand) → script_of s.engine v ≡ Some sc' → shadow s.engine v t ≡ Some r' → standing s.engine v t sc' r' ≡ Halted → waits s.engine v t sc r ≡ true
      halted sc' r' script' here' h =
          let scripts : Some sc' ≡ Some sc = sym script' ∙ script in
          let stands : Some r' ≡ Some r = sym here' ∙ here_now in
          let same_script : sc' ≡ sc = cc in
          let same : r' ≡ r = cc in
          subst (λ z. waits s.engine v t sc z ≡ true) same (subst (λ z. waits s.engine v t z r' ≡ true) same_script
          (halted_waits (waits s.engine v t sc' r') (sym (cond-false (eqb t v) (cond (leb (length sc') r'.step) AtEnd Ready) (cond (waits s.engine v t sc' r') Halted Ready) (ne_eqb t v ne)) ∙ h)))

  -- a commit under allowance 8 rescues what it spoils
  rescued : (s : State) (t : ℕ) (last : Stand) → Good ar s → s.engine.allowance ≡ 8 → shadow s.engine t t ≡ Some last
      → Rescued ar s t last.own (record { engine = committed s.engine t last.own; pages = put_all last.own s.pages })
  rescued s t last g k t_lead v sc lead first ne script v_lead found before =
      let e = s.engine in
      let own = last.own in
      let t_in = (shadow-within e g.sized t t last t_lead).0 in
      let v_in = (shadow-within e g.sized v v lead v_lead).0 in
      let t_ne : t ≢ v = λ z. ne (sym z) in
      let f = first_reached ar sc s.pages (suc (length sc)) (before_read_of own sc) start first found in
      let lead_reached = (g.rows v).reached sc v lead script v_lead in
      let ahead = reached_later ar sc s.pages f.leads lead_reached (omega arith) in
      let lead_read : has_read_any lead.reads own ≡ true = past_read ar sc s.pages own ahead f.passes before in
      let t_writes : lead_writes e t ≡ own = ap own_of t_lead in
      let r = some_is (shadow e v t) ((g.rows v).covered k t lead t_ne v_lead refl (ap (has_read_any lead.reads) t_writes ∙ lead_read)) in
      let clean : has_read_any r.0.reads own ≡ false = sym (ap (has_read_any r.0.reads) t_writes) ∙ (g.rows v).apart t r.0 t_ne r.1 refl in
      let r_reached = (g.rows v).reached sc t r.0 script r.1 in (
        r.0,
        r.1,
        λ waiting.
            let w = waiting_waits s v t sc r.0 t_ne script r.1 waiting in
            let at_first : r.0 ≡ first = ⊎_elim
            (λ (level : leb (place_of (shadow e v v)) r.0.step ≡ true).
            -- level with the lead it would be the lead, which has read what it has not
            let high : lead.step ≤ r.0.step = leb-true lead.step r.0.step (ap (λ o. leb (place_of o) r.0.step) (sym v_lead) ∙ level) in
            let low = (g.rows v).behind t r.0 lead r.1 v_lead in
            let same : r.0 ≡ lead = reached_same ar sc s.pages r_reached lead_reached (omega arith) in
            absurd (both_ways (has_read_any r.0.reads own) clean (ap (λ x. has_read_any x.reads own) same ∙ lead_read)))
            (λ (blocked : on_list (lead_writes e t) (store_read (slice_get sc r.0.step) r.0) ≡ true).
            let at_read : before_read_of own sc r.0 ≡ true = ap (λ es. on_list es (store_read (slice_get sc r.0.step) r.0)) (sym t_writes) ∙ blocked in
            reached_same ar sc s.pages r_reached f.leads (level sc r.0 first r_reached f clean at_read))
            (or_cases (leb (place_of (shadow e v v)) r.0.step) (on_list (lead_writes e t) (store_read (slice_get sc r.0.step) r.0)) w) in
            let n = new_lead ar s.pages e g t t_in own v sc lead ne script v_lead in
            let high : first.step ≤ n.0.step = subst (λ x. x.step ≤ n.0.step) at_first (n.1.most t r.0 r.1 clean) in
            let low : n.0.step ≤ first.step = not_past sc n.0 first n.1.reached f.leads f.passes n.1.unread in
            n.1.leads ∙ ap Some (reached_same ar sc s.pages n.1.reached f.leads (omega arith)),
      )
    where
      -- what has read nothing replaced is not past the first read of a replaced page
      not_past : (sc : Steps) (x first : Stand) → Leads ar sc s.pages start x → Leads ar sc s.pages start first → before_read_of last.own sc first ≡ true → has_read_any x.reads last.own ≡ false → x.step ≤ first.step
      not_past sc x first a b reads unread =
          ⊎_elim
          (λ (l : first.step < x.step). absurd (both_ways (has_read_any x.reads last.own) unread (past_read ar sc s.pages last.own (reached_later ar sc s.pages b a (omega arith)) reads l)))
          (λ (l : x.step ≤ first.step). l)
          (cases_lt first.step x.step)

      -- what stands before such a read is not before the first one
      level : (sc : Steps) (r first : Stand) → Leads ar sc s.pages start r → First ar sc s.pages (before_read_of last.own sc) start first → has_read_any r.reads last.own ≡ false → before_read_of last.own sc r ≡ true → r.step ≡ first.step
      level sc r first a f unread reads =
          let low = not_past sc r first a f.leads f.passes unread in
          ⊎_elim
          (λ (l : r.step < first.step). absurd (both_ways (before_read_of last.own sc r) (f.before r a l) reads))
          (λ (l : first.step ≤ r.step). omega arith)
          (cases_lt r.step first.step)

  -- an accepted commit leaves the state that the rules give for the leading shadow's list
  module _ (s : State) (t r n : ℕ) (last : Stand) (lead : shadow s.engine t t ≡ Some last) where
    abbrev pub Leaves : Done → Type 0
    Leaves d = d.1 ≡ Ok (Committed r n) → d.0 ≡ record { engine = committed s.engine t last.own; pages = put_all last.own s.pages }

    refused_leaves : (f : CallFault) → Leaves (s, Err f)
    refused_leaves f e = let z : ◌≡◌ {A = ℕ} 0 1 = cc in absurd (omega arith)

    pub commit-leaves : Leaves (does ar (commit t) s)
    commit-leaves =
        commits-opened s Leaves t (λ _. refused_leaves (NoSlot t)) (λ _ _. refused_leaves (NotOpen t)) (λ _ _ _ _. refused_leaves (NotOpen t)) (λ _ _ _ l _ _. refused_leaves (NotEnded l.step))
        (λ _ _ _ _ _ _ p _. refused_leaves (Unwritable t (fault_at p)))
        (λ _ _ _ l leads _ _ _.
        let leads_same : Some l ≡ Some last = sym leads ∙ lead in
        let same : l ≡ last = cc in
        ap (λ z. record { engine = committed s.engine t z.own; pages = put_all z.own s.pages }) same)

  -- the invariant, as the theorem has it
  good_tidy : (s : State) → Good ar s → Tidy s.engine
  good_tidy s g = record {
    allowed = g.allowed;
    closed_bare = λ t u h. (g.rows t).bare (none_is (script_of s.engine t) h) u;
    open_led = λ t h. let o = some_is (script_of s.engine t) h in (g.rows t).led o.0 o.1;
    few = λ t. (g.rows t).few;
    for_open = λ t u h. let o = some_is (shadow s.engine t u) h in (g.rows t).for_open u o.0 o.1;
  }

  good_stands : (s : State) → Good ar s → (t u : ℕ) (x : Stand) → shadow s.engine t u ≡ Some x → (sc : Steps) × (script_of s.engine t ≡ Some sc) × (stand_at ar sc s.pages x.step ≡ there x)
  good_stands s g t u x h =
      ⊎_elim
      (λ (o : (sc : Steps) × (script_of s.engine t ≡ Some sc)).
      let l = (g.rows t).reached o.0 u x o.1 h in
      (o.0, o.1, reached_stand ar o.0 s.pages x l (leads-ends ar o.0 s.pages ((g.rows t).ends o.0 o.1) (omega arith) l)))
      (λ (o : script_of s.engine t ≡ None). none_is_some x (sym ((g.rows t).bare o u) ∙ h))
      (some_or_none (script_of s.engine t))

pub every_list_booked : EveryListBooked
every_list_booked ar pages calls =
    let g = after_good ar calls (fresh pages) (fresh_good ar pages) in
    record {
      book = book-kept ar calls (fresh pages) [] (fresh_good ar pages);
      stands = good_stands ar (after ar calls (fresh pages)) g;
      rescues = λ before rest t r n last cut k accepted lead.
          let s = after ar before (fresh pages) in
          subst (Rescued ar s t last.own) (sym (commit-leaves ar s t r n last lead accepted)) (rescued ar s t last (after_good ar before (fresh pages) (fresh_good ar pages)) k lead);
      tidy = good_tidy ar (after ar calls (fresh pages)) g;
    }
