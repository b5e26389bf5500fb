-- A commit and an abort keep the invariant. Assumes nothing.
use Rattle.std.proofs.Common.{◌≡◌, ℕ, zero, suc, ◌+◌, ◌<◌, ◌≤◌, true, false, ◌≢◌, List, [], ◌∷◌, map, length, get_or, set, replicate, is_some, Some, None, Option, unwrap_or, sym, refl, ap, ◌∙◌, subst, ⊎_elim, add-zero, zero-add, arith, length-set, get_or-set_other, get_or-set_same}
use lib.ListN.{length-map}
use Rattle.std.proofs.Math.ListN.{get_or-map}
use Rattle.std.proofs.lemmas.List.{set_past, get_or_past, length-replicate}
use Rattle.std.proofs.Math.ListN.{get_or-map}
use Rattle.std.proofs.lemmas.Bool.{cases_Bool, cases_eq, cases_lt, cond-true, cond-false, cond_both, true≢false, both_ways}
use Rattle.pages.specs.declared.WriteEntry.{WriteEntry}
use Rattle.serial.specs.Machine.{Meaning, Steps, Stand, start, has_written, has_read_any}
use Rattle.serial.specs.Alone.{put_all}
use Rattle.serial.specs.Laws.{Leads, here}
use Rattle.serial.specs.Rules.{Row, Engine, no_shadows, script_of, is_open, row, shadow, own_of, lead_writes, furthest_of, any_shadow, count, cleared, closed, kept, remaining, spoils, renewed, renew, committed}
use Rattle.serial.proofs.Runs.{reached_later, read_lasts, leads-frame, length-put_all, put_all_other}
use Rattle.serial.proofs.Table.{none_is_some, some_is, some_or_none, Sized, shadow-within, count_add, count_clear, count-remaining, count_dropped, kept_was, kept-unread, furthest_of_among, furthest_of_most, nothing_at}
use Rattle.serial.proofs.Conflicts.{read_any_nil, read_any_grows, read_any_shrinks, own_grows}
use Rattle.serial.proofs.Kept.{no_exempt, RowInv, Inv}

count_nothing : (n : ℕ) → count (replicate n None) ≡ 0
count_nothing zero = refl
count_nothing (suc n) = count_nothing n

module _ (own : List WriteEntry) where
  renew_at : (n : ℕ) (rows : List Row) (v : ℕ) → get_or (renew own n rows) v [] ≡ renewed own (n + v) (get_or rows v [])
  renew_at n [] v = refl
  renew_at n (r ∷ rows) zero = ap (λ k. renewed own k r) (sym (add-zero n))
  renew_at n (r ∷ rows) (suc v) = let e : suc n + v ≡ n + suc v = omega arith in renew_at (suc n) rows v ∙ ap (λ k. renewed own k (get_or rows v [])) e

  length-renew : (n : ℕ) (rows : List Row) → length (renew own n rows) ≡ length rows
  length-renew n [] = refl
  length-renew n (r ∷ rows) = ap suc (length-renew (suc n) rows)

  length-renewed : (v : ℕ) (r : Row) → length (renewed own v r) ≡ length r
  length-renewed v r =
      cond_both (spoils own (get_or r v None)) (set (remaining own r) v _) (remaining own r) (λ cs. length cs ≡ length r)
      (λ e. length-set (remaining own r) v _ ∙ length-map r (kept own))
      (λ e. length-map r (kept own))

  -- no shadow appears that was not there
  count-renewed : (v : ℕ) (r : Row) → count (renewed own v r) ≤ count r
  count-renewed v r = by (get_or r v None) refl
    where
      by : (o : Option Stand) → get_or r v None ≡ o → count (renewed own v r) ≤ count r
      by None e =
          subst (λ cs. count cs ≤ count r) (sym (cond-false (spoils own (get_or r v None)) (set (remaining own r) v (Some (unwrap_or (furthest_of any_shadow v (remaining own r)) start))) (remaining own r) (ap (spoils own) e))) (count-remaining own r)
      by (Some l) e =
          cond_both (spoils own (get_or r v None)) (set (remaining own r) v (Some (unwrap_or (furthest_of any_shadow v (remaining own r)) start))) (remaining own r) (λ cs. count cs ≤ count r)
          (λ h.
          let one = count_add (remaining own r) v (unwrap_or (furthest_of any_shadow v (remaining own r)) start) in
          let fewer = count_dropped own r v l e (sym (ap (spoils own) e) ∙ h) in
          omega arith)
          (λ h. count-remaining own r)

  -- a place of a renewed row other than the leading one
  renewed_other : (v : ℕ) (r : Row) (u : ℕ) → u ≢ v → get_or (renewed own v r) u None ≡ kept own (get_or r u None)
  renewed_other v r u ne =
      cond_both (spoils own (get_or r v None)) (set (remaining own r) v _) (remaining own r) (λ cs. get_or cs u None ≡ kept own (get_or r u None))
      (λ e. get_or-set_other (remaining own r) v u _ None ne ∙ get_or-map (kept own) r u None)
      (λ e. get_or-map (kept own) r u None)

-- what stands in the table after t has committed this list
module _ (e : Engine) (z : Sized e) (t : ℕ) (t_in : t < 8) (own : List WriteEntry) where
  abbrev gone_rows : List Row
  gone_rows = map (cleared t) (renew own 0 e.shadows)

  row-there : row (committed e t own) t ≡ no_shadows
  row-there = get_or-set_same gone_rows t no_shadows [] (let r = z.rows in omega (arith, length-map (renew own 0 e.shadows) (cleared t), length-renew own 0 e.shadows))

  row_other : (v : ℕ) → v ≢ t → row (committed e t own) v ≡ set (renewed own v (row e v)) t None
  row_other v ne =
      get_or-set_other gone_rows t v no_shadows [] ne
      ∙ get_or-map (cleared t) (renew own 0 e.shadows) v []
      ∙ ap (cleared t) (renew_at own 0 e.shadows v)
      ∙ ap (λ k. cleared t (renewed own k (row e v))) (zero-add v)

  pub none_of : (u : ℕ) → shadow (committed e t own) t u ≡ None
  none_of u = ap (λ cs. get_or cs u None) row-there ∙ nothing_at 8 u

  pub none_for : (v : ℕ) → v ≢ t → shadow (committed e t own) v t ≡ None
  none_for v ne = ap (λ cs. get_or cs t None) (row_other v ne) ∙ cleared_at (renewed own v (row e v)) t
    where
      cleared_at : (cs : Row) (u : ℕ) → get_or (set cs u None) u None ≡ None
      cleared_at cs u = ⊎_elim (λ (l : u < length cs). get_or-set_same cs u None None l) (λ (l : length cs ≤ u). ap (λ xs. get_or xs u None) (set_past cs u None l) ∙ get_or_past cs u None l) (cases_lt u (length cs))

  pub others_kept : (v u : ℕ) → v ≢ t → u ≢ t → u ≢ v → shadow (committed e t own) v u ≡ kept own (shadow e v u)
  others_kept v u a b d =
      ap (λ cs. get_or cs u None) (row_other v a) ∙ get_or-set_other (renewed own v (row e v)) t u None None b ∙ renewed_other own v (row e v) u d

  lead_at : (v : ℕ) → v ≢ t → shadow (committed e t own) v v ≡ get_or (renewed own v (row e v)) v None
  lead_at v ne = ap (λ cs. get_or cs v None) (row_other v ne) ∙ get_or-set_other (renewed own v (row e v)) t v None None ne

  pub lead_stays : (v : ℕ) (l : Stand) → v ≢ t → shadow e v v ≡ Some l → has_read_any l.reads own ≡ false → shadow (committed e t own) v v ≡ Some l
  lead_stays v l ne h unread =
      lead_at v ne
      ∙ ap (λ cs. get_or cs v None) (cond-false (spoils own (shadow e v v)) _ (remaining own (row e v)) (ap (spoils own) h ∙ unread))
      ∙ get_or-map (kept own) (row e v) v None ∙ ap (kept own) h ∙ kept-unread own l unread

  pub lead_renewed : (v : ℕ) (l : Stand) → v ≢ t → shadow e v v ≡ Some l → has_read_any l.reads own ≡ true
      → shadow (committed e t own) v v ≡ Some (unwrap_or (furthest_of any_shadow v (remaining own (row e v))) start)
  lead_renewed v l ne h read =
      let in_both = shadow-within e z v v l h in
      lead_at v ne
      ∙ ap (λ cs. get_or cs v None) (cond-true (spoils own (shadow e v v)) (set (remaining own (row e v)) v (Some (unwrap_or (furthest_of any_shadow v (remaining own (row e v))) start))) (remaining own (row e v)) (ap (spoils own) h ∙ read))
      ∙ get_or-set_same (remaining own (row e v)) v _ None (omega (arith, length-map (row e v) (kept own), z.places v in_both.0, in_both.1))

  pub lead_none : (v : ℕ) → v ≢ t → shadow e v v ≡ None → shadow (committed e t own) v v ≡ None
  lead_none v ne h =
      lead_at v ne
      ∙ ap (λ cs. get_or cs v None) (cond-false (spoils own (shadow e v v)) _ (remaining own (row e v)) (ap (spoils own) h))
      ∙ get_or-map (kept own) (row e v) v None ∙ ap (kept own) h

  pub committed-sized : Sized (committed e t own)
  committed-sized = record {
    scripts = length-set e.scripts t None ∙ z.scripts;
    rows = length-set gone_rows t no_shadows ∙ length-map (renew own 0 e.shadows) (cleared t) ∙ length-renew own 0 e.shadows ∙ z.rows;
    places = λ v l. ⊎_elim
        (λ (q : v ≡ t). ap (λ k. length (row (committed e t own) k)) q ∙ ap length row-there ∙ length-replicate {A = Option Stand} 8 None)
        (λ (q : v ≡ t → ⊥). ap length (row_other v q) ∙ length-set (renewed own v (row e v)) t None ∙ length-renewed own v (row e v) ∙ z.places v l)
        (cases_eq v t);
  }

  pub committed-count : (v : ℕ) → count (row (committed e t own) v) ≤ count (row e v)
  committed-count v =
      ⊎_elim
      (λ (q : v ≡ t). subst (λ k. count (row (committed e t own) k) ≤ count (row e k)) (sym q) (subst (λ cs. count cs ≤ count (row e t)) (sym row-there) (omega (arith, count_nothing 8))))
      (λ (q : v ≡ t → ⊥). subst (λ cs. count cs ≤ count (row e v)) (sym (row_other v q)) (let a = count_clear (renewed own v (row e v)) t in let b = count-renewed own v (row e v) in omega arith))
      (cases_eq v t)

  pub script-there : script_of (committed e t own) t ≡ None
  script-there = get_or-set_same e.scripts t None None (let n = z.scripts in omega arith)

  pub script_other : (v : ℕ) → v ≢ t → script_of (committed e t own) v ≡ script_of e v
  script_other v ne = get_or-set_other e.scripts t v None None ne

-- the leading shadow of a slot after a commit: it has read nothing that was put, is reached and no further than the one
-- before, and no shadow that remains is past it
module _ (ar : Meaning) (pages : List ℕ) (e : Engine) (i : Inv ar pages no_exempt e) (t : ℕ) (t_in : t < 8) (own : List WriteEntry) where
  pub record NewLead (v : ℕ) (sc : Steps) (l x : Stand) : Type 0 where
    pub leads : shadow (committed e t own) v v ≡ Some x
    pub unread : has_read_any x.reads own ≡ false
    pub reached : Leads ar sc pages start x
    pub behind : x.step ≤ l.step
    pub most : (w : ℕ) (s : Stand) → shadow e v w ≡ Some s → has_read_any s.reads own ≡ false → s.step ≤ x.step

  pub new_lead : (v : ℕ) (sc : Steps) (l : Stand) → v ≢ t → script_of e v ≡ Some sc → shadow e v v ≡ Some l → (x : Stand) × NewLead v sc l x
  new_lead v sc l ne script h =
      ⊎_elim
      (λ (read : has_read_any l.reads own ≡ true). spoiled read (furthest_of any_shadow v (remaining own (row e v))) refl)
      (λ (unread : has_read_any l.reads own ≡ false). (
        l,
        record {
          leads = lead_stays e i.sized t t_in own v l ne h unread;
          unread = unread;
          reached = (i.rows v).reached sc v l script h;
          behind = omega arith;
          most = λ w s k u. (i.rows v).behind w s l k h;
        },
      ))
      (cases_Bool (has_read_any l.reads own))
    where
      remains : (w : ℕ) (s : Stand) → shadow e v w ≡ Some s → has_read_any s.reads own ≡ false → get_or (remaining own (row e v)) w None ≡ Some s
      remains w s k u = get_or-map (kept own) (row e v) w None ∙ ap (kept own) k ∙ kept-unread own s u

      spoiled : has_read_any l.reads own ≡ true → (o : Option Stand) → furthest_of any_shadow v (remaining own (row e v)) ≡ o → (x : Stand) × NewLead v sc l x
      spoiled read None q = (
        start,
        record {
          leads = lead_renewed e i.sized t t_in own v l ne h read ∙ ap (λ o. Some (unwrap_or o start)) q;
          unread = refl;
          reached = here;
          behind = omega arith;
          most = λ w s k u. let b = furthest_of_most any_shadow v (remaining own (row e v)) w s (remains w s k u) refl in none_is_some b.0 (sym q ∙ b.1);
        },
      )
      spoiled read (Some x) q =
          let a = furthest_of_among any_shadow v (remaining own (row e v)) x q in
          let was = kept_was own (shadow e v a.0) x (sym (get_or-map (kept own) (row e v) a.0 None) ∙ a.1) in (
            x,
            record {
              leads = lead_renewed e i.sized t t_in own v l ne h read ∙ ap (λ o. Some (unwrap_or o start)) q;
              unread = was.1;
              reached = (i.rows v).reached sc a.0 x script was.0;
              behind = (i.rows v).behind a.0 x l was.0 h;
              most = λ w s k u.
                  let b = furthest_of_most any_shadow v (remaining own (row e v)) w s (remains w s k u) refl in
                  let same : b.0 ≡ x = let m : Some b.0 ≡ Some x = sym b.1 ∙ q in cc in
                  subst (λ y. s.step ≤ y.step) same b.2;
            },
          )

  abbrev e' : Engine
  e' = committed e t own

  -- a slot that is open after the commit was open before, and its leading shadows then and now
  record Still (v : ℕ) (sc : Steps) : Type 0 where
    ne : v ≢ t
    script : script_of e v ≡ Some sc
    l : Stand
    lead : shadow e v v ≡ Some l
    x : Stand
    new : NewLead v sc l x

  still : (v : ℕ) (sc : Steps) → script_of e' v ≡ Some sc → Still v sc
  still v sc h =
      ⊎_elim
      (λ (q : v ≡ t). none_is_some sc (sym (script-there e i.sized t t_in own) ∙ ap (script_of e') (sym q) ∙ h))
      (λ (q : v ≡ t → ⊥).
      let was : script_of e v ≡ Some sc = sym (script_other e i.sized t t_in own v q) ∙ h in
      let l = some_is (shadow e v v) ((i.rows v).led sc was) in
      let n = new_lead v sc l.0 q was l.1 in
      record { ne = q; script = was; l = l.0; lead = l.1; x = n.0; new = n.1 })
      (cases_eq v t)

  -- a shadow after the commit, not a leading one, is one from before that has read nothing put
  old_shadow : (v u : ℕ) (s : Stand) → v ≢ t → u ≢ v → shadow e' v u ≡ Some s → (u ≢ t) × (shadow e v u ≡ Some s) × (has_read_any s.reads own ≡ false)
  old_shadow v u s ne d h =
      ⊎_elim
      (λ (q : u ≡ t). none_is_some s (sym (none_for e i.sized t t_in own v ne) ∙ ap (shadow e' v) (sym q) ∙ h))
      (λ (q : u ≡ t → ⊥). let w = kept_was own (shadow e v u) s (sym (others_kept e i.sized t t_in own v u ne q d) ∙ h) in (q, w.0, w.1))
      (cases_eq u t)

  -- what a leading shadow has written after the commit, it or the one before had written before
  writes_shrink : (u q : ℕ) → u ≢ t → has_written (lead_writes e' u) q ≡ true → has_written (lead_writes e u) q ≡ true
  writes_shrink u q ne h = by (shadow e u u) refl
    where
      by : (o : Option Stand) → shadow e u u ≡ o → has_written (lead_writes e u) q ≡ true
      by None k = absurd (true≢false (sym h ∙ ap (λ o. has_written (own_of o) q) (lead_none e i.sized t t_in own u ne k)))
      by (Some l) k =
          let open_u = (i.rows u).for_open u l k in
          let sc = some_is (script_of e u) open_u in
          let n = new_lead u sc.0 l ne sc.1 k in
          let x_own : has_written n.0.own q ≡ true = sym (ap (λ o. has_written (own_of o) q) n.1.leads) ∙ h in
          let later = reached_later ar sc.0 pages n.1.reached ((i.rows u).reached sc.0 u l sc.1 k) n.1.behind in
          ap (λ o. has_written (own_of o) q) k ∙ own_grows ar sc.0 pages later q x_own

  -- what t has written counts for nothing once t is closed
  no_writes : lead_writes e' t ≡ []
  no_writes = ap own_of (none_of e i.sized t t_in own t)

  frame : (sc : Steps) (s : Stand) → Leads ar sc pages start s → has_read_any s.reads own ≡ false → Leads ar sc (put_all own pages) start s
  frame sc s l unread = leads-frame ar sc pages (put_all own pages) own (length-put_all own pages) (λ p h. put_all_other own pages p h) l unread

  open_row : (v : ℕ) (sc : Steps) → Still v sc → RowInv ar (put_all own pages) no_exempt e' v
  open_row v sc k =
      let ne = k.ne in
      let r = i.rows v in
      let n = k.new in
      let script_now : script_of e' v ≡ Some sc = script_other e i.sized t t_in own v ne ∙ k.script in
      let is_new : (u : ℕ) (s : Stand) → u ≡ v → shadow e' v u ≡ Some s → k.x ≡ s = λ u s q h. let m : Some k.x ≡ Some s = sym n.leads ∙ ap (shadow e' v) (sym q) ∙ h in cc in
      let this_script : (z : Steps) → script_of e' v ≡ Some z → sc ≡ z = λ z h. let m : Some sc ≡ Some z = sym script_now ∙ h in cc in
      record {
        few = let a = committed-count e i.sized t t_in own v in let b = r.few in omega arith;
        bare = λ h u. none_is_some sc (sym h ∙ script_now);
        led = λ z h. ap is_some n.leads;
        ends = λ z h. r.ends z (sym (script_other e i.sized t t_in own v ne) ∙ h);
        for_open = λ u s h. ⊎_elim
            (λ (q : u ≡ v). ap (is_open e') q ∙ ap is_some script_now)
            (λ (q : u ≡ v → ⊥). let o = old_shadow v u s ne q h in ap is_some (script_other e i.sized t t_in own u o.0) ∙ r.for_open u s o.1)
            (cases_eq u v);
        reached = λ z u s h q. subst (λ y. Leads ar y (put_all own pages) start s) (this_script z h) (⊎_elim
            (λ (d : u ≡ v). subst (Leads ar sc (put_all own pages) start) (is_new u s d q) (frame sc k.x n.reached n.unread))
            (λ (d : u ≡ v → ⊥). let o = old_shadow v u s ne d q in frame sc s (r.reached sc u s k.script o.1) o.2)
            (cases_eq u v));
        behind = λ u s a h q.
            let same : k.x ≡ a = is_new v a refl q in
            subst (λ y. s.step ≤ y.step) same (⊎_elim
            (λ (d : u ≡ v). let w : k.x.step ≡ s.step = ap (λ y. y.step) (is_new u s d h) in omega arith)
            (λ (d : u ≡ v → ⊥). let o = old_shadow v u s ne d h in n.most u s o.1 o.2)
            (cases_eq u v));
        apart = λ u s d h q. let o = old_shadow v u s ne d h in
            read_any_shrinks s.reads (lead_writes e' u) (lead_writes e u) (λ p w. writes_shrink u p o.0 w) (r.apart u s d o.1 refl);
        covered = λ m u a d h q c.
            let same : k.x ≡ a = is_new v a refl h in
            let x_reads : has_read_any k.x.reads (lead_writes e' u) ≡ true = ap (λ y. has_read_any y.reads (lead_writes e' u)) same ∙ c in
            let u_ne : u ≢ t = λ w. true≢false (sym x_reads ∙ ap (λ y. has_read_any k.x.reads (lead_writes e' y)) w ∙ ap (has_read_any k.x.reads) no_writes ∙ read_any_nil k.x.reads) in
            let x_reads_old : has_read_any k.x.reads (lead_writes e u) ≡ true = read_any_grows k.x.reads (lead_writes e' u) (lead_writes e u) (λ p w. writes_shrink u p u_ne w) x_reads in
            let lead_reached = r.reached sc v k.l k.script k.lead in
            let old = some_is (shadow e v u) (r.covered m u k.l d k.lead refl (read_lasts ar sc pages (lead_writes e u) (reached_later ar sc pages n.reached lead_reached n.behind) x_reads_old)) in
            let s_reached = r.reached sc u old.0 k.script old.1 in
            ap is_some (others_kept e i.sized t t_in own v u ne u_ne d ∙ ap (kept own) old.1) ∙ ⊎_elim
            (λ (read : has_read_any old.0.reads own ≡ true).
            -- dropped, so the new lead is before it and cannot have read what it has not
            absurd (both_ways (has_read_any old.0.reads (lead_writes e u)) (r.apart u old.0 d old.1 refl) (read_lasts ar sc pages (lead_writes e u) (earlier k.x old.0 sc n.reached s_reached n.unread read) x_reads_old)))
            (λ (unread : has_read_any old.0.reads own ≡ false). ap is_some (kept-unread own old.0 unread))
            (cases_Bool (has_read_any old.0.reads own));
      }
    where
      earlier : (x s : Stand) (sc : Steps) → Leads ar sc pages start x → Leads ar sc pages start s → has_read_any x.reads own ≡ false → has_read_any s.reads own ≡ true → Leads ar sc pages x s
      earlier x s sc a b unread read =
          ⊎_elim
          (λ (l : x.step < s.step). reached_later ar sc pages a b (omega arith))
          (λ (l : s.step ≤ x.step). absurd (both_ways (has_read_any x.reads own) unread (read_lasts ar sc pages own (reached_later ar sc pages b a l) read)))
          (cases_lt x.step s.step)

  closed_now : (v : ℕ) → script_of e' v ≡ None → RowInv ar (put_all own pages) no_exempt e' v
  closed_now v h =
      let bare : (u : ℕ) → shadow e' v u ≡ None = λ u. ⊎_elim
      (λ (q : v ≡ t). ap (λ w. shadow e' w u) q ∙ none_of e i.sized t t_in own u)
      (λ (q : v ≡ t → ⊥).
      let was : script_of e v ≡ None = sym (script_other e i.sized t t_in own v q) ∙ h in
      ⊎_elim
      (λ (d : u ≡ v). ap (shadow e' v) d ∙ lead_none e i.sized t t_in own v q ((i.rows v).bare was v))
      (λ (d : u ≡ v → ⊥). ⊎_elim
      (λ (w : u ≡ t). ap (shadow e' v) w ∙ none_for e i.sized t t_in own v q)
      (λ (w : u ≡ t → ⊥). others_kept e i.sized t t_in own v u q w d ∙ ap (kept own) ((i.rows v).bare was u))
      (cases_eq u t))
      (cases_eq u v))
      (cases_eq v t) in
      record {
        few = let a = committed-count e i.sized t t_in own v in let b = (i.rows v).few in omega arith;
        bare = λ _ u. bare u;
        led = λ z k. none_is_some z (sym h ∙ k);
        ends = λ z k. none_is_some z (sym h ∙ k);
        for_open = λ u s k. none_is_some s (sym (bare u) ∙ k);
        reached = λ z u s k q. none_is_some s (sym (bare u) ∙ q);
        behind = λ u s l k q. none_is_some s (sym (bare u) ∙ k);
        apart = λ u s d k q. none_is_some s (sym (bare u) ∙ k);
        covered = λ m u l d k q c. none_is_some l (sym (bare v) ∙ k);
      }

  pub committed_inv : Inv ar (put_all own pages) no_exempt (committed e t own)
  committed_inv = record {
    sized = committed-sized e i.sized t t_in own;
    allowed = i.allowed;
    rows = λ v. ⊎_elim (λ (o : (sc : Steps) × (script_of e' v ≡ Some sc)). open_row v o.0 (still v o.0 o.1)) (λ o. closed_now v o) (some_or_none (script_of e' v));
  }

-- an abort is a commit of nothing
pub kept_nil : (o : Option Stand) → kept [] o ≡ o
kept_nil None = refl
kept_nil (Some s) = kept-unread [] s (read_any_nil s.reads)

remaining_nil : (r : Row) → remaining [] r ≡ r
remaining_nil [] = refl
remaining_nil (c ∷ cs) = ap (λ o. o ∷ remaining [] cs) (kept_nil c) ∙ ap (λ xs. c ∷ xs) (remaining_nil cs)

spoils_nil : (o : Option Stand) → spoils [] o ≡ false
spoils_nil None = refl
spoils_nil (Some s) = read_any_nil s.reads

renew_nil : (n : ℕ) (rows : List Row) → renew [] n rows ≡ rows
renew_nil n [] = refl
renew_nil n (r ∷ rows) =
    ap (λ x. x ∷ renew [] (suc n) rows) (cond-false (spoils [] (get_or r n None)) _ (remaining [] r) (spoils_nil (get_or r n None)) ∙ remaining_nil r)
    ∙ ap (λ xs. r ∷ xs) (renew_nil (suc n) rows)

pub abort_is : (e : Engine) (t : ℕ) → committed e t [] ≡ closed e t e.shadows
abort_is e t = ap (closed e t) (renew_nil 0 e.shadows)
