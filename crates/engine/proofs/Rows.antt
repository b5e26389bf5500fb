-- What stands in a row, and turns of the loops over it. Assumes nothing.
use Rattle.std.proofs.Common.{◌≡◌, ⊎_elim, ℕ, suc, ◌+◌, ◌<◌, Bool, true, false, cond, not, List, [], ◌∷◌, ◌++◌, map, length, get_or, take, drop, set, is_some, Some, None, Option, Result, unwrap_or, sym, refl, ap, ◌∙◌, subst, arith}
use Rattle.std.specs.List.{filter}
use Rattle.std.specs.Option.{option_map}
use Rattle.std.proofs.Math.ListN.{get_or-map}
use Rattle.std.proofs.lemmas.List.{length-map, map-set, get_or_default, set-get_or, get_or-set_same}
use Rattle.std.proofs.lemmas.List.Edits.{map_over_more}
use Rattle.pages.specs.declared.StoreFault.{StoreFault}
use Rattle.script.specs.declared.Step.{Step}
use Rattle.pages.specs.declared.WriteEntry.{WriteEntry}
use Rattle.std.proofs.lemmas.Bool.{cases_Bool, cond_both, cond-true, cond-false, not-true, not-false, true≢false}
use Rattle.serial.specs.Machine.{Meaning, Stand, start, has_read_any, Taken, moved, off_pages, takes}
use Rattle.serial.specs.Rules.{Row, slots, better, furthest, furthest_of, any_shadow, count, kept, spoils, remaining, renewed}
use Rattle.serial.proofs.Conflicts.{read_any_nil}
use Rattle.engine.specs.declared.shadow.Shadow.{Shadow}
use Rattle.engine.specs.View.{stand_of, Took}
use Rattle.engine.specs.SlotSet.{flags}
use Rattle.engine.specs.declared.slot_set.SlotSet.{SlotSet}
use Rattle.engine.specs.BySlot.{flagged, by_slot}
use Rattle.engine.specs.declared.by_slot.BySlot.{BySlot}
use Rattle.engine.specs.Table.{has_shadow, unread, Lent}
use Rattle.engine.specs.declared.row.Row.{Row as RowHeld}
use Rattle.serial.proofs.Table.{none_is, some_is, there-within}
use Rattle.engine.proofs.Members.{skips, flags_by_slot}
use Rattle.engine.proofs.SlotSets.{flags_eight}
use Rattle.engine.proofs.BySlots.{flag-at, flagged-at, flag_stands, flagged-length}

-- a list, seen through a view of each element
module _ {X Y : Type 0} (f : X → Y) where
  -- a loop that puts g of what it sees at each place
  module _ (g : Y → Y) (xs : List X) (i : ℕ) where
    pub over_more : (d : X) (ys : List X) (y : X) → i < length xs → length ys ≡ length xs → map f ys ≡ map g (take i (map f xs)) ++ drop i (map f xs) → f y ≡ g (f (get_or ys i d)) → map f (set ys i y) ≡ map g (take (i + 1) (map f xs)) ++ drop (i + 1) (map f xs)
    over_more d ys y low same inv e =
        let x = get_or (map f ys) i (f d) in
        let l : i < length (map f ys) = simp length-map (omega arith) in
        let m : i < length (map f xs) = simp length-map (omega arith) in
        map-set f ys i y
        ∙ ap (set (map f ys) i) (e ∙ ap g (sym (get_or-map f ys i d)))
        ∙ map_over_more g (map f xs) (map f ys) i x m inv (get_or_default (map f ys) i (f d) x l)

-- an equal test finds the same
module _ (p q : Stand → Bool) (same : (s : Stand) → p s ≡ q s) where
  better_same : (best c : Option Stand) → better p best c ≡ better q best c
  better_same best None = refl
  better_same best (Some s) = rw (same s)

  furthest_same : (best : Option Stand) (cs : Row) → furthest p best cs ≡ furthest q best cs
  furthest_same best [] = refl
  furthest_same best (c ∷ cs) = furthest_same (better p best c) cs ∙ ap (λ b. furthest q b cs) (better_same best c)

pub furthest_any : (t : ℕ) (cs : Row) → furthest_of (unread []) t cs ≡ furthest_of any_shadow t cs
furthest_any t cs = furthest_same (unread []) any_shadow (λ s. ap not (read_any_nil s.reads)) None (get_or cs t None ∷ cs)

-- the shadows of these slots
abbrev pub of_slots : Row → List ℕ → Row
of_slots shadows us = map (λ u. get_or shadows u None) us

-- only a shadow that is there is better
pub furthest_there : (test : Stand → Bool) (shadows : Row) (us : List ℕ) (best : Option Stand) → furthest test best (of_slots shadows (filter (has_shadow shadows) us)) ≡ furthest test best (of_slots shadows us)
furthest_there test shadows us best =
    skips (λ b vs. furthest test b (of_slots shadows vs)) (λ b u. better test b (get_or shadows u None)) (λ b u vs. refl) (has_shadow shadows) (λ b. Unit {0}) (λ b u k h. tt)
    (λ b u k h. ap (better test b) (none_is (get_or shadows u None) h)) us best tt

abbrev pub view : List (Option Shadow) → Row
view xs = map (option_map stand_of) xs

-- what is there is what stands for it
pub there_some : {X : Type 0} (o : Option X) (d : X) → is_some o ≡ true → o ≡ Some (unwrap_or o d)
there_some None d h = absurd (cc)
there_some (Some x) d h = refl

-- a row whose shadow for u is a copy of the one at i
pub set_copy : (xs : List (Option Shadow)) (u i : ℕ) → is_some (get_or (view xs) i None) ≡ true → view (set xs u (get_or xs i None)) ≡ set (view xs) u (Some (unwrap_or (get_or (view xs) i None) start))
set_copy xs u i h =
    map-set (option_map stand_of) xs u (get_or xs i None)
    ∙ ap (set (view xs) u) (sym (get_or-map (option_map stand_of) xs i None) ∙ there_some (get_or (view xs) i None) start h)

-- how many shadows there are, as a filter leaves them
pub count_filtered : (xs : List (Option Shadow)) → length (filter (λ o. is_some o) xs) ≡ count (view xs)
count_filtered [] = refl
count_filtered (None ∷ xs) = count_filtered xs
count_filtered (Some s ∷ xs) = ap suc (count_filtered xs)

-- what is there, seen through a view
module _ {X Y : Type 0} (f : X → Y) where
  pub eight_seen : (there : SlotSet) (xs : List X) → length xs ≡ 8 → length (map (option_map f) (flagged (flags there) xs)) ≡ 8
  eight_seen there xs l =
      let e = flags_eight there in
      simp length-map (flagged-length (flags there) xs (omega (arith, e, l)) ∙ e)

  pub some_seen : (os : List (Option X)) → map (λ x. is_some x) os ≡ map (λ x. is_some x) (map (option_map f) os)
  some_seen [] = refl
  some_seen (None ∷ os) = ap (λ bs. false ∷ bs) (some_seen os)
  some_seen (Some x ∷ os) = ap (λ bs. true ∷ bs) (some_seen os)

  -- the slots that there is one for
  pub slots_seen : (s : BySlot X) → length s.things ≡ 8 → map (λ x. is_some x) (by_slot s) ≡ map (λ u. is_some (get_or (map (option_map f) (by_slot s)) u None)) slots
  slots_seen s l = some_seen (by_slot s) ∙ flags_by_slot (map (option_map f) (by_slot s)) (eight_seen s.there s.things l)

  pub some_there : (o : Option X) → is_some (option_map f o) ≡ is_some o
  some_there None = refl
  some_there (Some x) = refl

  pub some_mapped : (xs : List (Option X)) (u : ℕ) → is_some (get_or (map (option_map f) xs) u None) ≡ is_some (get_or xs u None)
  some_mapped xs u = ap is_some (get_or-map (option_map f) xs u None) ∙ some_there (get_or xs u None)

-- what stands past a row's last place
abbrev pub no_shadow : Shadow
no_shadow = record {
  step = 0;
  registers = [];
  reads = record { items = []; len = 0 };
  own = record { items = []; len = 0 };
}

-- a row that has its leading shadow is spoiled just where the list leaves it none
module _ (own : List WriteEntry) (v : ℕ) (shadows : Row) (led : is_some (get_or shadows v None) ≡ true) where
  kept_or_spoiled : (o : Option Stand) → is_some o ≡ true → is_some (kept own o) ≡ not (spoils own o)
  kept_or_spoiled None h = absurd (true≢false (sym h))
  kept_or_spoiled (Some s) h =
      ⊎_elim
      (λ (b : has_read_any s.reads own ≡ true). rw b refl)
      (λ (b : has_read_any s.reads own ≡ false). rw b refl)
      (cases_Bool (has_read_any s.reads own))

  left : is_some (get_or (remaining own shadows) v None) ≡ not (spoils own (get_or shadows v None))
  left =
      ap is_some (get_or-map (kept own) shadows v None) ∙ kept_or_spoiled (get_or shadows v None) led

  -- its renewal has its leading shadow still
  pub still_led : is_some (get_or (renewed own v shadows) v None) ≡ true
  still_led =
      cond_both (spoils own (get_or shadows v None)) _ (remaining own shadows) (λ r. is_some (get_or r v None) ≡ true)
      (λ h. ap is_some (get_or-set_same (remaining own shadows) v (Some (unwrap_or (furthest_of any_shadow v (remaining own shadows)) start)) None (simp length-map (there-within shadows v (some_is (get_or shadows v None) led).0 (some_is (get_or shadows v None) led).1))))
      (λ h. left ∙ ap not h)

  pub renewed_spoiled : is_some (get_or (remaining own shadows) v None) ≡ false → set (remaining own shadows) v (Some (unwrap_or (furthest_of any_shadow v (remaining own shadows)) start)) ≡ renewed own v shadows
  renewed_spoiled gone =
      sym (cond-true (spoils own (get_or shadows v None)) _ _ (not-false (spoils own (get_or shadows v None)) (sym left ∙ gone)))

  pub renewed_kept : is_some (get_or (remaining own shadows) v None) ≡ true → remaining own shadows ≡ renewed own v shadows
  renewed_kept stays =
      sym (cond-false (spoils own (get_or shadows v None)) _ _ (not-true (spoils own (get_or shadows v None)) (sym left ∙ stays)))

-- a step of the shadow at a place of the row
module _ (set_there : SlotSet) (xs : List Shadow) (u : ℕ) (long : length xs ≡ 8) (there : is_some (get_or (view (flagged (flags set_there) xs)) u None) ≡ true) where
  abbrev bs : List Bool
  bs = flags set_there

  l : length bs ≡ length xs
  l = let e = flags_eight set_there in omega (arith, e, long)

  abbrev Shadows : List Shadow → RowHeld
  Shadows ys = record { shadows = record { there = set_there; things = ys } }

  stands : get_or bs u false ≡ true
  stands = flag-at bs xs u l ∙ sym (some_mapped stand_of (flagged bs xs) u) ∙ there

  pub lent_stand : get_or (view (flagged bs xs)) u None ≡ Some (stand_of (get_or xs u no_shadow))
  lent_stand =
      get_or-map (option_map stand_of) (flagged bs xs) u None
      ∙ ap (option_map stand_of) (flagged-at bs xs u no_shadow l ∙ ap (λ b. cond b (Some (get_or xs u no_shadow)) None) stands)

  lent_by : (t : Shadow) (k : Taken) (r : Result (Unit {0}) StoreFault) → Took (get_or xs u no_shadow) k r t → Lent (Shadows xs) u k r (Shadows (set xs u t))
  lent_by t (moved e) r h = (
    h.0,
    ap view (flag_stands bs xs u t stands) ∙ map-set (option_map stand_of) (flagged bs xs) u (Some t) ∙ ap (λ x. set (view (flagged bs xs)) u (Some x)) h.1,
  )
  lent_by t (off_pages p) r h = (h.0, ap Shadows (ap (set xs u) h.1 ∙ set-get_or xs u no_shadow))

  pub lent_step : (ar : Meaning) (pages : List ℕ) (st : Step) (t : Shadow) (r : Result (Unit {0}) StoreFault) → Took (get_or xs u no_shadow) (takes ar pages st (stand_of (get_or xs u no_shadow))) r t → Lent (Shadows xs) u (takes ar pages st (unwrap_or (get_or (view (flagged bs xs)) u None) start)) r (Shadows (set xs u t))
  lent_step ar pages st t r h =
      subst (λ o. Lent (Shadows xs) u (takes ar pages st (unwrap_or o start)) r (Shadows (set xs u t))) (sym lent_stand)
      (lent_by t (takes ar pages st (stand_of (get_or xs u no_shadow))) r h)
