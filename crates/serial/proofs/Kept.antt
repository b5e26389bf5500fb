-- The invariant that every call keeps, and that accounting keeps it. Assumes nothing.
use Rattle.std.proofs.Common.{◌≡◌, ℕ, ◌<◌, ◌≤◌, Bool, true, false, ltb, ◌≢◌, List, get_or, set, is_some, Some, None, Option, unwrap_or, sym, refl, ap, ◌∙◌, subst, ⊎_elim, arith}
use Rattle.std.proofs.lemmas.Bool.{cases_Bool, cases_eq, cond-true, cond-false, or_cases, or_parts, ltb-true, ltb-false, not-true, true≢false, both_ways}
use Rattle.script.specs.Laws.{EndsAtEnd}
use Rattle.serial.specs.declared.ReadEntry.{ReadEntry}
use Rattle.serial.specs.Machine.{Meaning, Steps, Stand, start, has_read_any}
use Rattle.serial.specs.Laws.{Leads, here}
use Rattle.serial.specs.Rules.{Engine, script_of, is_open, row, shadow, with_shadow, own_of, lead_writes, clean, furthest_of, count, has_room, account}
use Rattle.serial.proofs.Table.{none_is_some, some_is, none_is, Sized, row_put, row_put_other, shadow_put, shadow_put_place, shadow_put_row, sized_put, count_set, count_add, count_free, furthest_of_among}

-- reads for which nothing is promised of the shadow for a slot: none, but halfway through a write's accounting
abbrev pub Exempt : Type 0
Exempt = ℕ → List ReadEntry → Bool

abbrev pub no_exempt : Exempt
no_exempt u rs = false

-- where there is room, a shadow that is put keeps the row within the allowance
pub count_room : (e : Engine) (v u : ℕ) → count (row e v) ≤ e.allowance → has_room e v u ≡ true → (s : Stand) → count (set (row e v) u (Some s)) ≤ e.allowance
count_room e v u few h s =
    ⊎_elim
    (λ (a : is_some (shadow e v u) ≡ true). let o = some_is (shadow e v u) a in omega (arith, count_set (row e v) u o.0 s o.1))
    (λ (a : ltb (count (row e v)) e.allowance ≡ true). omega (arith, ltb-true (count (row e v)) e.allowance a, count_add (row e v) u s))
    (or_cases (is_some (shadow e v u)) (ltb (count (row e v)) e.allowance) h)

module _ (ar : Meaning) (pages : List ℕ) where
  -- what holds of the shadows of slot v
  pub record RowInv (x : Exempt) (e : Engine) (v : ℕ) : Type 0 where
    pub few : count (row e v) ≤ e.allowance
    pub bare : script_of e v ≡ None → (u : ℕ) → shadow e v u ≡ None
    pub led : (sc : Steps) → script_of e v ≡ Some sc → is_some (shadow e v v) ≡ true
    pub ends : (sc : Steps) → script_of e v ≡ Some sc → EndsAtEnd sc
    pub for_open : (u : ℕ) (s : Stand) → shadow e v u ≡ Some s → is_open e u ≡ true
    -- each is reached by its script run alone over the pages
    pub reached : (sc : Steps) (u : ℕ) (s : Stand) → script_of e v ≡ Some sc → shadow e v u ≡ Some s → Leads ar sc pages start s
    -- none is past the leading one
    pub behind : (u : ℕ) (s l : Stand) → shadow e v u ≡ Some s → shadow e v v ≡ Some l → s.step ≤ l.step
    -- a shadow for u has read nothing that u's leading shadow has written
    pub apart : (u : ℕ) (s : Stand) → u ≢ v → shadow e v u ≡ Some s → x u s.reads ≡ false → has_read_any s.reads (lead_writes e u) ≡ false
    -- under allowance 8, where the leading shadow has read what u's has written, there is a shadow for u
    pub covered : e.allowance ≡ 8 → (u : ℕ) (l : Stand) → u ≢ v → shadow e v v ≡ Some l → x u l.reads ≡ false → has_read_any l.reads (lead_writes e u) ≡ true → is_some (shadow e v u) ≡ true

  pub record Inv (x : Exempt) (e : Engine) : Type 0 where
    pub sized : Sized e
    pub allowed : (1 ≤ e.allowance) × (e.allowance ≤ 8)
    pub rows : (v : ℕ) → RowInv x e v

  -- a row stays as it is where its shadows, the scripts, the allowance and what other slots' leading shadows wrote stay
  pub row_like : (x x' : Exempt) (e e' : Engine) (v : ℕ) → e'.allowance ≡ e.allowance → e'.scripts ≡ e.scripts → row e' v ≡ row e v
      → ((u : ℕ) → u ≢ v → lead_writes e' u ≡ lead_writes e u) → ((u : ℕ) (rs : List ReadEntry) → x' u rs ≡ false → x u rs ≡ false)
      → RowInv x e v → RowInv x' e' v
  row_like x x' e e' v k sc same leads weaker i =
      let at : (u : ℕ) → shadow e' v u ≡ shadow e v u = λ u. ap (λ r. get_or r u None) same in
      let scripts : (u : ℕ) → script_of e' u ≡ script_of e u = λ u. ap (λ xs. get_or xs u None) sc in
      record {
        few = subst (λ r. count r ≤ e'.allowance) (sym same) (subst (λ n. count (row e v) ≤ n) (sym k) i.few);
        bare = λ h u. at u ∙ i.bare (sym (scripts v) ∙ h) u;
        led = λ z h. ap is_some (at v) ∙ i.led z (sym (scripts v) ∙ h);
        ends = λ z h. i.ends z (sym (scripts v) ∙ h);
        for_open = λ u s h. ap is_some (scripts u) ∙ i.for_open u s (sym (at u) ∙ h);
        reached = λ z u s h q. i.reached z u s (sym (scripts v) ∙ h) (sym (at u) ∙ q);
        behind = λ u s l h q. i.behind u s l (sym (at u) ∙ h) (sym (at v) ∙ q);
        apart = λ u s ne h q. ap (has_read_any s.reads) (leads u ne) ∙ i.apart u s ne (sym (at u) ∙ h) (weaker u s.reads q);
        covered = λ m u l ne h q r. ap is_some (at u) ∙ i.covered (sym k ∙ m) u l ne (sym (at v) ∙ h) (weaker u l.reads q) (sym (ap (has_read_any l.reads) (leads u ne)) ∙ r);
      }

  -- a shadow that may be put in v's place for u
  pub record Fork (e : Engine) (v u : ℕ) (s : Stand) : Type 0 where
    pub reached : (sc : Steps) → script_of e v ≡ Some sc → Leads ar sc pages start s
    pub behind : (l : Stand) → shadow e v v ≡ Some l → s.step ≤ l.step
    pub unread : has_read_any s.reads (lead_writes e u) ≡ false
    pub room : count (set (row e v) u (Some s)) ≤ e.allowance

  module _ (x : Exempt) (e : Engine) (i : Inv x e) (v u : ℕ) (ne : u ≢ v) (v_in : v < 8) (u_in : u < 8) where
    -- a fork leaves every leading shadow where it is
    pub fork_leads : (o : Option Stand) (w : ℕ) → shadow (with_shadow e v u o) w w ≡ shadow e w w
    fork_leads o w =
        ⊎_elim
        (λ (q : w ≡ v). let apart : w ≢ u = λ z. ne (sym z ∙ q) in subst (λ m. shadow (with_shadow e v u o) m w ≡ shadow e m w) (sym q) (shadow_put_place e i.sized v u v_in u_in o w apart))
        (λ (q : w ≡ v → ⊥). shadow_put_row e i.sized v u v_in u_in o w w q)
        (cases_eq w v)

    -- the forked row; reads against u are exempt no more
    fork_row : (x' : Exempt) → ((w : ℕ) (rs : List ReadEntry) → w ≢ u → x' w rs ≡ false → x w rs ≡ false) → (s : Stand) → is_open e v ≡ true → is_open e u ≡ true → Fork e v u s → RowInv x' (with_shadow e v u (Some s)) v
    fork_row x' weaker s v_open u_open f =
        let e' = with_shadow e v u (Some s) in
        let r = i.rows v in
        let here_now : shadow e' v u ≡ Some s = shadow_put e i.sized v u v_in u_in (Some s) in
        let other : (w : ℕ) → w ≢ u → shadow e' v w ≡ shadow e v w = shadow_put_place e i.sized v u v_in u_in (Some s) in
        let lead = fork_leads (Some s) in
        let writes : (w : ℕ) → lead_writes e' w ≡ lead_writes e w = λ w. ap own_of (lead w) in
        -- the forked shadow, or an old one
        let is_fork : (w : ℕ) (y : Stand) → w ≡ u → shadow e' v w ≡ Some y → s ≡ y = λ w y q h. let z : Some s ≡ Some y = sym here_now ∙ ap (shadow e' v) (sym q) ∙ h in cc in
        record {
          few = subst (λ cs. count cs ≤ e.allowance) (sym (row_put e i.sized v u v_in u_in (Some s))) f.room;
          bare = λ h w. absurd (true≢false (sym v_open ∙ ap is_some h));
          led = λ z h. ap is_some (lead v) ∙ r.led z h;
          ends = r.ends;
          for_open = λ w y h. ⊎_elim (λ (q : w ≡ u). ap (is_open e) q ∙ u_open) (λ (q : w ≡ u → ⊥). r.for_open w y (sym (other w q) ∙ h)) (cases_eq w u);
          reached = λ z w y h k. ⊎_elim (λ (q : w ≡ u). subst (Leads ar z pages start) (is_fork w y q k) (f.reached z h)) (λ (q : w ≡ u → ⊥). r.reached z w y h (sym (other w q) ∙ k)) (cases_eq w u);
          behind = λ w y l h k. ⊎_elim (λ (q : w ≡ u). subst (λ a. a.step ≤ l.step) (is_fork w y q h) (f.behind l (sym (lead v) ∙ k))) (λ (q : w ≡ u → ⊥). r.behind w y l (sym (other w q) ∙ h) (sym (lead v) ∙ k)) (cases_eq w u);
          apart = λ w y d h k. ⊎_elim
              (λ (q : w ≡ u). subst (λ a. has_read_any a.reads (lead_writes e' w) ≡ false) (is_fork w y q h) (ap (has_read_any s.reads) (writes w ∙ ap (lead_writes e) q) ∙ f.unread))
              (λ (q : w ≡ u → ⊥). ap (has_read_any y.reads) (writes w) ∙ r.apart w y d (sym (other w q) ∙ h) (weaker w y.reads q k))
              (cases_eq w u);
          covered = λ m w l d h k c. ⊎_elim
              (λ (q : w ≡ u). ap is_some (ap (shadow e' v) q ∙ here_now))
              (λ (q : w ≡ u → ⊥). ap is_some (other w q) ∙ r.covered m w l d (sym (lead v) ∙ h) (weaker w l.reads q k) (sym (ap (has_read_any l.reads) (writes w)) ∙ c))
              (cases_eq w u);
        }

    -- the other rows stay
    fork_others : (s : Stand) (w : ℕ) → w ≢ v → RowInv x (with_shadow e v u (Some s)) w
    fork_others s w d =
        row_like x x e (with_shadow e v u (Some s)) w refl refl (row_put_other e i.sized v u v_in u_in (Some s) w d) (λ y q. ap own_of (fork_leads (Some s) y)) (λ y rs h. h) (i.rows w)

    -- a fork keeps the invariant
    pub fork_inv : (s : Stand) → is_open e v ≡ true → is_open e u ≡ true → Fork e v u s → Inv x (with_shadow e v u (Some s))
    fork_inv s v_open u_open f = record {
      sized = sized_put e i.sized v u v_in u_in (Some s);
      allowed = i.allowed;
      rows = λ w. ⊎_elim
          (λ (q : w ≡ v). subst (RowInv x (with_shadow e v u (Some s))) (sym q) (fork_row x (λ y rs d z. z) s v_open u_open f))
          (λ (q : w ≡ v → ⊥). fork_others s w q)
          (cases_eq w v);
    }

    -- what accounting puts
    abbrev pub forked : Stand
    forked = unwrap_or (furthest_of (clean e u) v (row e v)) start

    forked_fork : (o : Option Stand) → furthest_of (clean e u) v (row e v) ≡ o → has_room e v u ≡ true → Fork e v u (unwrap_or o start)
    forked_fork None q room = record {
      reached = λ sc h. here;
      behind = λ l h. omega arith;
      unread = refl;
      room = count_room e v u (i.rows v).few room start;
    }
    forked_fork (Some s) q room =
        let a = furthest_of_among (clean e u) v (row e v) s q in
        record {
          reached = λ sc h. (i.rows v).reached sc a.0 s h a.1;
          behind = λ l h. (i.rows v).behind a.0 s l a.1 h;
          unread = not-true (has_read_any s.reads (lead_writes e u)) a.2;
          room = count_room e v u (i.rows v).few room s;
        }

    pub account_forks : has_room e v u ≡ true → account e v u ≡ with_shadow e v u (Some forked)
    account_forks h = cond-true (has_room e v u) (with_shadow e v u (Some forked)) e h

    pub account_stays : has_room e v u ≡ false → account e v u ≡ e
    account_stays h = cond-false (has_room e v u) (with_shadow e v u (Some forked)) e h

    -- what accounting keeps in any case: leading shadows, scripts, the allowance, and every shadow that is there
    pub record Accounted (e' : Engine) : Type 0 where
      pub leads : (w : ℕ) → shadow e' w w ≡ shadow e w w
      pub scripts : e'.scripts ≡ e.scripts
      pub allowance : e'.allowance ≡ e.allowance
      pub others : (w y : ℕ) → (w ≡ v → y ≡ u → ⊥) → shadow e' w y ≡ shadow e w y
      pub lasts : (w y : ℕ) → is_some (shadow e w y) ≡ true → is_some (shadow e' w y) ≡ true
      pub rows : (w : ℕ) → w ≢ v → row e' w ≡ row e w

    pub accounted : Accounted (account e v u)
    accounted =
        ⊎_elim
        (λ (h : has_room e v u ≡ true).
        subst Accounted (sym (account_forks h)) (record {
          leads = fork_leads (Some forked);
          scripts = refl;
          allowance = refl;
          others = put_others;
          rows = λ w q. row_put_other e i.sized v u v_in u_in (Some forked) w q;
          lasts = λ w y a. ⊎_elim
              (λ (q : w ≡ v). ⊎_elim
              (λ (p : y ≡ u). ap is_some (subst (λ m. shadow (with_shadow e v u (Some forked)) m y ≡ Some forked) (sym q) (subst (λ m. shadow (with_shadow e v u (Some forked)) v m ≡ Some forked) (sym p) (shadow_put e i.sized v u v_in u_in (Some forked)))))
              (λ (p : y ≡ u → ⊥). ap is_some (put_others w y (λ _ z. p z)) ∙ a)
              (cases_eq y u))
              (λ (q : w ≡ v → ⊥). ap is_some (put_others w y (λ z _. q z)) ∙ a)
              (cases_eq w v);
        }))
        (λ (h : has_room e v u ≡ false).
        subst Accounted (sym (account_stays h)) (record { leads = λ w. refl; scripts = refl; allowance = refl; others = λ w y d. refl; lasts = λ w y a. a; rows = λ w q. refl }))
        (cases_Bool (has_room e v u))
      where
        put_others : (w y : ℕ) → (w ≡ v → y ≡ u → ⊥) → shadow (with_shadow e v u (Some forked)) w y ≡ shadow e w y
        put_others w y d =
            ⊎_elim
            (λ (q : w ≡ v). subst (λ m. shadow (with_shadow e v u (Some forked)) m y ≡ shadow e m y) (sym q) (shadow_put_place e i.sized v u v_in u_in (Some forked) y (d q)))
            (λ (q : w ≡ v → ⊥). shadow_put_row e i.sized v u v_in u_in (Some forked) w y q)
            (cases_eq w v)

    -- accounting keeps the invariant
    pub account_inv : is_open e v ≡ true → is_open e u ≡ true → Inv x (account e v u)
    account_inv v_open u_open =
        ⊎_elim
        (λ (h : has_room e v u ≡ true).
        subst (Inv x) (sym (account_forks h)) (fork_inv forked v_open u_open (forked_fork (furthest_of (clean e u) v (row e v)) refl h)))
        (λ (h : has_room e v u ≡ false). subst (Inv x) (sym (account_stays h)) i)
        (cases_Bool (has_room e v u))

    -- under allowance 8 there is always room
    pub room_for_all : e.allowance ≡ 8 → has_room e v u ≡ true
    room_for_all k =
        ⊎_elim
        (λ (h : has_room e v u ≡ true). h)
        (λ (h : has_room e v u ≡ false).
        let parts = or_parts (is_some (shadow e v u)) (ltb (count (row e v)) e.allowance) h in
        let full = ltb-false (count (row e v)) e.allowance parts.1 in
        let long = i.sized.places v v_in in
        let free = count_free (row e v) u (omega arith) (none_is (shadow e v u) parts.0) in
        absurd (omega arith))
        (cases_Bool (has_room e v u))

    pub account-there : has_room e v u ≡ true → is_some (shadow (account e v u) v u) ≡ true
    account-there h = ap is_some (ap (λ z. shadow z v u) (account_forks h) ∙ shadow_put e i.sized v u v_in u_in (Some forked))

    -- after accounting nothing is exempt in the row for u
    pub account-row : (x' : Exempt) → ((w : ℕ) (rs : List ReadEntry) → w ≢ u → x' w rs ≡ false → x w rs ≡ false) → is_open e v ≡ true → is_open e u ≡ true → RowInv x' (account e v u) v
    account-row x' weaker v_open u_open =
        ⊎_elim
        (λ (h : has_room e v u ≡ true). subst (λ z. RowInv x' z v) (sym (account_forks h)) (fork_row x' weaker forked v_open u_open (forked_fork (furthest_of (clean e u) v (row e v)) refl h)))
        (λ (h : has_room e v u ≡ false). subst (λ z. RowInv x' z v) (sym (account_stays h)) (stays h))
        (cases_Bool (has_room e v u))
      where
        stays : has_room e v u ≡ false → RowInv x' e v
        stays h =
            let r = i.rows v in
            let gone : shadow e v u ≡ None = none_is (shadow e v u) (or_parts (is_some (shadow e v u)) (ltb (count (row e v)) e.allowance) h).0 in
            record {
              few = r.few;
              bare = r.bare;
              led = r.led;
              ends = r.ends;
              for_open = r.for_open;
              reached = r.reached;
              behind = r.behind;
              apart = λ w y d q k. ⊎_elim (λ (z : w ≡ u). none_is_some y (sym gone ∙ ap (shadow e v) (sym z) ∙ q)) (λ (z : w ≡ u → ⊥). r.apart w y d q (weaker w y.reads z k)) (cases_eq w u);
              covered = λ m w l d q k c. absurd (both_ways (has_room e v u) h (room_for_all m));
            }
