-- Loops over the members of a set of slots, in place of loops over all slots. Assumes nothing.
use Rattle.std.proofs.Common.{◌≡◌, ℕ, Bool, true, false, cond, List, [], ◌∷◌, map, length, get_or, drop, set, is_some, None, Some, Option, MatchOption, sym, refl, ap, ◌≢◌, ◌∙◌, subst, arith}
use Rattle.std.specs.List.{filter, find}
use Rattle.std.proofs.lemmas.List.{set-get_or, get_or-set_other}
use Rattle.std.proofs.lemmas.Bool.{cond_both, true≢false}
use Rattle.serial.specs.Rules.{slots}
use Rattle.engine.specs.SlotSet.{is_member, flags, members}
use Rattle.engine.specs.declared.slot_set.SlotSet.{SlotSet}

-- a loop G that does F at one slot after the other may pass those at which F does nothing
module _ {E : Type 0} (G : E → List ℕ → E) (F : E → ℕ → E) (turn : (e : E) (u : ℕ) (us : List ℕ) → G e (u ∷ us) ≡ G (F e u) us) where
  module _ (q : ℕ → Bool) (Kept : E → Type 0) (stays : (e : E) (u : ℕ) → Kept e → q u ≡ true → Kept (F e u)) (same : (e : E) (u : ℕ) → Kept e → q u ≡ false → F e u ≡ e) where
    pub skips : (us : List ℕ) (e : E) → Kept e → G e (filter q us) ≡ G e us
    skips [] e k = refl
    skips (u ∷ us) e k =
        cond_both (q u) (u ∷ filter q us) (filter q us) (λ vs. G e vs ≡ G e (u ∷ us))
        (λ h. turn e u (filter q us) ∙ skips us (F e u) (stays e u k h) ∙ sym (turn e u us))
        (λ h. skips us e k ∙ ap (λ x. G x us) (sym (same e u k h)) ∙ sym (turn e u us))

-- a loop that puts g of what stands there at one slot after the other
module _ {X : Type 0} (g : ℕ → X → X) (d : X) where
  abbrev pub put_at : List X → ℕ → List X
  put_at xs u = set xs u (g u (get_or xs u d))

  abbrev pub puts : List X → List ℕ → List X
  puts xs [] = xs
  puts xs (u ∷ us) = puts (put_at xs u) us

  pub skip_puts : (q : ℕ → Bool) (xs : List X) (us : List ℕ) → ((u : ℕ) → q u ≡ false → g u (get_or xs u d) ≡ get_or xs u d) → puts xs (filter q us) ≡ puts xs us
  skip_puts q xs us still = skips puts put_at (λ ys u vs. refl) q (λ ys. (u : ℕ) → q u ≡ false → get_or ys u d ≡ get_or xs u d) stays same us xs (λ u h. refl)
    where
      stays : (ys : List X) (u : ℕ) → ((v : ℕ) → q v ≡ false → get_or ys v d ≡ get_or xs v d) → q u ≡ true → (v : ℕ) → q v ≡ false → get_or (put_at ys u) v d ≡ get_or xs v d
      stays ys u k h v f =
          get_or-set_other ys u v (g u (get_or ys u d)) d (λ e. true≢false (sym h ∙ ap q (sym e) ∙ f)) ∙ k v f

      same : (ys : List X) (u : ℕ) → ((v : ℕ) → q v ≡ false → get_or ys v d ≡ get_or xs v d) → q u ≡ false → put_at ys u ≡ ys
      same ys u k h =
          ap (set ys u) (ap (g u) (k u h) ∙ still u h ∙ sym (k u h)) ∙ set-get_or ys u d

-- a list of eight by its places
pub eight_places : {X : Type 0} (xs : List X) (d : X) → length xs ≡ 8 → xs ≡ map (λ u. get_or xs u d) slots
eight_places [] d l = absurd (omega arith)
eight_places (a ∷ []) d l = absurd (omega arith)
eight_places (a ∷ b ∷ []) d l = absurd (omega arith)
eight_places (a ∷ b ∷ c ∷ []) d l = absurd (omega arith)
eight_places (a ∷ b ∷ c ∷ e ∷ []) d l = absurd (omega arith)
eight_places (a ∷ b ∷ c ∷ e ∷ f ∷ []) d l = absurd (omega arith)
eight_places (a ∷ b ∷ c ∷ e ∷ f ∷ g ∷ []) d l = absurd (omega arith)
eight_places (a ∷ b ∷ c ∷ e ∷ f ∷ g ∷ h ∷ []) d l = absurd (omega arith)
eight_places (a ∷ b ∷ c ∷ e ∷ f ∷ g ∷ h ∷ i ∷ []) d l = refl
eight_places (a ∷ b ∷ c ∷ e ∷ f ∷ g ∷ h ∷ i ∷ j ∷ xs) d l = absurd (omega arith)

pub puts_all : {X : Type 0} (g : X → X) (xs : List X) (d : X) → length xs ≡ 8 → puts (λ u. g) d xs slots ≡ map g xs
puts_all g xs d l = subst (λ ys. puts (λ u. g) d ys slots ≡ map g ys) (sym (eight_places xs d l)) refl

-- the members of a set with these flags
module _ (f g : ℕ → Bool) where
  pub same_filter : (us : List ℕ) → map f us ≡ map g us → filter f us ≡ filter g us
  same_filter [] h = refl
  same_filter (u ∷ us) h =
      ap (λ b. cond b (u ∷ filter f us) (filter f us)) (ap (λ bs. get_or bs 0 false) h)
      ∙ ap (λ vs. cond (g u) (u ∷ vs) vs) (same_filter us (ap (drop 1) h))

pub members_from : (s : SlotSet) (p : ℕ → Bool) → flags s ≡ map p slots → members s ≡ filter p slots
unfolding flags members
members_from s p h = same_filter (is_member s) p slots h

pub flags_by_slot : {X : Type 0} (xs : List (Option X)) → length xs ≡ 8 → map (λ x. is_some x) xs ≡ map (λ u. is_some (get_or xs u None)) slots
flags_by_slot xs l = ap (map (λ x. is_some x)) (eight_places xs None l)

-- each of a list
abbrev pub Each : {X : Type 0} → (X → Type 0) → List X → Type 0
Each P [] = Unit {0}
Each P (x ∷ xs) = P x × Each P xs

-- the first that passes comes first among those that pass
module _ {X : Type 0} (p : X → Bool) where
  abbrev pub head_of : List X → Option X
  head_of [] = None
  head_of (x ∷ xs) = Some x

  found_first : (xs : List X) → find p xs ≡ head_of (filter p xs)
  found_first [] = refl
  found_first (x ∷ xs) = by (p x) (found_first xs)
    where
      by : (b : Bool) → find p xs ≡ head_of (filter p xs) → cond b (Some x) (find p xs) ≡ head_of (cond b (x ∷ filter p xs) (filter p xs))
      by true h = refl
      by false h = h

  pub first_is : (xs : List X) (r : Option X) (left : List X) → MatchOption r ((filter p xs ≡ []) × (left ≡ [])) (λ x. filter p xs ≡ x ∷ left) → r ≡ find p xs
  first_is xs None left h = sym (found_first xs ∙ ap head_of h.0)
  first_is xs (Some x) left h = sym (found_first xs ∙ ap head_of h)

  pub all_pass : (xs : List X) → Each (λ x. p x ≡ true) (filter p xs)
  all_pass [] = tt
  all_pass (x ∷ xs) =
      cond_both (p x) (x ∷ filter p xs) (filter p xs) (Each (λ y. p y ≡ true)) (λ h. (h, all_pass xs)) (λ _. all_pass xs)

pub each_filter : {X : Type 0} (P : X → Type 0) (p : X → Bool) (xs : List X) → Each P xs → Each P (filter p xs)
each_filter P p [] h = tt
each_filter P p (x ∷ xs) h =
    let rest = each_filter P p xs h.1 in
    cond_both (p x) (x ∷ filter p xs) (filter p xs) (Each P) (λ _. (h.0, rest)) (λ _. rest)

-- no slot comes twice
abbrev pub Apart : List ℕ → Type 0
Apart [] = Unit {0}
Apart (u ∷ us) = Each (λ v. v ≢ u) us × Apart us

pub apart_filter : (p : ℕ → Bool) (us : List ℕ) → Apart us → Apart (filter p us)
apart_filter p [] h = tt
apart_filter p (u ∷ us) h =
    let rest = apart_filter p us h.1 in
    cond_both (p u) (u ∷ filter p us) (filter p us) Apart (λ _. (each_filter (λ v. v ≢ u) p us h.0, rest)) (λ _. rest)

pub slots_apart : Apart slots
slots_apart = omega arith

pub each_more : {X : Type 0} {P Q : X → Type 0} → ((x : X) → P x → Q x) → (xs : List X) → Each P xs → Each Q xs
each_more f [] h = tt
each_more f (x ∷ xs) h = (f x h.0, each_more f xs h.1)

pub each_both : {X : Type 0} {P Q R : X → Type 0} → ((x : X) → P x → Q x → R x) → (xs : List X) → Each P xs → Each Q xs → Each R xs
each_both f [] h k = tt
each_both f (x ∷ xs) h k = (f x h.0 k.0, each_both f xs h.1 k.1)
