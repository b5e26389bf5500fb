use Rattle.std.proofs.Common.{◌≡◌, ℕ, List, [], ◌∷◌, take, vec_items, IfOk, refl, subst, rules, tests}
use Rattle.std.specs.List.{filter_map, range_with_len, slice_get}
use Rattle.std.proofs.lemmas.Iterator.{items_from_collect, YieldsList-from_range}
use Rattle.std.proofs.lemmas.Iterator.Consumers.{YieldsList-from_filter_map}
use Rattle.gorsepick.proofs.answer.refusal_values.Goals as goal

first_three : (xs : List ℕ) → filter_map (λ i. slice_get xs i) (range_with_len 0 3) ≡ take 3 xs
first_three [] = refl
first_three (x ∷ []) = refl
first_three (x ∷ y ∷ []) = refl
first_three (x ∷ y ∷ z ∷ zs) = refl

pub returns : goal.returns
returns g c =
    let all = g.F.Refusal.returned c.args.fault.now in
    let P : List ℕ → Type 0 = λ vs. IfOk c.collect.result (λ v. vec_items v ≡ vs) in
    subst P (first_three all)
    (items_from_collect _ c.collect.ensures.ran
    (YieldsList-from_filter_map _ (λ i. slice_get all i) (YieldsList-from_range 0 3 3 (cc) refl) c.filter_map.ensures.closure
    (λ x r q k. search (rules, tests))))
