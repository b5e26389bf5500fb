use Rattle.std.proofs.Common.{◌≡◌, ℕ, List, vec_items, slice_index, IfOk, refl, sym, subst, rules, tests, arith}
use Rattle.std.proofs.lemmas.Iterator.{items_from_collect, YieldsList-from_map, YieldsList-from_range}
use Rattle.std.proofs.lemmas.List.FromFn.{fill_by_all}
use Rattle.gorsepick.proofs.store.all_pages.Goals as goal

pub returns : goal.returns
returns g c =
    let all = g.R.Reader.pages c.args.reader.now in
    let word : ℕ → ℕ = λ page. slice_index all page in
    let n = c.size.result in
    let P : List ℕ → Type 0 = λ ws. IfOk c.collect.result (λ v. vec_items v ≡ ws) in
    subst P (sym (fill_by_all word all n 0 (sym c.size.ensures) (λ k l. refl)))
    (items_from_collect _ c.collect.ensures.ran
    (YieldsList-from_map _ word (YieldsList-from_range 0 n n (cc) (omega arith)) c.map.ensures.closure (λ x r q k. search (rules, tests))))
