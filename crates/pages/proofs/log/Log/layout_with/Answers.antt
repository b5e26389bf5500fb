use Rattle.std.proofs.Common.{rules, ◌≡◌, ℕ, ◌<◌, ◌≤◌, length, Option, Some, None, List, Bool, true, false, nat_lt, MatchResult, refl, sym, subst, arith}
use Rattle.std.specs.Option.{MatchOption, ok_or}
use Rattle.std.specs.Bool.{then_some}
use Rattle.std.proofs.lemmas.Bool.{ltb-true, ltb-false}
use Rattle.pages.specs.declared.StoreFault.{StoreFault}
use Rattle.pages.specs.declared.log.Layout.{Layout}
use Rattle.pages.specs.Log.{layout_of, log_pages}
use Rattle.pages.specs.Pages.{fault_at}
use Rattle.pages.proofs.Logs.{layout-pages, no_layout}
use Rattle.pages.proofs.log.Log.layout_with.Goals as goal

-- what a page's test leaves of the layout
module _ (ws : List ℕ) (page : ℕ) where
  abbrev Kept : Option Layout → Type 0
  Kept r = MatchOption r (length (log_pages ws) ≤ page) (λ x. (layout_of ws ≡ Some x) × (page < x.size))

  kept : (P : Layout → Bool → Type 0) → ((x : Layout) (b : Bool) → P x b → b ≡ nat_lt page x.size) → (l : Option Layout) → l ≡ layout_of ws → (r : Option Layout)
      → MatchOption l (r ≡ None) (λ x. (b : Bool) × P x b × (r ≡ then_some b x)) → Kept r
  kept P says None e r q = subst Kept (sym q) (omega (arith, no_layout ws (sym e)))
  kept P says (Some l) e r (true, w, q) = subst Kept (sym q) (sym e, ltb-true page l.size (sym (says l true w)))
  kept P says (Some l) e r (false, w, q) = subst Kept (sym q) (omega (arith, ltb-false page l.size (sym (says l false w)), layout-pages ws l (sym e)))

  told_of : (r : Option Layout) (f : StoreFault) → f ≡ fault_at page → Kept r
      → MatchResult (ok_or r f) (λ l. (layout_of ws ≡ Some l) × (page < l.size)) (λ g. (g ≡ fault_at page) × (length (log_pages ws) ≤ page))
  told_of None f e k = (e, k)
  told_of (Some x) f e k = k

pub returns : goal.returns
returns c =
    let ws = c.args.self.now.words.now in let page = c.args.page in
    subst (λ t. MatchResult t (λ l. (layout_of ws ≡ Some l) × (page < l.size)) (λ g. (g ≡ fault_at page) × (length (log_pages ws) ≤ page))) (sym c.ok_or.ensures.value)
    (told_of ws page c.filter.result _ refl (kept ws page _ (λ x b p. search rules) c.args.self.now.layout c.args.self.now.ok c.filter.result c.filter.ensures))
