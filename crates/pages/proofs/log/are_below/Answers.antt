use Rattle.std.proofs.Common.{◌≡◌, max, fold, nat_lt, length, sym, ap, ◌∙◌, arith}
use Rattle.std.proofs.lemmas.Bool.{eqb-false}
use Rattle.std.proofs.lemmas.Grind.{common_steps}
use Rattle.pages.proofs.Entries.{highest-all_below}
use Rattle.pages.proofs.log.are_below.Goals as goal

pub returns-else-is_empty : goal.returns-else-is_empty
returns-else-is_empty c =
    let folded : c.fold-highest.result ≡ fold (λ highest n. max n highest) 0 c.args.numbers.now = grind (arith, common_steps) in
    let some = eqb-false (length c.args.numbers.now) 0 (sym c.if-is_empty.ensures) in
    ap (λ n. nat_lt n c.args.limit) folded
    ∙ highest-all_below c.args.limit c.args.numbers.now (omega (arith, some))
