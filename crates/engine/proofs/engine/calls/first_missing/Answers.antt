use Rattle.std.proofs.Common.{◌≡◌, leb, sym, ◌∙◌, rules}
use Rattle.std.proofs.lemmas.Iterator.{YieldsList-from_slice, YieldsList-from_map}
use Rattle.std.proofs.lemmas.Iterator.Adapters.{option_map_id}
use Rattle.std.proofs.lemmas.Iterator.Search.{find_from_yields_List}
use Rattle.serial.specs.Rules.{first_off}
use Rattle.engine.proofs.Offs.{off_found, off_inside}
use Rattle.engine.proofs.engine.calls.first_missing.Goals as goal
use borrow.Author.Tests.{tests}

told : (c : goal.After-find) → c.find.result ≡ first_off c.args.size c.args.own.now
told c =
    let pages = YieldsList-from_map _ (λ e. e.page) (YieldsList-from_slice c.args.own.now (search rules)) (search rules) (λ x r q k. search rules) in
    let found = find_from_yields_List (λ p. leb c.args.size p) _ _ c.find.result c.find.ensures.ran pages (λ x b q k. search (rules, tests)) in
    sym (option_map_id c.find.result) ∙ found ∙ off_found c.args.size c.args.own.now

pub returns-clause-rule : goal.returns-clause-rule
returns-clause-rule c = told c

pub returns-clause-inside : goal.returns-clause-inside
returns-clause-inside c = λ e. off_inside c.args.size c.args.own.now (sym (told c) ∙ e)
