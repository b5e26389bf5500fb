use Rattle.std.proofs.Common.{◌≡◌, eqb, sym, rules}
use Rattle.std.proofs.lemmas.Iterator.{YieldsList-from_slice}
use Rattle.std.proofs.lemmas.Iterator.Search.{position_from_yields_List}
use Rattle.std.specs.List.{position}
use Rattle.engine.proofs.Lists.{placed}
use Rattle.engine.proofs.shadow.place.Goals as goal
use borrow.Author.Tests.{tests}

pub returns : goal.returns
returns c =
    let found : c.position.result ≡ position (λ e. eqb e.page c.args.page) c.args.own.now = position_from_yields_List (λ e. eqb e.page c.args.page) _ _ c.position.result c.position.ensures.ran (YieldsList-from_slice c.args.own.now cc) (λ x b q k. search (rules, tests)) in
    placed c.args.page c.args.own.now c.position.result (sym found)
