use Rattle.std.proofs.Common.{◌≡◌, ◌∙◌, true, false, arith, sym}
use Rattle.pages.specs.Log.{sound}
use Rattle.pages.proofs.Logs.{sound-tested, used-tested, layout_of-then}
use Rattle.pages.proofs.log.Layout.of.Goals as goal

pub returns-then-not-are_below : goal.returns-then-not-are_below
returns-then-not-are_below c =
    let ws = c.args.words.now in
    let bad : c.are_below.result ≡ false = grind arith in
    let tested : sound ws ≡ false =
    sound-tested ws (omega arith) (omega arith) (omega arith) (omega arith) (omega arith) ∙ sym (c.are_below.ensures ∙ used-tested ws (omega arith)) ∙ bad in
    layout_of-then ws false tested

pub returns : goal.returns
returns c =
    let ws = c.args.words.now in
    let good : c.are_below.result ≡ true = grind arith in
    let tested : sound ws ≡ true =
    sound-tested ws (omega arith) (omega arith) (omega arith) (omega arith) (omega arith) ∙ sym (c.are_below.ensures ∙ used-tested ws (omega arith)) ∙ good in
    layout_of-then ws true tested
