use Rattle.std.proofs.Common.{rules, sym, ◌∙◌, arith}
use Rattle.pages.proofs.Logs.{split-parts, base_in, found_in, none_in, layout-sound, layout-size}
use Rattle.pages.proofs.log.Layout.find.Goals as goal

pub returns-in-Some : goal.returns-in-Some
returns-in-Some c =
    let ws = c.args.words.now in
    let layout = c.args.self in
    let fits = c.requires.fits in
    let sizes = c.split_at.ensures in
    let base = c.split_at-2.ensures in
    let pages = c.split_at-3.ensures in
    let parts = split-parts ws _ _ _ _ _ _ layout fits sizes.by_index.0 base.by_index.0 pages.by_index.0 sizes.front_len base.front_len pages.front_len in
    let h = layout-sound ws layout fits in
    found_in ws _ _ _ _ h parts c.args.page _ c.in-Some.i (search rules) (search rules) (search rules)

pub returns-in-None : goal.returns-in-None
returns-in-None c =
    let ws = c.args.words.now in
    let layout = c.args.self in
    let fits = c.requires.fits in
    let sizes = c.split_at.ensures in
    let base = c.split_at-2.ensures in
    let pages = c.split_at-3.ensures in
    let parts = split-parts ws _ _ _ _ _ _ layout fits sizes.by_index.0 base.by_index.0 pages.by_index.0 sizes.front_len base.front_len pages.front_len in
    let h = layout-sound ws layout fits in
    let word = base_in ws _ _ _ _ h parts c.args.page (omega (arith, layout-size ws layout fits)) in
    sym word ∙ none_in ws _ _ _ _ h parts c.args.page _ (search rules)
