use Rattle.std.proofs.Common.{rules, ◌≤◌, ◌<◌, ◌∙◌, sym, arith, get_or, [], ⊎_elim, Less, Equal, Greater}
use Rattle.std.specs.Int.{w32, from_be_bytes}
use Rattle.std.specs.Ordering.{nat_cmp, ordering_index}
use Rattle.std.specs.Cmp.{ranked}
use Rattle.std.proofs.lemmas.Bool.{cases_lt}
use Rattle.std.proofs.lemmas.List.Sorted.{answers_always, IsNonDecreasingBy-from_default}
use Rattle.pages.specs.Image.{image_named, named_page, named_word}
use Rattle.pages.proofs.Entries.{latest_at, latest_none}
use Rattle.pages.proofs.Images.{rising, rising_le, ordered}
use Rattle.pages.proofs.image.Image.find.Goals as goal

pub returns-in-Ok : goal.returns-in-Ok
returns-in-Ok c =
    let image = c.args.self.now in
    let bs = image.bytes.now in
    let i = c.in-Ok.i in
    let e = c.entries.ensures in
    let below : i < image_named bs = omega (arith, c.in-Ok.ensures.bound) in
    let here = ranked _ _ Equal (sym (c.in-Ok.ensures.position (from_be_bytes w32) (answers_always _ _ _ (λ f a r g h. search rules)) [])) in
    c.from_be_bytes.ensures ∙ e.word i (omega arith)
    ∙ sym (latest_at (named_page bs) (named_word bs) c.args.page 0 (image_named bs) i below (sym (e.page i (omega arith)) ∙ here)
    (λ k l m p. let above = rising bs image.sound i k l m in omega (arith, e.page i (omega arith), here)))

pub returns-in-Err : goal.returns-in-Err
returns-in-Err c =
    let image = c.args.self.now in
    let bs = image.bytes.now in
    let ns = c.entries.result.0.now in
    let e = c.entries.ensures in
    let order = IsNonDecreasingBy-from_default (λ y. ordering_index (nat_cmp (from_be_bytes w32 y) c.args.page)) ns []
    (λ j k l m. let above = rising_le bs image.sound j k l (omega arith) in ordered _ _ c.args.page (omega (arith, e.page j (omega arith), e.page k m))) in
    let cut = c.in-Err.ensures.position (from_be_bytes w32) (answers_always _ _ _ (λ f a r g h. search rules)) order in
    sym (latest_none (named_page bs) (named_word bs) c.args.page 0 (image_named bs)
    (λ k l p.
    let here = e.page k (omega arith) in
    ⊎_elim
    (λ (low : k < c.in-Err.field-0). let less : from_be_bytes w32 (get_or ns k []) < c.args.page = ranked _ _ Less (sym (cut.0 k [] (omega arith) low)) in omega arith)
    (λ (high : c.in-Err.field-0 ≤ k). let more : c.args.page < from_be_bytes w32 (get_or ns k []) = ranked _ _ Greater (sym (cut.1 k [] high (omega arith))) in omega arith)
    (cases_lt k c.in-Err.field-0)))
