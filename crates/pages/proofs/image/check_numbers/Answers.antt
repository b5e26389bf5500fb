use Rattle.std.proofs.Common.{rules, ◌≡◌, ◌<◌, ◌∙◌, ap, arith, false}
use Rattle.pages.specs.Image.{bad_number, image_named, named_page, good_number}
use Rattle.pages.proofs.Images.{first_found, bad_at}
use Rattle.pages.proofs.image.check_numbers.Goals as goal

pub returns-then-page-least : goal.returns-then-page-least
returns-then-page-least c =
    let bs = c.args.bytes.now in
    let i = c.loop-i.i in
    let inv = c.loop-i.invariant in
    let page : c.from_be_bytes-page.result ≡ named_page bs i = c.from_be_bytes-page.ensures ∙ c.entries.ensures.page i c.loop-i-test.true in
    let bad : good_number bs i ≡ false = bad_at bs i _ _ page inv.first inv.next (search rules) in
    let more : i < image_named bs = omega arith in
    ap bad_number (first_found bs i (image_named bs) inv.good bad more)
