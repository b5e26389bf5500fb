use Rattle.std.proofs.Common.{◌<◌, length, Ok, sym, ap, ◌∙◌, arith}
use Rattle.std.proofs.lemmas.Bool.{cond-true, lt-ltb}
use Rattle.pages.specs.Image.{image_pages}
use Rattle.pages.proofs.Images.{image_read}
use Rattle.pages.proofs.image.ImageReader.read.Goals as goal

pub returns-then-page-size : goal.returns-then-page-size
returns-then-page-size c =
    let image = c.args.self.now in
    let low : c.args.page < length (image_pages image.bytes.now) = omega arith in
    ap Ok (c.find.ensures ∙ sym (image_read image.bytes.now image.sound c.args.page low)) ∙ sym (cond-true _ _ _ (lt-ltb _ _ low))
