use Rattle.std.proofs.Common.{sym, ◌∙◌}
use Rattle.pages.proofs.Images.{first_word}
use Rattle.pages.proofs.image.ImageReader.size.Goals as goal

pub returns : goal.returns
returns c = first_word c.args.self.now.bytes.now c.args.self.now.sound _ (sym c.word_at.ensures ∙ c.unwrap.ensures)
