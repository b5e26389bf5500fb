use Rattle.std.proofs.Common.{◌<◌, refl, sym, ap, ◌∙◌, arith}
use Rattle.pages.specs.Log.{size_word, layout_of, log_pages}
use Rattle.pages.proofs.Logs.{put_pages, put-layout, layout-sound, layout-size, layout-pages}
use Rattle.pages.proofs.log.LogStore.put.Goals as goal

pub invariant_of-self : goal.invariant_of-self
invariant_of-self c =
    let ws = c.args.self.now.words.now in
    let layout = c.in_ok-layout.layout in
    let told = c.in_ok-layout.ensures in
    let low : c.args.page < size_word ws = omega (arith, layout-size ws layout told.0, told.1) in
    record { ok = c.args.self.now.ok ∙ sym (ap layout_of c.put.ensures ∙ put-layout ws (layout-sound ws layout told.0) c.args.page c.args.word low) }

pub returns : goal.returns
returns c =
    let ws = c.args.self.now.words.now in
    let layout = c.in_ok-layout.layout in
    let told = c.in_ok-layout.ensures in
    let low : c.args.page < size_word ws = omega (arith, layout-size ws layout told.0, told.1) in
    record {
      accepted = λ l. (refl, ap log_pages c.put.ensures ∙ put_pages ws (layout-sound ws layout told.0) c.args.page c.args.word low, (c.put.ensures, refl));
      refused = λ l. absurd (omega (arith, layout-pages ws layout told.0, told.1));
    }
