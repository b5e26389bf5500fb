use Rattle.std.proofs.Common.{◌<◌, length, Ok, sym, ap, ◌∙◌, arith}
use Rattle.std.proofs.lemmas.Bool.{cond-true, lt-ltb}
use Rattle.pages.specs.Log.{log_pages}
use Rattle.pages.proofs.Logs.{read_is, length-log_pages, layout-sound, layout-pages}
use Rattle.pages.proofs.log.LogReader.read.Goals as goal

pub returns-clause-word : goal.returns-clause-word
returns-clause-word c =
    let ws = c.args.self.now.words.now in
    let layout = c.in_ok-layout.layout in
    let fits = c.in_ok-layout.ensures.0 in
    let low : c.args.page < length (log_pages ws) = omega (arith, layout-pages ws layout fits, c.in_ok-layout.ensures.1) in
    ap Ok (c.find.ensures ∙ sym (read_is ws c.args.page (layout-sound ws layout fits) (omega (arith, length-log_pages ws (layout-sound ws layout fits))))) ∙ sym (cond-true _ _ _ (lt-ltb _ _ low))

pub returns-in_err-layout-clause-latest : goal.returns-in_err-layout-clause-latest
returns-in_err-layout-clause-latest c = λ h l. absurd (omega (arith, length-log_pages c.args.self.now.words.now h, c.in_err-layout.ensures.1))
