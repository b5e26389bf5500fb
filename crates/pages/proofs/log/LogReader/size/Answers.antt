use Rattle.std.proofs.Common.{rules, ◌≡◌, ap, ◌∙◌}
use Rattle.std.specs.Option.{option_map_or}
use Rattle.pages.specs.declared.log.Layout.{Layout}
use Rattle.pages.proofs.Logs.{layout-size_or}
use Rattle.pages.proofs.log.LogReader.size.Goals as goal

pub returns : goal.returns
returns c =
    let log = c.args.self.now in
    let told : c.map_or.result ≡ option_map_or (λ (l : Layout). l.size) log.layout 0 = search rules in
    told ∙ ap (λ o. option_map_or (λ (l : Layout). l.size) o 0) log.ok ∙ layout-size_or log.words.now
