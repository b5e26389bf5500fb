use Rattle.std.proofs.Common.{◌<◌, length, get_or, take, ap, ◌∙◌, subst, arith, length-set}
use Rattle.pages.specs.Pages.{Chain, numbered}
use Rattle.pages.proofs.Chains.{chain_push, numbered_more, filled_more}
use Rattle.pages.proofs.load.load_pages.Goals as goal

pub loop-page-preserved : goal.loop-page-preserved
loop-page-preserved g c =
    let from = g.R.Reader.pages c.args.from.now in
    let so = g.S.Reader.pages c.loop-page.into in
    let i = c.loop-page.page in
    let wrote = g.S.Store.wrote in
    let inv = c.loop-page.invariant in
    let below : i < length from = omega arith in
    let pages = c.copy_page.ensures.pages in
    record {
      long = ap length pages ∙ length-set so i (get_or from i 0) ∙ inv.long;
      filled = ap (take _) pages ∙ filled_more so from i (omega (arith, inv.long)) below inv.filled;
      puts = subst (λ es. Chain wrote c.args.into.now es c.copy_page.new.into) (numbered_more from i below)
          (chain_push wrote _ _ _ (numbered 0 (take i from)) i (get_or from i 0) inv.puts c.copy_page.ensures.wrote);
    }
