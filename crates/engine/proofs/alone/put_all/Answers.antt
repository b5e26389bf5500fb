use Rattle.std.proofs.Common.{◌≡◌, ◌<◌, length, get_or, take, sym, ap, ◌∙◌, subst}
use Rattle.pages.specs.Pages.{entry}
use Rattle.serial.proofs.Runs.{length-put_all}
use Rattle.engine.proofs.Stands.{inside_at}
use Rattle.engine.proofs.Puts.{puts_more, chain_more}
use Rattle.engine.proofs.alone.put_all.Goals as goal

pub put_entry-requires : goal.put_entry-requires
put_entry-requires g c =
    let before = g.S.Reader.pages c.args.store.now in
    let own = c.args.own.now in
    let i = c.loop-entry.entry-index in
    let kept : length (g.S.Reader.pages c.loop-entry.store) ≡ length before = ap length c.loop-entry.invariant.0 ∙ length-put_all (take i own) before in
    let low : (get_or own i (entry 0 0)).page < length before = inside_at (length before) own i (entry 0 0) c.requires c.loop-entry-test.true in
    subst (λ n. (get_or own i (entry 0 0)).page < n) (sym kept) low

pub loop-entry-preserved : goal.loop-entry-preserved
loop-entry-preserved g c =
    let own = c.args.own.now in
    let i = c.loop-entry.entry-index in
    let low = c.loop-entry-test.true in (
      puts_more own i low (g.S.Reader.pages c.args.store.now) (g.S.Reader.pages c.loop-entry.store) (g.S.Reader.pages c.put_entry.new.store) c.loop-entry.invariant.0 c.put_entry.ensures.pages,
      chain_more own i low g.S.Store.wrote c.args.store.now c.loop-entry.store c.put_entry.new.store c.loop-entry.invariant.1 c.put_entry.ensures.wrote,
    )
