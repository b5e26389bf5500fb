use Rattle.std.proofs.Common.{◌≡◌, length, take}
use Rattle.pages.specs.Pages.{Chain, numbered}
use Rattle.pages.proofs.load.load_pages.Given as goal

abbrev pub invariant-loop-page : goal.invariant-loop-page
invariant-loop-page g l =
    let from = g.R.Reader.pages l.from in
    let into = g.S.Reader.pages l.into in
    record {
      long : length into ≡ length from;
      filled : take l.page into ≡ take l.page from;
      puts : Chain g.S.Store.wrote l.initial.into (numbered 0 (take l.page from)) l.into;
    }
