use Rattle.std.proofs.Common.{◌≡◌, take}
use Rattle.pages.specs.Pages.{Chain}
use Rattle.serial.specs.Alone.{put_all}
use Rattle.engine.proofs.alone.put_all.Given as goal

abbrev pub invariant-loop-entry : goal.invariant-loop-entry
invariant-loop-entry g l =
    (g.S.Reader.pages l.store ≡ put_all (take l.entry-index l.own) (g.S.Reader.pages l.initial.store))
    × Chain g.S.Store.wrote l.initial.store (take l.entry-index l.own) l.store
