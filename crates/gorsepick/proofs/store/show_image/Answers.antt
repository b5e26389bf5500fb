use Rattle.gorsepick.proofs.store.show_image.Goals as goal

pub returns-in-Ok : goal.returns-in-Ok
returns-in-Ok c = let sound = c.in-Ok.ensures in rw sound.0 (rw sound.1 at c.show_pages.ensures)
