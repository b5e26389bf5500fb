use Rattle.std.proofs.Common.{◌<◌, ◌∙◌, arith}
use Rattle.pages.specs.Log.{used, capacity}
use Rattle.pages.proofs.Logs.{sound_facts, split-parts, used_in, page_in, put_room, put_full, layout-sound, layout-room}
use Rattle.pages.proofs.log.Layout.put.Goals as goal
use Rattle.pages.proofs.log.Layout.put.Goals.{then-sizes-self, else-sizes-self}

pub empty-requires-clause-low : goal.empty-requires-clause-low
empty-requires-clause-low c = λ i l.
    let ws = c.args.words.now in
    let layout = c.args.self in
    let fits = c.requires.fits in
    let sizes = c.split_at_mut-sizes.ensures in
    let base = c.split_at_mut-base.ensures in
    let pages = c.split_at_mut-pages.ensures in
    let parts = split-parts ws _ _ _ _ _ _ layout fits sizes.value base.value pages.value sizes.front_len base.front_len pages.front_len in
    let h = layout-sound ws layout fits in
    let in_room : i < capacity ws = omega (arith, parts.pages) in
    let in_use : i < used ws = omega (arith, used_in ws _ _ _ _ h parts, layout-room ws layout fits) in
    omega (arith, page_in ws _ _ _ _ h parts i in_room, (sound_facts ws h).named i in_use, parts.base)

pub returns : goal.returns
returns c =
    let ws = c.args.words.now in
    let layout = c.args.self in
    let fits = c.requires.fits in
    let sizes = c.split_at_mut-sizes.ensures in
    let base = c.split_at_mut-base.ensures in
    let pages = c.split_at_mut-pages.ensures in
    let parts = split-parts ws _ _ _ _ _ _ layout fits sizes.value base.value pages.value sizes.front_len base.front_len pages.front_len in
    let h = layout-sound ws layout fits in
    let u = used_in ws _ _ _ _ h parts in
    let k = layout-room ws layout fits in
    elim c.if-sizes-self.branch [
      | then-sizes-self w ↦ put_full ws h _ _ _ _ parts _ _ _ _ (omega arith) (w.sizes-is ∙ w.empty.ensures.sizes) (w.base-is ∙ w.empty.ensures.base)
      | else-sizes-self w ↦ put_room ws h _ _ _ _ parts _ _ _ _ (λ full. w.if-sizes-self.false (omega arith)) w.sizes-is w.base-is
    ]
