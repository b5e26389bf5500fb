use Rattle.std.proofs.Common.{ℕ, vec_items, refl, ◌∙◌}
use Rattle.std.proofs.lemmas.Slice.Zip.{AllZip-map}
use Rattle.std.proofs.lemmas.List.{map-id}
use Rattle.gorsepick.proofs.session.Session.words.Goals as goal

pub returns-in-None : goal.returns-in-None
returns-in-None c = rw c.in-None.is (c.new.result, refl, c.new.ensures.items)

pub returns-in_ok-clone-in-Some : goal.returns-in_ok-clone-in-Some
returns-in_ok-clone-in-Some c =
    let as_was = AllZip-map (λ (w : ℕ). w) (vec_items c.in-Some.memory.words) (vec_items c.in_ok-clone-in-Some.field-0) c.in_ok-clone-in-Some.ensures.cases.0 in
    rw c.in-Some.is (c.in_ok-clone-in-Some.field-0, refl, as_was ∙ map-id (vec_items c.in-Some.memory.words))
