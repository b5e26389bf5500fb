-- A load leaves one outcome. Assumes nothing.
use Rattle.std.proofs.Common.{◌≡◌, ℕ, List, [], ◌∷◌, length, set, Ok, Err, sym, refl, ap, ◌∙◌, ⊎_elim}
use Rattle.std.proofs.lemmas.Bool.{cases_eq}
use Rattle.std.proofs.lemmas.Option.{none-some, same_Some}
use Rattle.pages.specs.Pages.{Chain, numbered}
use Rattle.pages.specs.Image.{image_pages}
use Rattle.pages.specs.Flat.{flat_pages, flat_wrote}
use Rattle.pages.specs.Log.{log_pages, log_put}
use Rattle.pages.specs.LogStore.{log_wrote}
use Rattle.pages.specs.ByIndex.{OneLoad, OneImageLoad, LoadsEndAlike}
use Rattle.pages.specs.declared.WriteEntry.{WriteEntry}
use Rattle.pages.specs.declared.flat.Flat.{Flat}
use Rattle.pages.specs.declared.log.Log.{Log}
use Rattle.pages.specs.declared.fault.ImageLoadFault.TheVariants.{Unread, Unloaded}

-- where a put to equal words leaves equal words
module _ {S : Type 0} (pages : S → List ℕ) (wrote : S → ℕ → ℕ → S → Type 0) (seen : S → List ℕ)
    (one : (s x t u : S) (p w : ℕ) → seen s ≡ seen x → wrote s p w t → wrote x p w u → seen t ≡ seen u) where
  chain_seen : (s x t u : S) (es : List WriteEntry) → seen s ≡ seen x → Chain wrote s es t → Chain wrote x es u → seen t ≡ seen u
  chain_seen s x t u [] e c d = ap seen c ∙ e ∙ sym (ap seen d)
  chain_seen s x t u (w ∷ es) e c d = chain_seen c.0 d.0 t u es (one s x c.0 d.0 w.page w.word e c.1 d.1) c.2 d.2

  one_load : OneLoad pages wrote seen
  one_load words s t u r q h k =
      ⊎_elim
      (λ (e : length words ≡ length (pages s)).
      let a = h.equal e in
      let b = k.equal e in
      (a.0 ∙ sym b.0, chain_seen s s t u (numbered 0 words) refl a.2 b.2))
      (λ (e : length words ≡ length (pages s) → ⊥).
      let a = h.unequal e in
      let b = k.unequal e in
      (a.0 ∙ sym b.0, ap seen (a.1 ∙ sym b.1)))
      (cases_eq (length words) (length (pages s)))

  one_image_load : OneImageLoad pages wrote seen
  one_image_load bs s t u (Ok x) (Ok y) h k = (refl, (one_load (image_pages bs) s t u (Ok x) (Ok y) h.1 k.1).1)
  one_image_load bs s t u (Ok x) (Err (Unread g)) h k = absurd (none-some g (sym h.0 ∙ k.0))
  one_image_load bs s t u (Ok x) (Err (Unloaded g)) h k = let e = (one_load (image_pages bs) s t u (Ok x) (Err g) h.1 k.1).0 in absurd (cc)
  one_image_load bs s t u (Err (Unread f)) (Ok y) h k = absurd (none-some f (sym k.0 ∙ h.0))
  one_image_load bs s t u (Err (Unread f)) (Err (Unread g)) h k =
      (ap (λ x. Err (Unread x)) (same_Some f g (sym h.0 ∙ k.0)), ap seen (h.1 ∙ sym k.1))
  one_image_load bs s t u (Err (Unread f)) (Err (Unloaded g)) h k = absurd (none-some f (sym k.0 ∙ h.0))
  one_image_load bs s t u (Err (Unloaded f)) (Ok y) h k = let e = (one_load (image_pages bs) s t u (Err f) (Ok y) h.1 k.1).0 in absurd (cc)
  one_image_load bs s t u (Err (Unloaded f)) (Err (Unread g)) h k = absurd (none-some g (sym h.0 ∙ k.0))
  one_image_load bs s t u (Err (Unloaded f)) (Err (Unloaded g)) h k =
      let both = one_load (image_pages bs) s t u (Err f) (Err g) h.1 k.1 in
      let e = both.0 in
      let same : f ≡ g = cc in
      (ap (λ x. Err (Unloaded x)) same, both.1)

flat_one : (s x t u : Flat) (p w : ℕ) → s.words.now ≡ x.words.now → flat_wrote s p w t → flat_wrote x p w u → t.words.now ≡ u.words.now
flat_one s x t u p w e h k = h.0 ∙ ap (λ ws. set ws p w) e ∙ sym k.0

log_one : (s x t u : Log) (p w : ℕ) → s.words.now ≡ x.words.now → log_wrote s p w t → log_wrote x p w u → t.words.now ≡ u.words.now
log_one s x t u p w e h k = h.0 ∙ ap (λ ws. log_put ws p w) e ∙ sym k.0

pub loads_end_alike : LoadsEndAlike
loads_end_alike = (
  one_load (λ s. flat_pages s.words.now) flat_wrote (λ s. s.words.now) flat_one,
  one_image_load (λ s. flat_pages s.words.now) flat_wrote (λ s. s.words.now) flat_one,
  one_load (λ s. log_pages s.words.now) log_wrote (λ s. s.words.now) log_one,
  one_image_load (λ s. log_pages s.words.now) log_wrote (λ s. s.words.now) log_one,
)
