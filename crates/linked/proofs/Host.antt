-- What chains of puts come to in a host's words. Assumes nothing.
use Rattle.std.proofs.Common.{◌≡◌, ℕ, Bool, true, false, List, [], ◌∷◌, ap, ◌∙◌}
use Rattle.pages.specs.Pages.{Chain}
use Rattle.pages.specs.Flat.{flat_wrote}
use Rattle.pages.specs.LogStore.{log_wrote}
use Rattle.pages.specs.declared.WriteEntry.{WriteEntry}
use Rattle.pages.specs.declared.flat.Flat.{Flat}
use Rattle.pages.specs.declared.log.Log.{Log}
use Rattle.linked.specs.Host.{words_put, word_put}

-- a store over a host's words, whose puts write them as `word_put` says and keep the loan
module _ {S N : Type 0} (log : Bool) (words : S → List ℕ) (lender : S → N) (wrote : S → ℕ → ℕ → S → Type 0) (as-told : (s : S) (p w : ℕ) (t : S) → wrote s p w t → (words t ≡ word_put log (words s) p w) × (lender t ≡ lender s)) where
  chain_words : (es : List WriteEntry) (s t : S) → Chain wrote s es t → (words t ≡ words_put log es (words s)) × (lender t ≡ lender s)
  chain_words [] s t h = (ap words h, ap lender h)
  chain_words (e ∷ es) s t h =
      let rest = chain_words es h.0 t h.2 in
      let here = as-told s e.page e.word h.0 h.1 in
      (rest.0 ∙ ap (words_put log es) here.0, rest.1 ∙ here.1)

pub log_chain : (es : List WriteEntry) (s t : Log) → Chain log_wrote s es t → (t.words.now ≡ words_put true es s.words.now) × (t.words.ghost_name ≡ s.words.ghost_name)
log_chain = chain_words true (λ s. s.words.now) (λ s. s.words.ghost_name) log_wrote (λ s p w t h. h)

pub flat_chain : (es : List WriteEntry) (s t : Flat) → Chain flat_wrote s es t → (t.words.now ≡ words_put false es s.words.now) × (t.words.ghost_name ≡ s.words.ghost_name)
flat_chain = chain_words false (λ s. s.words.now) (λ s. s.words.ghost_name) flat_wrote (λ s p w t h. h)
