-- Turns of the loop that puts an own list. Assumes nothing.
use Rattle.std.proofs.Common.{◌≡◌, ℕ, ◌+◌, ◌<◌, List, [], ◌∷◌, ◌++◌, length, get_or, take, set, sym, refl, ap, ◌∙◌, subst}
use Rattle.std.proofs.lemmas.List.{take_more}
use Rattle.pages.specs.Pages.{Chain, entry}
use Rattle.pages.specs.declared.WriteEntry.{WriteEntry}
use Rattle.pages.proofs.Chains.{chain_push}
use Rattle.serial.specs.Alone.{put_all}

put_all_push : (es : List WriteEntry) (e : WriteEntry) (pages : List ℕ) → put_all (es ++ e ∷ []) pages ≡ set (put_all es pages) e.page e.word
put_all_push [] e pages = refl
put_all_push (x ∷ es) e pages = put_all_push es e (set pages x.page x.word)

module _ (es : List WriteEntry) (i : ℕ) (low : i < length es) where
  pub puts_more : (before so after : List ℕ) → so ≡ put_all (take i es) before → after ≡ set so (get_or es i (entry 0 0)).page (get_or es i (entry 0 0)).word → after ≡ put_all (take (i + 1) es) before
  puts_more before so after h k =
      let e = get_or es i (entry 0 0) in
      k ∙ ap (λ ps. set ps e.page e.word) h
      ∙ sym (ap (λ xs. put_all xs before) (take_more es i (entry 0 0) low) ∙ put_all_push (take i es) e before)

  pub chain_more : {S : Type 0} (wrote : S → ℕ → ℕ → S → Type 0) (s m t : S) → Chain wrote s (take i es) m → wrote m (get_or es i (entry 0 0)).page (get_or es i (entry 0 0)).word t → Chain wrote s (take (i + 1) es) t
  chain_more wrote s m t c h =
      subst (λ xs. Chain wrote s xs t) (sym (take_more es i (entry 0 0) low))
      (chain_push wrote s m t (take i es) (get_or es i (entry 0 0)).page (get_or es i (entry 0 0)).word c h)
