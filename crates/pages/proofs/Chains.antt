-- Laws of chains of puts. Assumes nothing.
use Rattle.std.proofs.Common.{◌≡◌, ℕ, suc, ◌+◌, ◌<◌, List, [], ◌∷◌, ◌++◌, length, get_or, take, set, sym, refl, ap, ◌∙◌, subst, arith}
use Rattle.std.proofs.lemmas.List.{take_more, take_more_set, length-take-le}
use Rattle.pages.specs.declared.WriteEntry.{WriteEntry}
use Rattle.pages.specs.Pages.{Chain, entry, numbered}

module _ {S : Type 0} (wrote : S → ℕ → ℕ → S → Type 0) where
  -- one more put
  pub chain_push : (s m t : S) (es : List WriteEntry) (p w : ℕ) → Chain wrote s es m → wrote m p w t → Chain wrote s (es ++ entry p w ∷ []) t
  chain_push s m t [] p w c h = (t, subst (λ x. wrote x p w t) c h, refl)
  chain_push s m t (e ∷ es) p w c h = (c.0, c.1, chain_push c.0 m t es p w c.2 h)

numbered_push : (p : ℕ) (ws : List ℕ) (w : ℕ) → numbered p (ws ++ w ∷ []) ≡ numbered p ws ++ entry (p + length ws) w ∷ []
numbered_push p [] w = let e : p ≡ p + 0 = omega arith in ap (λ k. entry k w ∷ []) e
numbered_push p (x ∷ ws) w =
    let e : suc p + length ws ≡ p + suc (length ws) = omega arith in
    ap (λ es. entry p x ∷ es) (numbered_push (suc p) ws w ∙ ap (λ k. numbered (suc p) ws ++ entry k w ∷ []) e)

-- the first i + 1 words beside their numbers
pub numbered_more : (ws : List ℕ) (i : ℕ) → i < length ws → numbered 0 (take i ws) ++ entry i (get_or ws i 0) ∷ [] ≡ numbered 0 (take (i + 1) ws)
numbered_more ws i l =
    let n : 0 + length (take i ws) ≡ i = omega (arith, length-take-le i ws (omega arith)) in
    sym (ap (numbered 0) (take_more ws i 0 l) ∙ numbered_push 0 (take i ws) (get_or ws i 0) ∙ ap (λ k. numbered 0 (take i ws) ++ entry k (get_or ws i 0) ∷ []) n)

-- the first i + 1 pages of a list that is filled from another
pub filled_more : (xs ys : List ℕ) (i : ℕ) → i < length xs → i < length ys → take i xs ≡ take i ys → take (i + 1) (set xs i (get_or ys i 0)) ≡ take (i + 1) ys
filled_more xs ys i l k e =
    take_more_set xs i (get_or ys i 0) l ∙ ap (λ zs. zs ++ get_or ys i 0 ∷ []) e ∙ sym (take_more ys i 0 k)
