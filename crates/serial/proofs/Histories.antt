-- One call more at the end of a list of calls. Assumes nothing.
use Rattle.std.proofs.Common.{◌≡◌, ℕ, List, [], ◌∷◌, ◌++◌, sym, refl, ap, ◌∙◌, subst}
use Rattle.std.proofs.lemmas.List.{append-nil, append_assoc}
use Rattle.pages.specs.Pages.{Chain}
use Rattle.pages.specs.declared.WriteEntry.{WriteEntry}
use Rattle.serial.specs.Machine.{Meaning}
use Rattle.serial.specs.Rules.{State, Call, does, after, answers, list_put, lists_put}

module _ (ar : Meaning) where
  pub after_push : (cs : List Call) (c : Call) (s : State) → after ar (cs ++ c ∷ []) s ≡ (does ar c (after ar cs s)).0
  after_push [] c s = refl
  after_push (x ∷ cs) c s = after_push cs c (does ar x s).0

  pub answers_push : (cs : List Call) (c : Call) (s : State) → answers ar (cs ++ c ∷ []) s ≡ answers ar cs s ++ (does ar c (after ar cs s)).1 ∷ []
  answers_push [] c s = refl
  answers_push (x ∷ cs) c s = ap (λ rest. (does ar x s).1 ∷ rest) (answers_push cs c (does ar x s).0)

  pub lists_push : (cs : List Call) (c : Call) (s : State) → lists_put ar (cs ++ c ∷ []) s ≡ lists_put ar cs s ++ list_put (after ar cs s).engine c (does ar c (after ar cs s)).1
  lists_push [] c s = append-nil (list_put s.engine c (does ar c s).1)
  lists_push (x ∷ cs) c s =
      ap (λ rest. list_put s.engine x (does ar x s).1 ++ rest) (lists_push cs c (does ar x s).0)
      ∙ sym (append_assoc (list_put s.engine x (does ar x s).1) (lists_put ar cs (does ar x s).0) (list_put (after ar cs (does ar x s).0).engine c (does ar c (after ar cs (does ar x s).0)).1))

-- puts after puts
pub chain_then : {S : Type 0} (wrote : S → ℕ → ℕ → S → Type 0) (xs ys : List WriteEntry) (s m t : S) → Chain wrote s xs m → Chain wrote m ys t → Chain wrote s (xs ++ ys) t
chain_then wrote [] ys s m t c d = subst (λ x. Chain wrote x ys t) c d
chain_then wrote (x ∷ xs) ys s m t c d = (c.0, c.1, chain_then wrote xs ys c.0 m t c.2 d)
