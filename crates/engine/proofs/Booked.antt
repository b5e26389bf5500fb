-- One round of the loop that carries out a list of calls. Assumes nothing.
use Rattle.std.proofs.Common.{◌≡◌, ℕ, ◌+◌, ◌<◌, List, [], ◌∷◌, ◌++◌, length, get_or, sym, refl, ap, ◌∙◌, subst}
use Rattle.std.proofs.lemmas.List.{map_more}
use Rattle.serial.specs.Faults.{Answer}
use Rattle.serial.specs.Machine.{Meaning}
use Rattle.serial.specs.Rules.{State, Call, does, after, answers, list_put, lists_put}
use Rattle.serial.proofs.Histories.{after_push, answers_push, lists_push}
use Rattle.engine.specs.declared.engine.booking.Call.{Call as Given}
use Rattle.engine.specs.declared.engine.booking.Call.TheVariants.{SetAllowance}
use Rattle.engine.specs.declared.engine.Engine.{Engine as Held}
use Rattle.engine.specs.Booking.{call_of, first_calls, CallMade, CallsMade}

module _ (ar : Meaning) (first : State) (calls : List Given) (i : ℕ) (s s' : State) (a : Answer) (l : i < length calls)
    (so : s ≡ after ar (first_calls i calls) first) (h : does ar (call_of (get_or calls i (SetAllowance 0))) s ≡ (s', a)) where
  pub one_more : first_calls (i + 1) calls ≡ first_calls i calls ++ call_of (get_or calls i (SetAllowance 0)) ∷ []
  one_more = map_more call_of calls i (SetAllowance 0) l

  now_does : does ar (call_of (get_or calls i (SetAllowance 0))) (after ar (first_calls i calls) first) ≡ (s', a)
  now_does = ap (does ar (call_of (get_or calls i (SetAllowance 0)))) (sym so) ∙ h

  pub more_state : s' ≡ after ar (first_calls (i + 1) calls) first
  more_state = sym (ap (λ cs. after ar cs first) one_more ∙ after_push ar (first_calls i calls) (call_of (get_or calls i (SetAllowance 0))) first ∙ ap (λ d. d.0) now_does)

  pub more_answers : answers ar (first_calls (i + 1) calls) first ≡ answers ar (first_calls i calls) first ++ a ∷ []
  more_answers =
      ap (λ cs. answers ar cs first) one_more ∙ answers_push ar (first_calls i calls) (call_of (get_or calls i (SetAllowance 0))) first
      ∙ ap (λ d. answers ar (first_calls i calls) first ++ d.1 ∷ []) now_does

  pub more_lists : lists_put ar (first_calls i calls) first ++ list_put s.engine (call_of (get_or calls i (SetAllowance 0))) a ≡ lists_put ar (first_calls (i + 1) calls) first
  more_lists =
      sym (ap (λ cs. lists_put ar cs first) one_more ∙ lists_push ar (first_calls i calls) (call_of (get_or calls i (SetAllowance 0))) first
      ∙ ap (λ d. lists_put ar (first_calls i calls) first ++ list_put (after ar (first_calls i calls) first).engine (call_of (get_or calls i (SetAllowance 0))) d.1) now_does
      ∙ ap (λ x. lists_put ar (first_calls i calls) first ++ list_put x.engine (call_of (get_or calls i (SetAllowance 0))) a) (sym so))

module _ {S : Type 0} (pages : S → List ℕ) (wrote : S → ℕ → ℕ → S → Type 0) (ar : Meaning) where
  pub made_push : (cs : List Call) (told : List Answer) (e : Held) (s : S) (m : Held) (n : S) (c : Call) (a : Answer) (e' : Held) (t : S)
      → CallsMade pages wrote ar cs told e s m n → CallMade pages wrote ar m n c a e' t → CallsMade pages wrote ar (cs ++ c ∷ []) (told ++ a ∷ []) e s e' t
  made_push [] [] e s m n c a e' t h last =
      (e', t, subst (λ x. CallMade pages wrote ar x s c a e' t) h.0 (subst (λ y. CallMade pages wrote ar m y c a e' t) h.1 last), (refl, refl))
  made_push [] (b ∷ told) e s m n c a e' t h last = absurd h
  made_push (x ∷ cs) [] e s m n c a e' t h last = absurd h
  made_push (x ∷ cs) (b ∷ told) e s m n c a e' t h last = (h.0, h.1, h.2, made_push cs told h.0 h.1 m n c a e' t h.3 last)
