-- A fresh engine has a history of no calls, and a call that does what the rules say makes every history longer. Assumes
-- nothing.
use Rattle.std.proofs.Common.{◌≡◌, ℕ, List, [], ◌∷◌, ◌++◌, sym, refl, ap, ◌∙◌}
use Rattle.serial.specs.Faults.{Answer}
use Rattle.serial.specs.Machine.{Meaning}
use Rattle.serial.specs.Rules.{State, fresh, Call, does, after, answers}
use Rattle.serial.specs.History.{History, AsFresh, Continued}
use Rattle.serial.proofs.Booking.{every_list_booked}
use Rattle.serial.proofs.Histories.{after_push, answers_push}

pub started : (ar : Meaning) (s : State) → s ≡ fresh s.pages → AsFresh ar s
started ar s h =
    let none : History ar s.pages [] [] s = record { state = sym h; answered = refl; booked = every_list_booked ar s.pages [] } in
    record { none_yet = none; has = record { calls = []; told = []; history = none } }

module _ (ar : Meaning) (s : State) (c : Call) (a : Answer) (s' : State) (rule : does ar c s ≡ (s', a)) where
  longer : (pages : List ℕ) (calls : List Call) (told : List Answer) → History ar pages calls told s → History ar pages (calls ++ c ∷ []) (told ++ a ∷ []) s'
  longer pages calls told h =
      let now : does ar c (after ar calls (fresh pages)) ≡ (s', a) = ap (does ar c) h.state ∙ rule in
      record {
        state = after_push ar calls c (fresh pages) ∙ ap (λ d. d.0) now;
        answered = answers_push ar calls c (fresh pages) ∙ ap (λ d. answers ar calls (fresh pages) ++ d.1 ∷ []) now ∙ ap (λ told. told ++ a ∷ []) h.answered;
        booked = every_list_booked ar pages (calls ++ c ∷ []);
      }

  pub continued : Continued ar s c a s'
  continued = record {
    longer = longer;
    has = λ pages h. record { calls = h.calls ++ c ∷ []; told = h.told ++ a ∷ []; history = longer pages h.calls h.told h.history };
  }
