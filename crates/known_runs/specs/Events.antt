-- Short names for what known runs are made of. Assumes nothing.
use Rattle.std.specs.Prelude.{ℕ, zero, suc, List, [], ◌∷◌, map, Some, None}
use Rattle.pages.specs.Pages.{entry}
use Rattle.serial.specs.declared.fault.Accepted.TheVariants.{Allowed, Begun, Took, Committed, Aborted}
use Rattle.serial.specs.declared.fault.Turned.TheVariants.{Moved, Ended, Waiting}
use Rattle.serial.specs.declared.fault.Standing.{Standing}
use Rattle.serial.specs.Machine.{Stand}
use Rattle.serial.specs.Rules.{Call, set_allowance, begin, turn, commit, abort}
use Rattle.known_runs.specs.Runs.{says, refuses, Event, asks, looks, shows, would_spoil}

abbrev pub three : List ℕ
three = 10 ∷ 20 ∷ 30 ∷ []

abbrev pub allows : ℕ → Event
allows k = asks (set_allowance k) (says Allowed)

abbrev pub begins : ℕ → List ℕ → Event
begins t bytes = asks (begin t bytes) (says Begun)

-- n turns of slot t's shadow for u, each of which moves it
abbrev pub moves : ℕ → ℕ → ℕ → List Event
moves zero t u = []
moves (suc n) t u = asks (turn t u) (says (Took Moved)) ∷ moves n t u

abbrev pub has_ended : ℕ → ℕ → Event
has_ended t u = asks (turn t u) (says (Took Ended))

abbrev pub waits : ℕ → ℕ → Event
waits t u = asks (turn t u) (says (Took Waiting))

-- slot t commits, and answers register 0 and the number of pages put
abbrev pub commits : ℕ → ℕ → ℕ → Event
commits t r n = asks (commit t) (says (Committed r n))

abbrev pub aborts : ℕ → Event
aborts t = asks (abort t) (says Aborted)

-- the call is refused with this number and these values
abbrev pub declines : Call → ℕ → List ℕ → Event
declines c number values = asks c (refuses number values)

-- slot t's shadow for u stands at this step, where its next turn finds this
abbrev pub stands : ℕ → ℕ → ℕ → Standing → Event
stands t u step how = looks t u (Some (step, how))

-- slot t has no shadow for u
abbrev pub lacks : ℕ → ℕ → Event
lacks t u = looks t u None

-- where a shadow stands: a step, the registers, the steps and pages of its recorded reads, the pages and words of its own list
abbrev pub stood : ℕ → List ℕ → List (ℕ × ℕ) → List (ℕ × ℕ) → Stand
stood n registers reads own =
    record { step = n; registers = registers; reads = map (λ r. record { step = r.0; page = r.1 }) reads; own = map (λ w. entry w.0 w.1) own }

-- just there slot t's shadow for u stands
abbrev pub shown : ℕ → ℕ → Stand → Event
shown t u at = shows t u (Some at)

-- slot t's commit would spoil slot v, whose run alone stands there before its first store read of a page to be replaced
abbrev pub spoils_at : ℕ → ℕ → Stand → Event
spoils_at t v first = would_spoil t v (Some first)

-- slot t's commit would not spoil slot v
abbrev pub spares : ℕ → ℕ → Event
spares t v = would_spoil t v None
