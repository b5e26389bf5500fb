-- The words that hosts are shown of what a call answers and of where a shadow stands. Assumes nothing.
use Rattle.std.specs.Prelude.{ℕ, List, ◌++◌, codes, decimal}
use Rattle.serial.specs.declared.fault.Turned.{Turned}
use Rattle.serial.specs.declared.fault.Turned.TheVariants.{Moved, Ended, Waiting}
use Rattle.serial.specs.declared.fault.Standing.{Standing}
use Rattle.serial.specs.declared.fault.Standing.TheVariants.{AtEnd, Halted, Ready}
use Rattle.serial.specs.declared.fault.Accepted.{Accepted}
use Rattle.serial.specs.declared.fault.Accepted.TheVariants.{Allowed, Begun, Took, Committed, Aborted}

abbrev pub turned_word : Turned → List ℕ
turned_word Moved = codes "moved"
turned_word Ended = codes "ended"
turned_word Waiting = codes "waiting"

abbrev pub standing_word : Standing → List ℕ
standing_word AtEnd = codes "ended"
standing_word Halted = codes "waiting"
standing_word Ready = codes "ready"

-- a commit shows register 0 and the number of pages put
abbrev pub accepted_words : Accepted → List ℕ
accepted_words Allowed = codes "allowed"
accepted_words Begun = codes "begun"
accepted_words (Took turned) = turned_word turned
accepted_words (Committed word pages) = codes "committed " ++ decimal word ++ codes " " ++ decimal pages
accepted_words Aborted = codes "aborted"
