use Rattle.std.proofs.Common.{◌≡◌, slice_index}
use Rattle.pages.specs.Entries.{carried}
use Rattle.pages.proofs.log.carry.Given as goal

abbrev pub invariant-loop-i : goal.invariant-loop-i
invariant-loop-i l = l.base ≡ carried (slice_index l.pages) (slice_index l.words) 0 l.initial.base l.i
