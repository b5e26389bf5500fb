use Rattle.std.proofs.Common.{◌≡◌, ◌+◌, ◌-◌, ◌<◌, None}
use Rattle.pages.specs.Image.{named_page, first_bad}
use Rattle.pages.proofs.image.check_numbers.Given as goal

-- the numbers so far are good, and the next is to be above the last of them
abbrev pub invariant-loop-i : goal.invariant-loop-i
invariant-loop-i l = record {
  good : first_bad l.bytes l.i ≡ None;
  first : l.i ≡ 0 → l.least ≡ 0;
  next : 0 < l.i → l.least ≡ named_page l.bytes (l.i - 1) + 1;
}
