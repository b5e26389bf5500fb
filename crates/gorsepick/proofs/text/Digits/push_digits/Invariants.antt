use Rattle.std.proofs.Common.{◌≡◌, ◌++◌, map, take, Some}
use Rattle.gorsepick.specs.Digits.{digit_value}
use Rattle.gorsepick.proofs.text.Digits.push_digits.Given as goal

abbrev pub invariant-loop-digit : goal.invariant-loop-digit
invariant-loop-digit l = map Some l.self ≡ map Some l.initial.self ++ map digit_value (take l.digit-index l.word)
