use Rattle.std.proofs.Common.{◌≡◌, map, take, Some}
use Rattle.gorsepick.specs.Digits.{digit_value, joined}
use Rattle.gorsepick.proofs.text.parse_bytes.Given as goal

abbrev pub invariant-loop-word : goal.invariant-loop-word
invariant-loop-word l = map Some l.digits ≡ map digit_value (joined (take l.word-index l.words))
