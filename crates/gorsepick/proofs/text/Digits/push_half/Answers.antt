use Rattle.std.proofs.Common.{arith}
use Rattle.std.proofs.lemmas.Grind.{common_steps}
use Rattle.gorsepick.proofs.Halves.{halves_push}
use Rattle.gorsepick.proofs.text.Digits.push_half.Goals as goal

pub returns : goal.returns
returns c = grind (arith, common_steps, halves_push)
