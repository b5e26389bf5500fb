use Rattle.std.proofs.Common.{sym, subst}
use Rattle.serial.specs.Sound.{SoundEngine}
use Rattle.serial.proofs.Sound.{fresh-sound}
use Rattle.engine.proofs.Kept.{spread}
use Rattle.engine.proofs.engine.Engine.new.Goals as goal

pub invariant_of-result : goal.invariant_of-result
invariant_of-result c = spread c.new.result (subst SoundEngine (sym c.new.ensures) fresh-sound)
