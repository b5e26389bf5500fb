use Rattle.serial.proofs.Guesses.{shadows_guess}
use Rattle.serial.proofs.shadows_guess.Goals as goal

pub returns : goal.returns
returns c = shadows_guess
