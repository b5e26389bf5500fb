use Rattle.serial.proofs.Guesses.{tests_in_words, spoiled_by_reads}
use Rattle.serial.proofs.spoiled_by_reads.Goals as goal

pub returns : goal.returns
returns c = record { tests = tests_in_words; exact = spoiled_by_reads }
