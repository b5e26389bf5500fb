use Rattle.serial.proofs.Sound.{shadows_stand_so}
use Rattle.serial.proofs.OneStep.{steps_come_to, steps_have_one_outcome, next_in_words, start_begins, store_reads_in_words, writes_in_words}
use Rattle.serial.proofs.WriteLaws.{four_registers}
use Rattle.serial.proofs.steps_in_words.Goals as goal

pub returns : goal.returns
returns c = record {
  told = steps_come_to;
  one = steps_have_one_outcome;
  next = next_in_words;
  begin = start_begins;
  four = four_registers;
  engines = shadows_stand_so;
  reads = store_reads_in_words;
  writes = writes_in_words;
}
