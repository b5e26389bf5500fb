use Rattle.serial.proofs.PageLists.{puts_in_words}
use Rattle.serial.proofs.WriteLaws.{writes_told, stands_once, stays_written, last_written, in_order, reads_own_word}
use Rattle.serial.proofs.writes_are_lawful.Goals as goal

pub returns : goal.returns
returns c = record {
  told = writes_told;
  once = stands_once;
  stays = stays_written;
  last = last_written;
  order = in_order;
  reads = reads_own_word;
  puts = puts_in_words;
}
