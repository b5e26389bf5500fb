use Rattle.serial.specs.Rules.{set_allowance, begin, turn, commit, abort}
use Rattle.serial.proofs.Sound.{fresh-sound, does-sound}
use Rattle.serial.proofs.Furthest.{picks_furthest}
use Rattle.serial.proofs.Relations.{relations_fix_engine, fresh_in_words}
use Rattle.serial.proofs.Words.{accounts_in_words, turns_change_only, declined_changes_nothing}
use Rattle.serial.proofs.Refused.{faults_told}
use Rattle.serial.proofs.BothWays.{one_outcome, declined_exactly, accepted_exactly, one_run, stand_in_words, read_entry_in_words}
use Rattle.serial.proofs.rules_in_words.Goals as goal

pub returns : goal.returns
returns c = record {
  set_allowance = λ k. one_outcome (set_allowance k);
  begin = λ t bytes. one_outcome (begin t bytes);
  turn = λ t u. one_outcome (turn t u);
  commit = λ t. one_outcome (commit t);
  abort = λ t. one_outcome (abort t);
  stand = stand_in_words;
  read_entry = read_entry_in_words;
  declined = declined_exactly;
  accepted = accepted_exactly;
  unchanged = declined_changes_nothing;
  told = faults_told;
  run = one_run;
  fresh = fresh_in_words;
  fixed = relations_fix_engine;
  furthest = picks_furthest;
  accounts = accounts_in_words;
  change = turns_change_only;
  sound = (fresh-sound, does-sound);
}
