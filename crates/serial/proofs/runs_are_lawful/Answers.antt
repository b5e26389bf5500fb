use Rattle.serial.proofs.Runs.{steps_rise, runs_determined, later_reads, unread_reached, stand_found}
use Rattle.serial.proofs.runs_are_lawful.Goals as goal

pub returns : goal.returns
returns c = record { rise = steps_rise; determined = runs_determined; grow = later_reads; unread = unread_reached; found = stand_found }
