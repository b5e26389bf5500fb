use Rattle.serial.proofs.Booking.{every_list_booked}
use Rattle.serial.proofs.every_list_is_booked.Goals as goal

pub returns : goal.returns
returns c = every_list_booked
