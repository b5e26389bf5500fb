use Rattle.std.proofs.Common.{unwrap_or, subst, arith}
use Rattle.serial.specs.Machine.{start}
use Rattle.engine.specs.View.{Room}
use Rattle.engine.proofs.Rows.{lent_stand, lent_step}
use Rattle.engine.proofs.row.Row.step.Goals as goal

pub take_step-requires : goal.take_step-requires
take_step-requires g c =
    let s = c.args.self.now.shadows in
    rw c.index.ensures.place
    (subst (λ o. Room (unwrap_or o start)) (lent_stand s.there s.things c.args.u (omega arith) c.requires.there) c.requires.room)

pub returns : goal.returns
returns g c =
    let s = c.args.self.now.shadows in
    rw c.index.ensures.place
    (lent_step s.there s.things c.args.u (omega arith) c.requires.there (g.A.Arithmetic.meaning c.args.machine.now.arithmetic.now) (g.R.Reader.pages c.args.machine.now.reader.now) c.args.step.now
    c.take_step.new.self c.take_step.result (rw c.index.ensures.place at c.take_step.ensures))
