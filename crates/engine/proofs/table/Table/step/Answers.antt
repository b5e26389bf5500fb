use Rattle.engine.proofs.Turns.{row_steps}
use Rattle.engine.proofs.table.Table.step.Goals as goal

pub returns : goal.returns
returns g c =
    rw c.index.ensures.place
    (row_steps c.args.self.now c.args.t c.args.u (g.A.Arithmetic.meaning c.args.machine.now.arithmetic.now) (g.R.Reader.pages c.args.machine.now.reader.now) c.args.step.now c.step.result c.step.new.self
    (rw c.index.ensures.place at c.step.ensures))
