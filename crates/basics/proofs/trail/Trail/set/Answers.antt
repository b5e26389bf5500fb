use Rattle.std.proofs.Common.{arith, length-take}
use Rattle.std.proofs.Math.Seq.{take-set-lt}
use Rattle.basics.proofs.trail.Trail.set.Goals as goal

pub returns-then-index-len : goal.returns-then-index-len
returns-then-index-len g c = take-set-lt _ _ _ _ (omega (arith, length-take c.args.self.now.len c.args.self.now.items))
