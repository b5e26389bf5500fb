use Rattle.std.proofs.Common.{arith}
use Rattle.gorsepick.proofs.Halves.{joined_more}
use Rattle.gorsepick.proofs.text.parse_bytes.Goals as goal

pub loop-word-preserved : goal.loop-word-preserved
loop-word-preserved c =
    let more = joined_more c.args.words.now c.loop-word.word-index (omega arith) in
    rw (more, ← c.loop-word.invariant) c.in_ok-push_digits.ensures
