use Rattle.gorsepick.specs.Made.{call_made}
use Rattle.gorsepick.proofs.Made.{made_so}
use Rattle.gorsepick.proofs.session.Session.make.Goals as goal

pub returns : goal.returns
returns c =
    let begun = c.begin_book.ensures in
    let counted = c.count_commit.ensures in
    made_so c.args.self.now c.begin_book.new.self c.call-answer.new.self c.enter.new.self _ (call_made c.args.made) c.call-answer.result c.show_call.result
    (record { store = begun.store; engine = begun.engine; arithmetic = begun.arithmetic }) c.call-answer.ensures.rule c.call-answer.ensures.puts c.call-answer.ensures.arithmetic c.enter.ensures
    (record { store = counted.store; engine = counted.engine; arithmetic = counted.arithmetic }) c.show_call.ensures
