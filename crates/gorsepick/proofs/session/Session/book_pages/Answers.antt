use Rattle.std.proofs.Common.{refl}
use Rattle.gorsepick.proofs.session.Session.book_pages.Goals as goal

pub returns-clause-pages : goal.returns-clause-pages
returns-clause-pages c = (c.match-begun.result, refl)
