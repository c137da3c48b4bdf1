use Rattle.std.proofs.Common.{refl, subst, sym}
use Rattle.page_trees.specs.PagesRead.{ReadsPiece}
use Rattle.page_trees.proofs.PageTurns.{some_read}
use Rattle.page_trees.proofs.reading.PageReader.read_token.Goals as goal

pub returns-clause-reads : goal.returns-clause-reads
returns-clause-reads c within =
    subst (λ left. ReadsPiece c.args.text.now left c.args.self.now c.tell.new.self) (sym (c.left.ensures.rest within.fault))
    (some_read c.read_kind.new.kind c.args.self.now (record c.args.self.now { tokens = c.read_kind.new.self }) c.tell.new.self c.args.text.now c.in-Ok.rest.now c.pages.ensures.texts
    c.pages.ensures.tokens refl c.in-Ok.ensures.standard c.tell.ensures.builds)
