use Rattle.page_trees.proofs.BareElements.{bare_found, bare_other}
use Rattle.page_trees.proofs.growing.GrowingTree.has_unlisted.Goals as goal

pub returns-then-not-is_html : goal.returns-then-not-is_html
returns-then-not-is_html c known =
    bare_other _ c.args.self.now c.args.name c.in-Some.current c.is_html.result known c.self.view_is c.in-Some.ensures.value c.if-not-is_html.true c.is_html.ensures

pub returns : goal.returns
returns c known =
    bare_found _ c.args.self.now c.args.name c.in-Some.current c.index_of.result c.is_none.result c.is_html.result known c.self.view_is c.in-Some.ensures.value c.if-not-is_html.false c.is_html.ensures
    c.index_of.ensures.place c.is_none.ensures
