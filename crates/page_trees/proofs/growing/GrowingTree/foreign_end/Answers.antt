use Rattle.std.proofs.Common.{arith}
use Rattle.page_trees.proofs.ForeignEnds.{ends_at, ends_in_html, ends_nowhere}
use Rattle.page_trees.proofs.growing.GrowingTree.foreign_end.Goals as goal

pub returns-then-top-html : goal.returns-then-top-html
returns-then-top-html c text is t b =
    ends_at text _ c.args.self.now t _ _ _
    (record { same = c.self.view_is; builds = b; foreign = c.top_foreign-top.ensures text is t b; last_html = c.top_html-html.ensures c.self.invariant.1 })
    c.if-top-html.true (omega (arith, c.if-top-html.true))

pub returns-then-html-len : goal.returns-then-html-len
returns-then-html-len c text is t b =
    ends_in_html text _ c.args.self.now t _ _ _
    (record { same = c.self.view_is; builds = b; foreign = c.top_foreign-top.ensures text is t b; last_html = c.top_html-html.ensures c.self.invariant.1 })
    c.if-top-html.false c.len.ensures c.if-html-len.true

pub returns : goal.returns
returns c text is = ends_nowhere text _ c.args.self.now _ _ c.self.view_is (c.top_html-html.ensures c.self.invariant.1) c.len.ensures c.if-html-len.false
