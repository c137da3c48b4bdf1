use Rattle.page_trees.proofs.TokenStates.{comment_in_html, edit_limits}
use Rattle.page_trees.proofs.builder.TreeBuilder.put_comment_in_html.Goals as goal

pub returns-clause-limits : goal.returns-clause-limits
returns-clause-limits c = edit_limits c.args.self.now _ _ _ c.keep.ensures

pub returns-clause-rule : goal.returns-clause-rule
returns-clause-rule c cs spelt = comment_in_html c.args.self.now _ _ _ cs c.keep.ensures (c.put_comment_in_html-put.ensures.rule cs spelt)
