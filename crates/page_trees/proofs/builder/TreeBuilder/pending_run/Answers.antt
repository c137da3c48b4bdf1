use Rattle.page_trees.proofs.TableTexts.{text_added, text_limits}
use Rattle.page_trees.proofs.builder.TreeBuilder.pending_run.Goals as goal

pub returns-clause-limits : goal.returns-clause-limits
returns-clause-limits c = text_limits c.args.self.now _ c.push_text-put.new.text c.push_text-put.result _ c.keep.ensures

pub returns-clause-rule : goal.returns-clause-rule
returns-clause-rule c cs spelt is plain = text_added c.args.self.now _ c.push_text-put.new.text c.push_text-put.result c.holds_letters.result c.args.kind c.args.text.now cs c.keep.ensures c.holds_letters.ensures
    c.push_text-put.ensures spelt is plain
