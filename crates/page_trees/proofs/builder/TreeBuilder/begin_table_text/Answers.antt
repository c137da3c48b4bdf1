use Rattle.page_trees.proofs.TableTexts.{text_begins}
use Rattle.page_trees.proofs.builder.TreeBuilder.begin_table_text.Goals as goal

pub returns-clause-rule : goal.returns-clause-rule
returns-clause-rule c = text_begins c.args.self.now _ _ c.again_in.ensures.mode c.clear.ensures.bytes
