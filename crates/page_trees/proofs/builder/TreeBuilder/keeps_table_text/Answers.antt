use Rattle.std.proofs.Common.{◌∙◌}
use Rattle.page_trees.proofs.TableTexts.{text_kept, text_not_kept}
use Rattle.page_trees.proofs.builder.TreeBuilder.keeps_table_text.Goals as goal

pub returns-in-Some : goal.returns-in-Some
returns-in-Some c t built =
    c.holds_table_text.ensures ∙ text_kept c.args.self.now.tree t _ c.current.result _ c.open.ensures.elements c.current.ensures.value c.in-Some.is built

pub returns-in-None : goal.returns-in-None
returns-in-None c t built = text_not_kept c.args.self.now.tree t _ c.current.result c.open.ensures.elements c.current.ensures.value c.in-None.is built
