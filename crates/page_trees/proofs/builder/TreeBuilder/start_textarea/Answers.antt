use Rattle.page_trees.proofs.BodyElements.{textarea_acts}
use Rattle.std.proofs.Common.{refl}
use Rattle.standard_trees.specs.RuleWords.{RcdataText}
use Rattle.page_trees.proofs.builder.TreeBuilder.start_textarea.Goals as goal

pub returns-clause-rule : goal.returns-clause-rule
returns-clause-rule c =
    textarea_acts c.args.name c.args.tag.now c.args.self.now c.insert_text_element.new.self (c.insert_text_element.ensures.rule RcdataText refl)
