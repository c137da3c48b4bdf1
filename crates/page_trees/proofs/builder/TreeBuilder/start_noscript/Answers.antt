use Rattle.std.proofs.Common.{refl}
use Rattle.standard_trees.specs.RuleWords.{RawText}
use Rattle.page_trees.proofs.BodyElements.{noscript_kept, noscript_read}
use Rattle.page_trees.proofs.builder.TreeBuilder.start_noscript.Goals as goal

pub returns-then-self-clause-rule : goal.returns-then-self-clause-rule
returns-then-self-clause-rule c =
    noscript_read c.args.name c.args.tag.now c.args.self.now c.insert_text_element.new.self c.insert_text_element.result c.if-self.true c.insert_text_element.ensures.next
    c.insert_text_element.ensures.limits (c.insert_text_element.ensures.rule RawText refl)

pub returns-clause-rule : goal.returns-clause-rule
returns-clause-rule c =
    noscript_kept c.args.name c.args.tag.now c.args.self.now c.insert_inline.new.self c.insert_inline.result c.if-self.false c.insert_inline.ensures.next c.insert_inline.ensures.limits
    c.insert_inline.ensures.rule
