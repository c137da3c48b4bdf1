use Rattle.page_trees.proofs.ElementTexts.{text_added}
use Rattle.page_trees.proofs.formatting.index.attr_texts.Goals as goal

pub loop-attr-preserved : goal.loop-attr-preserved
loop-attr-preserved c =
    text_added c.loop-attr.texts.keys c.insert.new.self.keys c.in_ok-attr_text.field-0 c.in-Some.attr.now c.loop-attr.rest.now c.in-Some.others.now _
    c.in_ok-insert.ensures.keys c.in_ok-attr_text.ensures c.in-Some.ensures.cases.0 c.loop-attr.invariant
