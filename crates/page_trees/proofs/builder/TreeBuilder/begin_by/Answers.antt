use Rattle.std.proofs.Common.{◌∙◌}
use Rattle.page_trees.proofs.DoctypeTexts.{part_is, same_parts, same_quirks}
use Rattle.page_trees.proofs.TokenStates.{doctype_appended, doctype_limits}
use Rattle.page_trees.proofs.builder.TreeBuilder.begin_by.Goals as goal

pub returns-clause-limits : goal.returns-clause-limits
returns-clause-limits c = doctype_limits c.args.self.now _ _ _ _ _ c.keep.ensures

pub returns-clause-rule : goal.returns-clause-rule
returns-clause-rule c d is first =
    doctype_appended c.args.self.now _ _ _ _ d c.keep.ensures (c.mode_of-self.ensures ∙ same_quirks c.args.doctype.now d is) first
    (c.put_doctype-put.ensures.rule d (same_parts _ _ _ d (c.text_of-name.ensures ∙ part_is c.args.doctype.now.name d.name is.name)
    (c.text_of-public_id.ensures ∙ part_is c.args.doctype.now.public_id d.public_id is.public_id)
    (c.text_of-system_id.ensures ∙ part_is c.args.doctype.now.system_id d.system_id is.system_id)))
