use Rattle.std.proofs.Common.{map, ap, ◌∙◌}
use Rattle.page_trees.specs.Foreign.{attr_in}
use Rattle.page_trees.proofs.StandingEdits.{element_changes, tag_next}
use Rattle.page_trees.proofs.growing.edits.put_element.Goals as goal

pub returns-clause-made : goal.returns-clause-made
returns-clause-made c =
    tag_next _ _ _ _ _ c.args.tag.now _ _ _ _ c.in_ok-id.ensures.made c.in_ok-written.ensures (c.in_ok-attrs.ensures ∙ ap (map (attr_in c.args.ns)) c.as_slice.ensures.value) c.flags_of-flags.ensures.template c.flags_of-flags.ensures.annotation

pub returns-clause-rule : goal.returns-clause-rule
returns-clause-rule c kind is =
    element_changes _ _ _ _ _ _ kind c.is_forest.ensures c.requires is
    (tag_next _ _ _ _ _ c.args.tag.now _ _ _ _ c.in_ok-id.ensures.made c.in_ok-written.ensures (c.in_ok-attrs.ensures ∙ ap (map (attr_in c.args.ns)) c.as_slice.ensures.value) c.flags_of-flags.ensures.template c.flags_of-flags.ensures.annotation).forest
