use Rattle.std.proofs.Common.{◌∙◌, ◌∷◌, [], ap, subst}
use Rattle.dom_nodes.specs.Changes.{on_element, renamed, with_attr, with_attrs, without_name}
use Rattle.dom_nodes.specs.Classes.{with_classes, without_classes}
use Rattle.dom_nodes.specs.declared.node_data.changing.Change.TheVariants.{AddClass, RemoveAttr, RemoveClass, Rename, SetAttr}
use Rattle.dom_trees.specs.Edits.{normalizing, setting_text}
use Rattle.dom_query.specs.Editing.{EditsOrFails}
use Rattle.dom_query.proofs.EditLemmas.{line-rewrites}
use Rattle.dom_query.proofs.runner.editing.edit_selected.Goals as goal

pub returns-in-SetAttr : goal.returns-in-SetAttr
returns-in-SetAttr c =
    let name = c.as_str-name.ensures in
    let value = c.as_str-value.ensures in
    rw c.in-SetAttr.is (line-rewrites c.do_each.result c.args.tree.now c.do_each.new.tree c.args.nodes.now (SetAttr c.as_str-name.result c.as_str-value.result) _
    (ap (λ t. with_attrs (with_attr t c.as_str-value.result.now)) name ∙ ap (λ t. with_attrs (with_attr c.in-SetAttr.name t)) value) c.do_each.ensures)

pub returns-in-RemoveAttr : goal.returns-in-RemoveAttr
returns-in-RemoveAttr c =
    rw c.in-RemoveAttr.is (line-rewrites c.do_each-in-RemoveAttr.result c.args.tree.now c.do_each-in-RemoveAttr.new.tree c.args.nodes.now (RemoveAttr c.as_str.result) _ (ap (λ t. with_attrs (without_name t)) c.as_str.ensures) c.do_each-in-RemoveAttr.ensures)

pub returns-in-Rename : goal.returns-in-Rename
returns-in-Rename c =
    rw c.in-Rename.is (line-rewrites c.do_each-in-Rename.result c.args.tree.now c.do_each-in-Rename.new.tree c.args.nodes.now (Rename c.as_str-in-Rename.result) _ (ap (λ t. on_element (renamed t)) c.as_str-in-Rename.ensures) c.do_each-in-Rename.ensures)

pub returns-in-AddClass : goal.returns-in-AddClass
returns-in-AddClass c =
    rw c.in-AddClass.is (line-rewrites c.do_each-in-AddClass.result c.args.tree.now c.do_each-in-AddClass.new.tree c.args.nodes.now (AddClass c.as_str-in-AddClass.result) _ (ap (λ t. with_attrs (with_classes t)) c.as_str-in-AddClass.ensures) c.do_each-in-AddClass.ensures)

pub returns-in-RemoveClass : goal.returns-in-RemoveClass
returns-in-RemoveClass c =
    rw c.in-RemoveClass.is (line-rewrites c.do_each-in-RemoveClass.result c.args.tree.now c.do_each-in-RemoveClass.new.tree c.args.nodes.now (RemoveClass c.as_str-in-RemoveClass.result) _ (ap (λ t. with_attrs (without_classes t)) c.as_str-in-RemoveClass.ensures) c.do_each-in-RemoveClass.ensures)

pub returns-in-SetText : goal.returns-in-SetText
returns-in-SetText c =
    rw c.in-SetText.is (subst (λ t. EditsOrFails c.do_each-in-SetText.result c.args.tree.now c.do_each-in-SetText.new.tree c.args.nodes.now (λ n. setting_text n t))
    c.as_str-in-SetText.ensures c.do_each-in-SetText.ensures)

pub returns-in-Put : goal.returns-in-Put
returns-in-Put c = rw c.in-Put.is c.do_each-in-Put.ensures

pub returns-in-Remove : goal.returns-in-Remove
returns-in-Remove c = rw c.in-Remove.is c.do_each-in-Remove.ensures

pub returns-in-Unwrap : goal.returns-in-Unwrap
returns-in-Unwrap c = rw c.in-Unwrap.is c.do_each-in-Unwrap.ensures

pub returns-in-Normalize : goal.returns-in-Normalize
returns-in-Normalize c =
    rw c.in-Normalize.is (subst (λ root. EditsOrFails c.do_each-in-Normalize.result c.args.tree.now c.do_each-in-Normalize.new.tree (root ∷ []) normalizing)
    c.root.ensures c.do_each-in-Normalize.ensures)
