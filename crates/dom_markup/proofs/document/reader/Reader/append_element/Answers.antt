use Rattle.std.proofs.Common.{◌≡◌, ◌+◌, subst, length, true, false}
use Rattle.dom_nodes.specs.declared.name.NameParts.{NameParts}
use Rattle.dom_links.specs.Growth.{with_child, with_template}
use Rattle.dom_trees.specs.NewNodes.{element_with}
use Rattle.dom_markup.specs.Bytes.{folded}
use Rattle.dom_markup.specs.TreeUnderConstruction.{plain_element}
use Rattle.dom_markup.specs.Names.{is_template}
use Rattle.dom_markup.specs.Reader.{Grows, parent_number}
use Rattle.dom_markup.proofs.rows.Steps.{plain_made, template_made}
use Rattle.dom_markup.proofs.document.reader.Reader.append_element.Goals as goal

pub returns-then-not-is_template : goal.returns-then-not-is_template
returns-then-not-is_template c =
    let plain : is_template (folded c.args.started.written.now) ≡ false = search in
    let old = c.args.self.now in
    plain_made _ _ c.append_plain.result c.args.started _ plain
    (subst (λ (n : NameParts). Grows old c.append_plain.new.self c.append_plain.result (length old.tree.content) (with_child (parent_number old) (plain_element n old.spare.items) old.tree)) c.html-name.ensures c.append_plain.ensures)

pub returns : goal.returns
returns c =
    let template : is_template (folded c.args.started.written.now) ≡ true = search in
    let old = c.args.self.now in
    let contents = length old.tree.content + 1 in
    template_made _ _ c.append_template.result c.args.started _ template
    (subst (λ (n : NameParts). Grows old c.append_template.new.self c.append_template.result contents (with_template (parent_number old) (element_with n old.spare.items contents) old.tree)) c.html-name.ensures c.append_template.ensures)
