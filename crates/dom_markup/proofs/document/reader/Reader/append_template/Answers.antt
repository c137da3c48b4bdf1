use Rattle.std.proofs.Common.{refl, ◌+◌, ℕ, length, subst}
use Rattle.dom_links.specs.Growth.{with_template}
use Rattle.dom_trees.specs.NewNodes.{element_with}
use Rattle.dom_markup.specs.TreeUnderConstruction.{GrowsTo}
use Rattle.dom_markup.proofs.rows.Steps.{may_grow}
use Rattle.dom_markup.proofs.document.reader.Reader.append_template.Goals as goal

pub append_template-requires : goal.append_template-requires
append_template-requires c = may_grow c.args.self.now c.parent-parent.result c.parent-parent.ensures c.requires

pub returns : goal.returns
returns c =
    let old = c.args.self.now.tree in
    let contents = length old.content + 1 in
    record {
      stack = refl;
      grown = subst (λ (p : ℕ). GrowsTo c.append_template.result c.append_template.new.self contents (with_template p (element_with c.args.name c.args.self.now.spare.items contents) old)) c.parent-parent.ensures c.append_template.ensures;
    }
