use Rattle.std.proofs.Common.{refl, ℕ, length, subst}
use Rattle.dom_links.specs.Growth.{with_child}
use Rattle.dom_markup.specs.TreeUnderConstruction.{GrowsTo, plain_element}
use Rattle.dom_markup.proofs.rows.Steps.{may_grow}
use Rattle.dom_markup.proofs.document.reader.Reader.append_plain.Goals as goal

pub append_element-requires : goal.append_element-requires
append_element-requires c = may_grow c.args.self.now c.parent-parent.result c.parent-parent.ensures c.requires

pub returns : goal.returns
returns c =
    let old = c.args.self.now.tree in
    record {
      stack = refl;
      grown = subst (λ (p : ℕ). GrowsTo c.append_element.result c.append_element.new.self (length old.content) (with_child p (plain_element c.args.name c.args.self.now.spare.items) old)) c.parent-parent.ensures c.append_element.ensures;
    }
