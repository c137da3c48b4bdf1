use Rattle.std.proofs.Common.{refl, ℕ, length, subst}
use Rattle.dom_links.specs.Growth.{with_child}
use Rattle.dom_trees.specs.NewNodes.{text_node}
use Rattle.dom_markup.specs.TreeUnderConstruction.{GrowsTo}
use Rattle.dom_markup.proofs.rows.Steps.{may_grow}
use Rattle.dom_markup.proofs.document.reader.Reader.append_text.Goals as goal

pub append_text-requires : goal.append_text-requires
append_text-requires c = may_grow c.args.self.now c.parent-parent.result c.parent-parent.ensures c.requires

pub returns : goal.returns
returns c =
    let old = c.args.self.now.tree in
    record {
      stack = refl;
      grown = subst (λ (p : ℕ). GrowsTo c.append_text.result c.append_text.new.self (length old.content) (with_child p (text_node c.args.text.now) old)) c.parent-parent.ensures c.append_text.ensures;
    }
