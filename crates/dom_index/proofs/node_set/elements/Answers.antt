use Rattle.std.proofs.Common.{subst}
use Rattle.dom_index.specs.TypeBytes.{AreElements}
use Rattle.dom_index.proofs.TypeFilterLemmas.{elements_decided}
use Rattle.dom_index.proofs.node_set.elements.Goals as goal

pub returns : goal.returns
returns c =
    let preorder = c.args.preorder.now in
    elements_decided preorder.tree.now preorder.type_bytes.items preorder.named c.mark_elements.new.table.items (subst (λ bytes. AreElements bytes c.mark_elements.new.table.items) c.deref.ensures.value c.mark_elements.ensures)
