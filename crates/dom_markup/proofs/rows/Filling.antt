-- A parser fills a document.
use Rattle.std.proofs.Common.{ℕ, ◌≡◌, sym, subst}
use Rattle.std.specs.Prelude.{Result}
use Rattle.dom_nodes.specs.declared.fault.EditFault.{EditFault}
use Rattle.dom_links.specs.declared.gap.InsertionPoint.{InsertionPoint}
use Rattle.dom_links.specs.declared.gap.MovedNodes.TheVariants.{Node}
use Rattle.dom_trees.specs.Edits.{Edits, moving_to}
use Rattle.dom_markup.specs.declared.document.Document.{Document}
use Rattle.dom_markup.specs.declared.document.sink.NodeOrText.{NodeOrText}
use Rattle.dom_markup.specs.declared.document.sink.NodeOrText.TheVariants.{AppendNode}
use Rattle.dom_markup.specs.Sinks.{EditsIn, KeepsNotes, putting}

-- a node was moved to the gap
pub node_put : (result : Result Unit EditFault) (old new : Document) (at gap : InsertionPoint) (child : NodeOrText) (n : ℕ) → child ≡ AppendNode n → at ≡ gap → Edits result old.tree new.tree (moving_to at (Node n)) → KeepsNotes old new →
    EditsIn result old new (putting gap child)
node_put result old new at gap child n is same edits notes =
    subst (λ (c : NodeOrText). EditsIn result old new (putting gap c)) (sym is)
    (record { edits = subst (λ (g : InsertionPoint). Edits result old.tree new.tree (moving_to g (Node n))) same edits; notes = notes })
