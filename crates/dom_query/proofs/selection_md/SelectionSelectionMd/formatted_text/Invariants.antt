use Rattle.std.proofs.Common.{◌≡◌, ◌++◌, drop, string_bytes}
use Rattle.dom_md.specs.Formatted.{formatted_node}
use Rattle.dom_selection.specs.Selections.{joined}
use Rattle.dom_query.proofs.selection_md.SelectionSelectionMd.formatted_text.Given as goal

abbrev pub invariant-loop-node : goal.invariant-loop-node
invariant-loop-node l = string_bytes l.joined ++ joined formatted_node (drop l.node-index l.node-items) ≡ joined formatted_node l.node-items
