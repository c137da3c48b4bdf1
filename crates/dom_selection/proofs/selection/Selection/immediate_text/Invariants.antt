use Rattle.std.proofs.Common.{◌≡◌, ◌++◌, drop, string_bytes}
use Rattle.dom_links.specs.Texts.{immediate_text_of}
use Rattle.dom_selection.specs.Selections.{joined}
use Rattle.dom_selection.proofs.selection.Selection.immediate_text.Given as goal

abbrev pub invariant-loop-node : goal.invariant-loop-node
invariant-loop-node l = string_bytes l.joined ++ joined immediate_text_of (drop l.node-index l.node-items) ≡ joined immediate_text_of l.node-items
