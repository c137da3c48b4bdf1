use Rattle.std.proofs.Common.{◌≡◌, ◌++◌, drop, string_bytes}
use Rattle.dom_links.specs.Texts.{text_of}
use Rattle.dom_selection.specs.Selections.{joined}
use Rattle.dom_selection.proofs.selection.Selection.text.Given as goal

abbrev pub invariant-loop-node : goal.invariant-loop-node
invariant-loop-node l = string_bytes l.joined ++ joined text_of (drop l.node-index l.node-items) ≡ joined text_of l.node-items
