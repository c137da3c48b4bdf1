use Rattle.std.proofs.Common.{◌≡◌, take}
use Rattle.dom_nodes.proofs.node_data.attrs_form.copied.Given as goal

abbrev pub invariant-loop-attr : goal.invariant-loop-attr
invariant-loop-attr l = l.made.items ≡ take l.attr-index l.attrs
