use Rattle.std.proofs.Common.{◌≡◌, ◌++◌, take}
use Rattle.dom_nodes.proofs.node_data.Attrs.append.Given as goal

-- the attributes so far are copied
abbrev pub invariant-loop-attr : goal.invariant-loop-attr
invariant-loop-attr l = l.made ≡ l.fn.self ++ take l.attr-index l.attrs
