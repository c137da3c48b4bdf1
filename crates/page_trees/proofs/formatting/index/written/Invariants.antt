use Rattle.std.proofs.Common.{◌≡◌, ◌++◌, map, string_bytes}
use Rattle.std.specs.List.{concat}
use Rattle.page_trees.specs.Likeness.{element_text}
use Rattle.page_trees.proofs.formatting.index.written.Given as goal

-- what is written, and the texts that are still to be written, is the whole
abbrev pub invariant-loop-attr : goal.invariant-loop-attr
invariant-loop-attr l = string_bytes l.text ++ concat (map string_bytes l.attr-iterator) ≡ element_text l.element
