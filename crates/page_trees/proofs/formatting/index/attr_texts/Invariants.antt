use Rattle.std.proofs.Common.{◌≡◌, [], length, map, string_bytes}
use Rattle.page_trees.specs.Likeness.{texts_with}
use Rattle.page_trees.proofs.formatting.index.attr_texts.Given as goal

-- the texts so far, and the attributes that are left, decide
abbrev pub invariant-loop-attr : goal.invariant-loop-attr
invariant-loop-attr l = texts_with (map string_bytes l.texts.keys) l.rest ≡ texts_with [] l.attrs

abbrev pub decreases-loop-attr : goal.decreases-loop-attr
decreases-loop-attr l = length l.rest
