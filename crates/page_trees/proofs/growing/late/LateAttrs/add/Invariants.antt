use Rattle.std.proofs.Common.{◌≡◌, List, length, true}
use Rattle.dom_nodes.specs.declared.name.Attr.{Attr}
use Rattle.page_tokens.specs.Attributes.{are_distinct}
use Rattle.page_trees.specs.LateAttrs.{AddsAbsent, Knows}
use Rattle.page_trees.specs.declared.growing.late.LateAttrs.{LateAttrs}
use Rattle.page_trees.proofs.growing.late.LateAttrs.add.Given as goal

-- the attributes that are left decide
abbrev pub invariant-loop-attr : goal.invariant-loop-attr
invariant-loop-attr l = record {
  distinct : are_distinct l.rest ≡ true;
  known : (own : List Attr) → Knows own l.fn.self → Knows own l.self;
  decide : (own : List Attr) (new : LateAttrs) → Knows own l.fn.self → AddsAbsent own l.rest l.self new → AddsAbsent own l.tag.attrs.items l.fn.self new;
}

abbrev pub decreases-loop-attr : goal.decreases-loop-attr
decreases-loop-attr l = length l.rest
