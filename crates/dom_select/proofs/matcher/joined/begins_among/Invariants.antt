use Rattle.std.proofs.Common.{◌≡◌, ◌-◌, ◌≤◌, length, drop}
use Rattle.std.specs.List.{flat_map}
use Rattle.dom_links.specs.Texts.{text_at}
use Rattle.dom_select.specs.Texts.{begins_among}
use Rattle.dom_select.proofs.matcher.joined.begins_among.Given as goal

-- the places that are left decide
abbrev pub invariant-loop-n : goal.invariant-loop-n
invariant-loop-n l = record {
  within : l.n ≤ length l.text;
  decides : begins_among (drop l.n l.text) (flat_map (text_at l.tree) l.rest.left) l.inner ≡ begins_among l.text (flat_map (text_at l.tree) l.rest.left) l.inner;
}

abbrev pub decreases-loop-n : goal.decreases-loop-n
decreases-loop-n l = length l.text - l.n
