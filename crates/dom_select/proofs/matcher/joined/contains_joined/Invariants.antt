use Rattle.std.proofs.Common.{◌≡◌}
use Rattle.std.specs.List.{flat_map}
use Rattle.dom_links.specs.Texts.{text_at, text_of}
use Rattle.dom_nodes.specs.declared.case_sensitivity.CaseSensitivity.TheVariants.{CaseSensitive}
use Rattle.dom_selectors.specs.Comparisons.{has_within}
use Rattle.dom_select.proofs.matcher.joined.contains_joined.Given as goal

-- the texts that are left decide
abbrev pub invariant-loop-next : goal.invariant-loop-next
invariant-loop-next l = has_within CaseSensitive (flat_map (text_at l.tree) l.rest.left) l.wanted ≡ has_within CaseSensitive (text_of l.tree l.id) l.inner
