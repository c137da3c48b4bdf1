use Rattle.std.proofs.Common.{◌≡◌}
use Rattle.std.specs.List.{flat_map}
use Rattle.dom_links.specs.Texts.{text_at}
use Rattle.dom_nodes.specs.declared.case_sensitivity.CaseSensitivity.TheVariants.{CaseSensitive}
use Rattle.dom_selectors.specs.Comparisons.{begins_with}
use Rattle.dom_select.proofs.matcher.joined.goes_on.Given as goal

-- the texts that are left decide
abbrev pub invariant-loop-id : goal.invariant-loop-id
invariant-loop-id l = begins_with CaseSensitive (flat_map (text_at l.tree) l.id-iterator.left) l.left
    ≡ begins_with CaseSensitive (flat_map (text_at l.tree) l.fn.rest.left) l.inner
