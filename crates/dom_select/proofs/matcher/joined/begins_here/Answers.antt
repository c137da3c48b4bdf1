use Rattle.std.proofs.Common.{ap, sym, ◌∙◌}
use Rattle.std.specs.List.{flat_map}
use Rattle.dom_links.specs.Texts.{text_at}
use Rattle.dom_nodes.specs.declared.case_sensitivity.CaseSensitivity.TheVariants.{CaseSensitive}
use Rattle.dom_selectors.specs.Comparisons.{begins_with}
use Rattle.dom_select.proofs.FollowLemmas.{is_nil}
use Rattle.dom_select.proofs.JoinedLemmas.{begins_empty, begins_not, begins_on}
use Rattle.dom_select.proofs.matcher.joined.begins_here.Goals as goal

pub returns-in_default : goal.returns-in_default
returns-in_default c = sym (begins_not c.args.text.now _ c.args.inner.now c.in_default.ensures)

pub returns-then-is_empty : goal.returns-then-is_empty
returns-then-is_empty c =
    sym (begins_empty _ c.in-Some.behind.now (is_nil _ (sym c.is_empty.ensures ∙ c.if-is_empty.true)))
    ∙ sym (begins_on c.args.text.now _ c.args.inner.now c.in-Some.behind.now c.in-Some.ensures.0 c.in-Some.ensures.1)

pub returns : goal.returns
returns c =
    c.goes_on.ensures
    ∙ ap (λ walk. begins_with CaseSensitive (flat_map (text_at c.args.tree.now) walk.left) c.in-Some.behind.now) c.again.ensures
    ∙ sym (begins_on c.args.text.now _ c.args.inner.now c.in-Some.behind.now c.in-Some.ensures.0 c.in-Some.ensures.1)
