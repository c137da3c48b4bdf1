use Rattle.std.proofs.Common.{arith, ap, sym, ◌∙◌, ◌++◌}
use Rattle.std.proofs.lemmas.List.{take_rest}
use Rattle.dom_nodes.specs.declared.case_sensitivity.CaseSensitivity.TheVariants.{CaseSensitive}
use Rattle.dom_selectors.specs.Comparisons.{begins_with}
use Rattle.std.specs.List.{flat_map}
use Rattle.dom_links.specs.Texts.{text_at}
use Rattle.dom_select.proofs.JoinedLemmas.{among_here, among_later}
use Rattle.dom_select.proofs.matcher.joined.begins_among.Goals as goal

pub returns-then-begins_here : goal.returns-then-begins_here
returns-then-begins_here c =
    sym (among_here c.args.text.now (flat_map (text_at c.args.tree.now) c.args.rest.now.left) c.args.inner.now c.loop-n.n c.loop-n-test.true (sym (ap (λ t. begins_with CaseSensitive (t ++ flat_map (text_at c.args.tree.now) c.args.rest.now.left) c.args.inner.now) (take_rest c.args.text.now c.loop-n.n)) ∙ sym c.begins_here.ensures ∙ c.if-begins_here.true))
    ∙ c.loop-n.invariant.decides

pub loop-n-preserved : goal.loop-n-preserved
loop-n-preserved c = record {
  within = omega arith;
  decides = among_later c.args.text.now (flat_map (text_at c.args.tree.now) c.args.rest.now.left) c.args.inner.now c.loop-n.n c.loop-n-test.true (sym (ap (λ t. begins_with CaseSensitive (t ++ flat_map (text_at c.args.tree.now) c.args.rest.now.left) c.args.inner.now) (take_rest c.args.text.now c.loop-n.n)) ∙ sym c.begins_here.ensures ∙ c.if-begins_here.false)
      ∙ c.loop-n.invariant.decides;
}
