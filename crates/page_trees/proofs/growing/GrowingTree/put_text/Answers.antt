use Rattle.std.proofs.Common.{◌∷◌, subst, sym, ◌∙◌}
use Rattle.dom_links.specs.Sound.{IsOpenGap}
use Rattle.standard_trees.specs.GrowingTree.{place}
use Rattle.page_trees.specs.Stands.{Builds}
use Rattle.page_trees.specs.TreeState.{TreeState}
use Rattle.page_trees.proofs.BuiltTexts.{document_built, in_place, root_is, text_built}
use Rattle.page_trees.proofs.HeldNumbers.{grown}
use Rattle.page_trees.proofs.growing.GrowingTree.put_text.Goals as goal

pub invariant_of-self : goal.invariant_of-self
invariant_of-self c =
    (grown _ _ _ _ _ _ _ c.self.invariant.0 c.put_text.ensures.grows, c.self.invariant.1)

pub invariant_of-self-2 : goal.invariant_of-self-2
invariant_of-self-2 c =
    (grown _ _ _ _ _ _ _ c.self.invariant.0 c.put_text.ensures.grows, c.self.invariant.1)

pub returns-clause-rule : goal.returns-clause-rule
returns-clause-rule c x xs in_head spelt t fosters b =
    let here = subst (λ (s : TreeState). Builds s t) (sym c.self.view_is) b in
    let opens = subst (λ (s : TreeState). IsOpenGap c.gap_at_any_depth-gap.result s.forest) (sym c.self.view_is) c.gap_at_any_depth-gap.ensures.open in
    let point = in_place c.args.placing t c.gap_at_any_depth-gap.result in_head (c.gap_at_any_depth-gap.ensures.rule t fosters b) in
    let inside = root_is _ t c.gap_at_any_depth-gap.result (place t) here point ∙ sym c.is_in_root.ensures ∙ c.if-is_in_root.false in
    text_built _ t _ _ _ x xs here c.is_forest-2.ensures opens point inside spelt c.in_ok-put_text.ensures.made

pub returns-then-is_in_root-clause-rule : goal.returns-then-is_in_root-clause-rule
returns-then-is_in_root-clause-rule c x xs in_head spelt t fosters b =
    let here = subst (λ (s : TreeState). Builds s t) (sym c.self.view_is) b in
    let point = in_place c.args.placing t c.gap_at_any_depth-gap.result in_head (c.gap_at_any_depth-gap.ensures.rule t fosters b) in
    let outside = root_is _ t c.gap_at_any_depth-gap.result (place t) here point ∙ sym c.is_in_root.ensures ∙ c.if-is_in_root.true in
    document_built _ t (x ∷ xs) b outside
