use Rattle.std.proofs.Common.{ap, arith, subst, sym, ◌∙◌}
use Rattle.std.specs.Prelude.{slice_get}
use Rattle.std.proofs.lemmas.Grind.{elements}
use Rattle.page_trees.specs.Stands.{Builds}
use Rattle.page_trees.specs.TreeState.{TreeState}
use Rattle.page_trees.proofs.CommentPlaces.{html_comment_built, none_below}
use Rattle.page_trees.proofs.HeldNumbers.{grown}
use Rattle.page_trees.proofs.growing.GrowingTree.put_comment_in_html.Goals as goal

pub returns-in_default-clause-rule : goal.returns-in_default-clause-rule
returns-in_default-clause-rule c cs spelt t html b =
    absurd (none_below c.args.self.now t b (c.in_default.ensures.value ∙ ap (λ (s : TreeState). slice_get s.stack 0) c.self.view_is) html)

pub put_comment-requires : goal.put_comment-requires
put_comment-requires c = grind (arith, elements)

pub invariant_of-self : goal.invariant_of-self
invariant_of-self c =
    (grown _ _ _ _ _ _ _ c.self.invariant.0 c.put_comment.ensures.grows, c.self.invariant.1)

pub invariant_of-self-2 : goal.invariant_of-self-2
invariant_of-self-2 c =
    (grown _ _ _ _ _ _ _ c.self.invariant.0 c.put_comment.ensures.grows, c.self.invariant.1)

pub returns-clause-rule : goal.returns-clause-rule
returns-clause-rule c cs spelt t html b =
    html_comment_built _ t _ c.in-Some.html _ cs (subst (λ (s : TreeState). Builds s t) (sym c.self.view_is) b) c.is_forest.ensures
    (grind (arith, elements)) c.in-Some.ensures.value html spelt c.in_ok-put_comment.ensures.made
