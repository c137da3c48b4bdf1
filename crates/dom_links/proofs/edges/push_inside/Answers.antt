use Rattle.std.proofs.Common.{◌∙◌, refl, sym}
use Rattle.std.proofs.lemmas.Result.{on_ok_weaker}
use Rattle.dom_links.specs.Forest.{forest_of}
use Rattle.dom_links.proofs.walks.EdgeLemmas.{all-pushed}
use Rattle.dom_links.proofs.edges.push_inside.Goals as goal

pub returns-in-Nothing : goal.returns-in-Nothing
returns-in-Nothing g c = rw (sym c.inside.ensures ∙ c.in-Nothing.is) refl

pub returns-in-Children : goal.returns-in-Children
returns-in-Children g c = rw (sym c.inside.ensures ∙ c.in-Children.is) c.push_children.ensures

pub returns-in_ok-push_children-in-All : goal.returns-in_ok-push_children-in-All
returns-in_ok-push_children-in-All g c =
    on_ok_weaker c.push_row.result
    (λ more. all-pushed g.D.Descent.descending (forest_of c.args.nodes.now) c.requires.sound.forest c.args.id c.args.node.now.content c.requires.node.content_is (sym c.inside.ensures ∙ c.in-All.is) _ _ _ c.in_ok-push_children-in-All.ensures (rw c.template_contents.ensures at more))
    c.push_row.ensures
