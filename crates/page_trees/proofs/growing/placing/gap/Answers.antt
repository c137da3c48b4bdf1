use Rattle.std.proofs.Common.{◌∙◌, ap}
use Rattle.page_trees.specs.Placing.{place_within, point_of}
use Rattle.page_trees.proofs.StandingPlaces.{place_agrees, place_point}
use Rattle.page_trees.proofs.growing.placing.gap.Goals as goal

pub returns-clause-rule : goal.returns-clause-rule
returns-clause-rule c built are s fostering shallow =
    place_point built c.args.tree.now _ c.is_forest.ensures are (
    c.gap_within.ensures.value ∙ ap (λ os. point_of c.args.tree.now (place_within c.args.tree.now c.args.placing os)) c.as_slice.ensures
    ∙ place_agrees built c.args.tree.now c.args.placing c.args.stack.now.elements.items are s fostering shallow)
