use Rattle.std.proofs.Common.{◌∙◌, ap}
use Rattle.page_trees.specs.Placing.{point_of}
use Rattle.page_trees.proofs.StandingPlaces.{place_point, spot_agrees}
use Rattle.page_trees.proofs.growing.placing.gap_in.Goals as goal

pub returns-clause-lies : goal.returns-clause-lies
returns-clause-lies c = c.gap_of.ensures.lies _ c.place_in.ensures.lies

pub returns-clause-rule : goal.returns-clause-rule
returns-clause-rule c built are s fostering =
    place_point built c.args.tree.now _ c.is_forest.ensures are (
    c.gap_of.ensures.value ∙ ap (point_of c.args.tree.now) c.place_in.ensures.value
    ∙ spot_agrees built c.args.tree.now c.args.foster c.args.elements.now are s fostering)
