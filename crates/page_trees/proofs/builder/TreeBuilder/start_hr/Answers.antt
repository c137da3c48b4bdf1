use Rattle.std.proofs.Common.{[], codes, refl, ◌∷◌}
use Rattle.standard_trees.specs.RuleWords.{InsertElement, Pop}
use Rattle.page_trees.specs.BodyTags.{implied_in}
use Rattle.page_trees.specs.declared.name.Name.{Name}
use Rattle.page_trees.proofs.BodyControls.{changed_then}
use Rattle.page_trees.proofs.builder.TreeBuilder.start_hr.Goals as goal

pub returns-clause-rule : goal.returns-clause-rule
returns-clause-rule c =
    changed_then (implied_in (codes "select" ∷ []) []) (InsertElement ∷ Pop ∷ []) Name.Hr c.args.tag.now c.args.self.now c.imply_ends_in.new.self c.insert_void.new.self
    (c.imply_ends_in.ensures.rule refl tt) c.insert_void.ensures.limits c.insert_void.ensures.rule
