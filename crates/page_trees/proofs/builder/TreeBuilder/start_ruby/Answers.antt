use Rattle.std.proofs.Common.{[], codes, refl, ◌∷◌}
use Rattle.standard_trees.specs.RuleWords.{InsertElement}
use Rattle.page_trees.specs.BodyTags.{implied_in}
use Rattle.page_trees.specs.Stands.{text_list}
use Rattle.page_trees.proofs.BodyControls.{changed_then}
use Rattle.page_trees.proofs.builder.TreeBuilder.start_ruby.Goals as goal

pub returns-clause-rule : goal.returns-clause-rule
returns-clause-rule c known =
    changed_then (implied_in (codes "ruby" ∷ []) (text_list c.args.except)) (InsertElement ∷ []) c.args.name c.args.tag.now c.args.self.now c.imply_ends_in.new.self
    c.insert_done.new.self (c.imply_ends_in.ensures.rule refl known) c.insert_done.ensures.limits c.insert_done.ensures.rule
