use Rattle.std.proofs.Common.{Bool, ap, refl, subst}
use Rattle.standard_trees.specs.Formatting.{adoption}
use Rattle.page_trees.specs.Listing.{AdoptsBy}
use Rattle.page_trees.specs.declared.builder.TreeBuilder.{TreeBuilder}
use Rattle.page_trees.proofs.FormattingTags.{adopted_for_tag, adopted_in_vain, other_adopted}
use Rattle.page_trees.proofs.builder.TreeBuilder.adopt.Goals as goal

pub returns-in-Ok-true-clause-rule : goal.returns-in-Ok-true-clause-rule
returns-in-Ok-true-clause-rule c known =
    adopted_for_tag c.args.name c.args.self.now (record c.args.self.now { tree = c.adopt.new.self }) c.adopt.new.self refl
    (subst (λ (x : Bool). AdoptsBy adoption c.args.name c.args.self.now.placing.foster c.args.self.now.tree c.adopt.new.self x) c.in-Ok-true.field-0-test (c.in-Ok-true.ensures known))

pub returns-in-Err-clause-rule : goal.returns-in-Err-clause-rule
returns-in-Err-clause-rule c known =
    adopted_in_vain c.args.name c.args.self.now c.keep.new.self c.args.self.now.fault c.in-Err.fault (ap (λ (s : TreeBuilder). s.fault) c.keep.ensures)

pub returns-in-Ok-false-clause-rule : goal.returns-in-Ok-false-clause-rule
returns-in-Ok-false-clause-rule c known =
    other_adopted c.args.name c.args.self.now (record c.args.self.now { tree = c.close_named.new.self }) c.adopt.new.self c.close_named.new.self refl
    (subst (λ (x : Bool). AdoptsBy adoption c.args.name c.args.self.now.placing.foster c.args.self.now.tree c.adopt.new.self x) c.in-Ok-false.field-0-test (c.in-Ok-false.ensures known))
    (c.close_named.ensures.rule known)
