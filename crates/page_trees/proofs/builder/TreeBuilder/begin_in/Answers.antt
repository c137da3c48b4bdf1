use Rattle.std.proofs.Common.{refl}
use Rattle.standard_trees.specs.Building.{perform, with_tree}
use Rattle.standard_trees.specs.GrowingTree.{GrowingTree}
use Rattle.page_trees.specs.Constructs.{Constructs}
use Rattle.page_trees.specs.Contexts.{with_context, with_own_form, with_own_mode}
use Rattle.page_trees.proofs.BuilderSteps.{moved}
use Rattle.page_trees.proofs.builder.TreeBuilder.begin_in.Goals as goal

pub returns-clause-limits : goal.returns-clause-limits
returns-clause-limits c within =
    let w = c.push_own_mode.ensures.limits (c.reset_mode.ensures.limits within) in record { fault = w.fault; depth = w.depth }

pub returns-clause-rule : goal.returns-clause-rule
unfolding perform
returns-clause-rule c within b open_ kind is stands =
    let t : GrowingTree = with_own_form (with_context kind b.tree) in
    let first : Constructs (record c.args.self.now { tree = c.set_own_form.new.self }) (with_tree b t) =
    moved c.args.self.now (record c.args.self.now { tree = c.set_own_form.new.self }) c.set_own_form.new.self c.args.self.now.fault c.args.self.now.too_deep refl b t stands
    (c.set_own_form.ensures (with_context kind b.tree) (c.set_context.ensures b.tree open_ kind is stands.tree)) refl in
    c.reset_mode.ensures.rule within (with_own_mode (with_tree b t)) (c.push_own_mode.ensures.rule (c.reset_mode.ensures.limits within) (with_tree b t) first)
